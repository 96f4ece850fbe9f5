-- An output of a run was lost.
use Rattle.std.proofs.Common.{◌≡◌, ◌∙◌, ℕ, ◌+◌, ◌<◌, suc, List, [], ◌∷◌, ◌++◌, inl, inr, Option, Some, None, take, drop, length, set, get_or, true, false, refl, sym, subst, ap, add-one, take_all, arith}
use Rattle.std.proofs.lemmas.List.{drop-drop, drop_more, get_or-map, set_split, take-append-drop}
use Rattle.std.specs.Io.KnownBytes.{Appends, Keeps}
use Rattle.std.specs.Prelude.{Result, Ok, Err, OnErr}
use Rattle.std.specs.List.{AllZip}
use Rattle.sarif_model.specs.declared.merge_fault.MergeFault.{MergeFault}
use Rattle.sarif_reports.specs.declared.report.Report.{Report}
use Rattle.sarif_request.specs.declared.wanted.RequestedOutput.{RequestedOutput}
use Rattle.sarif_streams.specs.declared.counted.Counted.{Counted}
use Rattle.sarif_streams.specs.Counted.{failed_calls, inner_of, RisesIf}
use Rattle.sarif_streams.proofs.ReadersRead.{same_at}
use Rattle.sarif_program.specs.declared.complaint.Complaints.{Complaints}
use Rattle.sarif_program.specs.declared.writers.Writers.{Writers}
use Rattle.sarif_program.specs.Lost.{HasLost, Held, IsCut, IsLostIn}
use Rattle.sarif_program.specs.Reports.{IsWritten, texts_for}
use Rattle.sarif_program.proofs.Written.{AreTakenTo}

-- a fact at an error
pub on_err : {T E P : Type 0} (result : Result T E) → P → OnErr result P
on_err (Ok done) p = tt
on_err (Err error) p = p

-- what was appended stays where nothing more was
kept_after : (old mid new : Option (List ℕ)) (text : List ℕ) → Appends old mid text → Keeps mid new → Appends old new text
kept_after None mid new text all kept = tt
kept_after (Some a) None new text all kept = absurd all
kept_after (Some a) (Some b) None text all kept = absurd kept
kept_after (Some a) (Some b) (Some c) text all kept = kept ∙ all

-- the whole text was written, but the output could not be ended
pub cut_after : {W : Type 0} (contents : W → Option (List ℕ)) (text : List ℕ) (old mid new : Counted W)
    → RisesIf false (failed_calls old) (failed_calls mid) → RisesIf true (failed_calls mid) (failed_calls new)
    → Appends (contents (inner_of old)) (contents (inner_of mid)) text → Keeps (contents (inner_of mid)) (contents (inner_of new))
    → IsCut contents text old new
cut_after contents text old mid new first then all kept = record {
  rose = omega (arith, first, then);
  part = (
    length text,
    subst (λ it. Appends (contents (inner_of old)) (contents (inner_of new)) it) (sym (take_all (length text) text (omega arith)))
        (kept_after (contents (inner_of old)) (contents (inner_of mid)) (contents (inner_of new)) text all kept),
  );
}

lost_after : {W : Type 0} (contents : W → Option (List ℕ)) (told : Report → List ℕ) (os ws : List (RequestedOutput (Counted W)))
    (o w : RequestedOutput (Counted W)) (rest : List (RequestedOutput (Counted W))) (lost : Report)
    → AllZip (IsWritten contents told) os ws → lost ≡ o.report → w.report ≡ o.report → IsCut contents (told o.report) o.to w.to
    → IsLostIn contents told (os ++ o ∷ rest) (ws ++ w ∷ rest) lost
lost_after contents told [] [] o w rest lost all is same cut = inl (is, same, cut, refl)
lost_after contents told [] (v ∷ ws) o w rest lost all is same cut = absurd all
lost_after contents told (p ∷ os) [] o w rest lost all is same cut = absurd all
lost_after contents told (p ∷ os) (v ∷ ws) o w rest lost all is same cut = inr (all.0, lost_after contents told os ws o w rest lost all.1 is same cut)

-- the first i outputs were written, and the next was lost
pub lost_at : {W : Type 0} (contents : W → Option (List ℕ)) (told : Report → List ℕ) (texts : List (List ℕ))
    (os ws : List (RequestedOutput (Counted W))) (i : ℕ) (d w : RequestedOutput (Counted W)) (text : List ℕ) (lost : Report)
    → i < length os → i < length ws → drop i ws ≡ drop i os → AreTakenTo i contents texts os ws
    → get_or texts i text ≡ text → w.report ≡ (get_or ws i d).report → lost ≡ (get_or ws i d).report
    → IsCut contents text (get_or ws i d).to w.to → texts ≡ texts_for os told
    → IsLostIn contents told os (set ws i w) lost
lost_at contents told texts os ws i d w text lost in_os in_ws left all is same named cut are =
    let o = get_or os i d in
    let at = same_at ws os i d left in
    let rest = drop (i + 1) os in
    let due : text ≡ told o.report =
    sym is ∙ ap (λ them. get_or them i text) are ∙ get_or-map (λ wanted. told wanted.report) os i d text in_os in
    let here : IsCut contents text o.to w.to = subst (λ x. IsCut contents text x.to w.to) at cut in
    let cut_due : IsCut contents (told o.report) o.to w.to = subst (λ it. IsCut contents it o.to w.to) due here in
    let whole : os ≡ take i os ++ o ∷ rest = sym (take-append-drop i os) ∙ ap (λ xs. take i os ++ xs) (drop_more os i d in_os) in
    let after : drop (suc i) ws ≡ rest =
    ap (λ n. drop n ws) (sym (add-one i)) ∙ sym (drop-drop 1 i ws) ∙ ap (drop 1) left ∙ drop-drop 1 i os in
    let now : set ws i w ≡ take i ws ++ w ∷ rest = set_split ws i w in_ws ∙ ap (λ xs. take i ws ++ w ∷ xs) after in
    let found =
    lost_after contents told (take i os) (take i ws) o w rest lost (all told are) (named ∙ ap (λ x. x.report) at) (same ∙ ap (λ x. x.report) at)
    cut_due in
    subst (λ xs. IsLostIn contents told xs (set ws i w) lost) (sym whole) (subst (λ xs. IsLostIn contents told (take i os ++ o ∷ rest) xs lost) (sym now) found)

-- a loss with equal lines and an equal summary
pub lost_with : {W S P E : Type 0} (held : Held W S P E) (log : List ℕ) (report : Report → List ℕ) (old new : Writers W S P)
    (complaints after : Complaints E) (lines due_lines summary due_summary : List ℕ)
    → lines ≡ due_lines → summary ≡ due_summary
    → HasLost held (record { log = log; report = report; lines = lines; summary = summary }) old new complaints after
    → HasLost held (record { log = log; report = report; lines = due_lines; summary = due_summary }) old new complaints after
lost_with held log report old new complaints after lines due_lines summary due_summary is_lines is_summary lost =
    subst (λ it. HasLost held (record { log = log; report = report; lines = it; summary = due_summary }) old new complaints after) is_lines
    (subst (λ it. HasLost held (record { log = log; report = report; lines = lines; summary = it }) old new complaints after) is_summary lost)

-- nothing is found in an empty list
pub none_found : (fault : MergeFault) → None ≡ Some fault → ⊥
none_found fault is = cc
