-- One more report was written.
use Rattle.std.proofs.Common.{◌≡◌, ◌∙◌, ℕ, ◌+◌, ◌<◌, List, Option, take, drop, length, set, get_or, sym, subst, ap}
use Rattle.std.proofs.lemmas.List.{get_or-map, take_more, take_more_set}
use Rattle.std.proofs.lemmas.Slice.Zip.{all_zipped_more}
use Rattle.std.specs.Io.KnownBytes.{Appends}
use Rattle.std.specs.List.{AllZip}
use Rattle.sarif_reports.specs.declared.report.Report.{Report}
use Rattle.sarif_request.specs.declared.wanted.RequestedOutput.{RequestedOutput}
use Rattle.sarif_streams.specs.declared.counted.Counted.{Counted}
use Rattle.sarif_streams.specs.Counted.{inner_of}
use Rattle.sarif_streams.proofs.ReadersRead.{same_at}
use Rattle.sarif_program.specs.Reports.{IsWritten, texts_for}

-- the first i were written if these are their contents
abbrev pub AreTakenTo : {W : Type 0} → ℕ → (W → Option (List ℕ)) → List (List ℕ) → List (RequestedOutput (Counted W))
    → List (RequestedOutput (Counted W)) → Type 0
AreTakenTo i contents texts old new = (told : Report → List ℕ) → texts ≡ texts_for old told
    → AllZip (IsWritten contents told) (take i old) (take i new)

pub taken_more : {W : Type 0} (contents : W → Option (List ℕ)) (texts : List (List ℕ)) (os ws : List (RequestedOutput (Counted W))) (i : ℕ)
    (d w : RequestedOutput (Counted W)) (text : List ℕ)
    → i < length os → i < length ws → drop i ws ≡ drop i os → AreTakenTo i contents texts os ws
    → get_or texts i text ≡ text → w.report ≡ (get_or ws i d).report
    → Appends (contents (inner_of (get_or ws i d).to)) (contents (inner_of w.to)) text
    → AreTakenTo (i + 1) contents texts os (set ws i w)
taken_more contents texts os ws i d w text in_os in_ws left all is same took = λ told are.
    let at = same_at ws os i d left in
    let due : text ≡ told (get_or os i d).report =
    sym is ∙ ap (λ them. get_or them i text) are ∙ get_or-map (λ wanted. told wanted.report) os i d text in_os in
    let here = subst (λ o. Appends (contents (inner_of o.to)) (contents (inner_of w.to)) text) at took in
    let one : IsWritten contents told (get_or os i d) w = record {
      report = same ∙ ap (λ o. o.report) at;
      appended = subst (λ it. Appends (contents (inner_of (get_or os i d).to)) (contents (inner_of w.to)) it) due here;
    } in
    rw (take_more os i d in_os, take_more_set ws i w in_ws)
    (all_zipped_more (IsWritten contents told) (take i os) (take i ws) (get_or os i d) w (all told are) one)
