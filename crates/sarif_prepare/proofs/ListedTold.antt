-- The findings of results, in order.
use Rattle.std.proofs.Common.{◌≡◌, ◌<◌, ◌+◌, ◌++◌, ℕ, List, [], ◌∷◌, Option, Some, None, map, drop, length, get_or, append_assoc, refl, sym, ap, ◌∙◌}
use Rattle.std.proofs.lemmas.List.{drop_more, get_or-map}
use Rattle.std.specs.List.{cons_option}
use Rattle.sarif_model.specs.declared.kinds.State.{State}
use Rattle.sarif_model.specs.Run.{result_at}
use Rattle.sarif_runs.specs.declared.spots.Spot.{Spot}
use Rattle.sarif_runs.specs.Placed.{Placed}
use Rattle.sarif_runs.specs.Internal.Spots.{no_run, placed_at}
use Rattle.sarif_findings.specs.declared.finding.Finding.{Finding}
use Rattle.sarif_findings.specs.declared.reporting.Reporting.{Reporting}
use Rattle.sarif_results.specs.declared.draft.Draft.{Draft}
use Rattle.sarif_prepare.specs.declared.told.ReportedRun.{ReportedRun}
use Rattle.sarif_prepare.specs.Internal.Telling.{pair_at, placed_told, told_as, told_each}

told_first : (o : Option Finding) (rest : List Finding) → cons_option o rest ≡ cons_option o [] ++ rest
told_first None rest = refl
told_first (Some f) rest = refl

-- one more result
pub told_next : (reporting : Reporting) (runs : List ReportedRun) (spots : List Spot) (drafts : List Draft) (states : List (Option State)) (n : ℕ)
    → (run : ReportedRun) (none : Spot) (draft : Draft) (old new whole : List Finding)
    → n < length spots → n < length drafts → n < length states → (get_or spots n none).run < length runs
    → run ≡ get_or runs (get_or spots n none).run run → draft ≡ get_or drafts n draft
    → new ≡ old
    ++ cons_option
    (told_as reporting (placed_told run).run (result_at (placed_told run).run (get_or spots n none).seq) draft (get_or states n None)) []
    → old ++ told_each reporting (map (pair_at (map placed_told runs)) (drop n spots)) (drop n drafts) (drop n states) ≡ whole
    → new ++ told_each reporting (map (pair_at (map placed_told runs)) (drop (n + 1) spots)) (drop (n + 1) drafts) (drop (n + 1) states) ≡ whole
told_next reporting runs spots drafts states n run none draft old new whole in_spots in_drafts in_states in_runs run_is draft_is pushed held =
    let ps = map placed_told runs in
    let spot = get_or spots n none in
    let state = get_or states n None in
    let rest = told_each reporting (map (pair_at ps) (drop (n + 1) spots)) (drop (n + 1) drafts) (drop (n + 1) states) in
    let one : Placed → Option Finding = λ p. told_as reporting p.run (result_at p.run spot.seq) draft state in
    let placed : placed_at ps spot.run ≡ placed_told run = get_or-map placed_told runs spot.run run no_run in_runs ∙ ap placed_told (sym run_is) in
    let drafts_are : drop n drafts ≡ draft ∷ drop (n + 1) drafts = drop_more drafts n draft in_drafts ∙ ap (λ d. d ∷ drop (n + 1) drafts) (sym draft_is) in
    let opened : told_each reporting (map (pair_at ps) (drop n spots)) (drop n drafts) (drop n states) ≡ cons_option (one (placed_told run)) rest =
    ap (λ l. told_each reporting (map (pair_at ps) l) (drop n drafts) (drop n states)) (drop_more spots n none in_spots)
    ∙ ap (λ l. told_each reporting (map (pair_at ps) (spot ∷ drop (n + 1) spots)) l (drop n states)) drafts_are
    ∙ ap (λ l. told_each reporting (map (pair_at ps) (spot ∷ drop (n + 1) spots)) (draft ∷ drop (n + 1) drafts) l) (drop_more states n None in_states)
    ∙ ap (λ p. cons_option (one p) rest) placed in
    ap (λ t. t ++ rest) pushed
    ∙ append_assoc old (cons_option (one (placed_told run)) []) rest
    ∙ ap (λ t. old ++ t) (sym (told_first (one (placed_told run)) rest))
    ∙ ap (λ t. old ++ t) (sym opened)
    ∙ held
