-- The marks of results, in order.
use Rattle.std.proofs.Common.{◌≡◌, ◌<◌, ◌+◌, ◌++◌, ℕ, Bool, false, List, [], ◌∷◌, map, drop, length, get_or, append_assoc, sym, ap, ◌∙◌}
use Rattle.std.specs.Prelude.{◌&&◌}
use Rattle.std.proofs.lemmas.List.{drop_more, get_or-map}
use Rattle.sarif_model.specs.Run.{result_at}
use Rattle.sarif_runs.specs.declared.spots.Spot.{Spot}
use Rattle.sarif_runs.specs.Placed.{Placed}
use Rattle.sarif_runs.specs.Internal.Spots.{no_run, placed_at}
use Rattle.sarif_scope.specs.Inside.{is_outside_of}
use Rattle.sarif_scope.specs.declared.gated.GatedChange.{GatedChange}
use Rattle.sarif_outside.specs.Internal.Asked.{placed_looked, scoped}
use Rattle.sarif_outside.specs.Marks.{both, is_outside_at}
use Rattle.sarif_outside.specs.declared.asked.LookedRun.{LookedRun}

-- one more result
pub asked_next : (change : GatedChange) (runs : List LookedRun) (spots : List Spot) (asked : List Bool) (n : ℕ)
    → (run : LookedRun) (none : Spot) (old new whole : List Bool)
    → n < length spots → n < length asked → (get_or spots n none).run < length runs
    → run ≡ get_or runs (get_or spots n none).run run → scoped run.change ≡ change
    → new ≡ old
    ++ (get_or asked n false && is_outside_of (scoped run.change) (placed_looked run).run (result_at (placed_looked run).run (get_or spots n none).seq)) ∷ []
    → old ++ both (drop n asked) (map (is_outside_at change (map placed_looked runs)) (drop n spots)) ≡ whole
    → new ++ both (drop (n + 1) asked) (map (is_outside_at change (map placed_looked runs)) (drop (n + 1) spots)) ≡ whole
asked_next change runs spots asked n run none old new whole in_spots in_asked in_runs run_is looked pushed held =
    let ps = map placed_looked runs in
    let spot = get_or spots n none in
    let rest = both (drop (n + 1) asked) (map (is_outside_at change ps) (drop (n + 1) spots)) in
    let one : Placed → Bool = λ p. get_or asked n false && is_outside_of change p.run (result_at p.run spot.seq) in
    let placed : placed_at ps spot.run ≡ placed_looked run = get_or-map placed_looked runs spot.run run no_run in_runs ∙ ap placed_looked (sym run_is) in
    let opened : both (drop n asked) (map (is_outside_at change ps) (drop n spots)) ≡ one (placed_looked run) ∷ rest =
    ap (λ l. both (drop n asked) (map (is_outside_at change ps) l)) (drop_more spots n none in_spots)
    ∙ ap (λ l. both l (map (is_outside_at change ps) (spot ∷ drop (n + 1) spots))) (drop_more asked n false in_asked)
    ∙ ap (λ p. one p ∷ rest) placed in
    let one_more : new ≡ old ++ one (placed_looked run) ∷ [] =
    pushed
    ∙ ap (λ (c : GatedChange). old ++ (get_or asked n false && is_outside_of c (placed_looked run).run (result_at (placed_looked run).run spot.seq)) ∷ []) looked in
    ap (λ t. t ++ rest) one_more
    ∙ append_assoc old (one (placed_looked run) ∷ []) rest
    ∙ ap (λ t. old ++ t) (sym opened)
    ∙ held
