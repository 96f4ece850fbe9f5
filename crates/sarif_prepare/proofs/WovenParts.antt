-- The parts of runs without their copies are those of the runs, except for the numbers of their results.
use Rattle.std.proofs.Common.{◌≡◌, ◌+◌, ℕ, suc, Bool, List, [], ◌∷◌, map, take, drop, length, codes, refl, sym, ap, ap₂, ◌∙◌}
use Rattle.std.proofs.lemmas.List.{length-append}
use Rattle.json_parts.specs.Without.{without}
use Rattle.serde_json.specs.Data.{Data}
use Rattle.serde_json.specs.View.{members_view}
use Rattle.sarif_log.specs.Internal.Texts.{own_count, present_results, ArePartsOf}
use Rattle.sarif_log.specs.MergedRuns.{bare}
use Rattle.sarif_log.specs.declared.run_parts.RunParts.{RunParts}
use Rattle.sarif_model.specs.Run.{present, results_of}
use Rattle.sarif_read.specs.Unmarked.{unmarked, without_marked}
use Rattle.sarif_read.proofs.Only.{bare_only}
use Rattle.sarif_results.specs.Drafts.{members_in}
use Rattle.sarif_runs.specs.declared.opened.OpenedRun.{OpenedRun}
use Rattle.sarif_runs.specs.Internal.Opened.{placed_of}
use Rattle.sarif_runs.specs.Judging.{run_values}
use Rattle.sarif_runs.specs.Placed.{Placed}
use Rattle.sarif_runs.specs.Unmarked.{runs_without}
use Rattle.sarif_prepare.specs.Internal.Apart.{left_counts, own_counts, total}
use Rattle.sarif_prepare.specs.Internal.LeftParts.{present_counts, AreLeftParts}
use Rattle.sarif_prepare.proofs.RunPartsOf.{beside_members}

members_same : (marks : List Bool) (run : Data) → bare (members_in (without_marked marks run)) ≡ bare (members_in run)
members_same marks run =
    sym (beside_members (without_marked marks run))
    ∙ ap (λ d. without (codes "baselineGuid") (members_in d)) (bare_only (unmarked marks (results_of run)) run)
    ∙ beside_members run

-- the members of each run
pub opened_members : (opened : List OpenedRun) (ps : List Placed) → map placed_of opened ≡ ps
    → map (λ run. bare (members_in (placed_of run).run)) opened ≡ map (λ p. bare (members_in p.run)) ps
opened_members opened ps are = twice opened ∙ ap (map (λ (p : Placed). bare (members_in p.run))) are where
  twice : (os : List OpenedRun) → map (λ run. bare (members_in (placed_of run).run)) os ≡ map (λ p. bare (members_in p.run)) (map placed_of os)
  twice [] = refl
  twice (o ∷ os) = ap (λ xs. bare (members_in (placed_of o).run) ∷ xs) (twice os)

pub members_left : (marks : List Bool) (ps : List Placed)
    → map (λ p. bare (members_in p.run)) (runs_without marks ps) ≡ map (λ p. bare (members_in p.run)) ps
members_left marks [] = refl
members_left marks (p ∷ ps) =
    let n = length (results_of p.run) in
    ap₂ (λ m ms. m ∷ ms) (members_same (take n marks) p.run) (members_left (drop n marks) ps)

head_same : {X : Type 0} (x y : X) (xs ys : List X) → x ∷ xs ≡ y ∷ ys → x ≡ y
head_same x y xs ys is = cc

tail_same : {X : Type 0} (x y : X) (xs ys : List X) → x ∷ xs ≡ y ∷ ys → xs ≡ ys
tail_same x y xs ys is = cc

pub parts_of_all : (all : List RunParts) (ps : List Placed) → map (λ q. members_view q.members.entries) all ≡ map (λ p. bare (members_in p.run)) ps
    → map (λ q. q.results) all ≡ own_counts ps → ArePartsOf own_count all (run_values ps)
parts_of_all [] [] members results = tt
parts_of_all [] (p ∷ ps) members results = let never : ⊥ = cc in absurd never
parts_of_all (q ∷ all) [] members results = let never : ⊥ = cc in absurd never
parts_of_all (q ∷ all) (p ∷ ps) members results = (
  head_same _ _ _ _ members,
  head_same _ _ _ _ results,
  parts_of_all all ps (tail_same _ _ _ _ members) (tail_same _ _ _ _ results),
)

pub left_of_all : (all : List RunParts) (taken : List Bool) (ps : List Placed)
    → map (λ q. members_view q.members.entries) all ≡ map (λ p. bare (members_in p.run)) ps
    → map (λ q. q.results) all ≡ left_counts (present_counts ps) taken → AreLeftParts all taken (run_values ps)
left_of_all [] taken [] members results = tt
left_of_all [] taken (p ∷ ps) members results = let never : ⊥ = cc in absurd never
left_of_all (q ∷ all) taken [] members results = let never : ⊥ = cc in absurd never
left_of_all (q ∷ all) taken (p ∷ ps) members results = (
  head_same _ _ _ _ members,
  head_same _ _ _ _ results,
  left_of_all all (drop (length (present (results_of p.run))) taken) ps (tail_same _ _ _ _ members) (tail_same _ _ _ _ results),
)

pub total_present : (ps : List Placed) → total (present_counts ps) ≡ length (present_results (run_values ps))
total_present [] = refl
total_present (p ∷ ps) =
    ap (λ n. length (present (results_of p.run)) + n) (total_present ps)
    ∙ sym (length-append (present (results_of p.run)) (present_results (run_values ps)))

pub counts_long : (counts : List ℕ) (taken : List Bool) → length (left_counts counts taken) ≡ length counts
counts_long [] taken = refl
counts_long (n ∷ counts) taken = ap suc (counts_long counts (drop n taken))
