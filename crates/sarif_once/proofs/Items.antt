-- The items and the outcomes of the results of a run without some of them.
use Rattle.std.proofs.Common.{◌≡◌, ◌+◌, ◌&&◌, Bool, List, [], ◌∷◌, ◌++◌, map, length, take, drop, refl, sym, ap, ◌∙◌}
use Rattle.std.specs.Prelude.{if◌then◌else◌}
use Rattle.std.specs.List.{flat_map}
use Rattle.std.proofs.lemmas.List.{length-append, length-map}
use Rattle.serde_json.specs.Data.{Data, null}
use Rattle.sarif_model.specs.Members.{◌>>=◌}
use Rattle.sarif_model.specs.Driver.{tool_name}
use Rattle.sarif_model.specs.Run.{is_absent_result, results_of, results_total}
use Rattle.sarif_entries.specs.File.{File}
use Rattle.sarif_read.specs.Unmarked.{unmarked}
use Rattle.sarif_read.proofs.Only.{results_without, unmarked_map}
use Rattle.sarif_results.specs.declared.outcome.Outcome.{Outcome}
use Rattle.sarif_results.specs.Internal.Outcomes.{all_outcomes, draft_beside, outcomes_of}
use Rattle.sarif_runs.specs.declared.item.Item.{Item}
use Rattle.sarif_runs.specs.declared.item.Item.TheVariants.{Skipped}
use Rattle.sarif_runs.specs.Head.{head_of}
use Rattle.sarif_runs.specs.Internal.Found.{record_item}
use Rattle.sarif_runs.specs.Judging.{item_by, items_of, run_values, skips}
use Rattle.sarif_runs.specs.Placed.{Placed}
use Rattle.sarif_runs.specs.Record.{record_in, record_of}
use Rattle.sarif_runs.specs.Unmarked.{placed_without, runs_without}
use Rattle.sarif_runs.proofs.Unmarked.{head_without, tool_without}
use Rattle.sarif_once.proofs.Lists.{by_position, none_left, seam}

-- the item of this value as a result of the run
item_for : Placed → Data → Item
item_for p d = if skips p.source && is_absent_result d then Skipped else record_item p.options.records p.run d

outcome_for : File → Placed → Data → Outcome
outcome_for file p d = record { item = item_for p d; draft = draft_beside file (skips p.source) d (item_for p d) }

items_are : (p : Placed) → items_of p ≡ map (item_for p) (results_of p.run)
unfolding item_for record_of
items_are p = by_position (item_for p) null (results_of p.run)

outcomes_are : (file : File) (p : Placed) → outcomes_of file p ≡ map (outcome_for file p) (results_of p.run)
unfolding item_for outcome_for record_of
outcomes_are file p = by_position (outcome_for file p) null (results_of p.run)

item_same : (marks : List Bool) (p : Placed) → item_for (placed_without marks p) ≡ item_for p
unfolding item_for
item_same marks p =
    ap (λ h. λ (d : Data). if skips p.source && is_absent_result d then Skipped
    else item_by (h >>= λ head. record_in p.options.records head (tool_name (placed_without marks p).run) d)) (head_without marks p.run)
    ∙ ap (λ t. λ (d : Data). if skips p.source && is_absent_result d then Skipped
    else item_by (head_of p.run >>= λ head. record_in p.options.records head t d)) (tool_without marks p.run)

outcome_same : (file : File) (marks : List Bool) (p : Placed) → outcome_for file (placed_without marks p) ≡ outcome_for file p
unfolding outcome_for
outcome_same file marks p =
    ap (λ (f : Data → Item). λ (d : Data). record { item = f d; draft = draft_beside file (skips p.source) d (f d) }) (item_same marks p)

pub items_left : (marks : List Bool) (p : Placed) → items_of (placed_without marks p) ≡ unmarked marks (items_of p)
items_left marks p =
    items_are (placed_without marks p)
    ∙ ap (map (item_for (placed_without marks p))) (results_without marks p.run)
    ∙ ap (λ f. map f (unmarked marks (results_of p.run))) (item_same marks p)
    ∙ sym (unmarked_map (item_for p) marks (results_of p.run))
    ∙ sym (ap (unmarked marks) (items_are p))

outcomes_left : (file : File) (marks : List Bool) (p : Placed) → outcomes_of file (placed_without marks p) ≡ unmarked marks (outcomes_of file p)
outcomes_left file marks p =
    outcomes_are file (placed_without marks p)
    ∙ ap (map (outcome_for file (placed_without marks p))) (results_without marks p.run)
    ∙ ap (λ f. map f (unmarked marks (results_of p.run))) (outcome_same file marks p)
    ∙ sym (unmarked_map (outcome_for file p) marks (results_of p.run))
    ∙ sym (ap (unmarked marks) (outcomes_are file p))

-- ---- all runs

-- what is made of each result, in the order of runs and results
pub each_left : {Y : Type 0} (each : Placed → List Y) → ((p : Placed) → length (each p) ≡ length (results_of p.run))
    → ((marks : List Bool) (p : Placed) → each (placed_without marks p) ≡ unmarked marks (each p))
    → (marks : List Bool) (ps : List Placed) → flat_map each (runs_without marks ps) ≡ unmarked marks (flat_map each ps)
each_left each long left marks [] = sym (none_left marks)
each_left each long left marks (p ∷ ps) =
    let n = length (results_of p.run) in
    ap (λ ys. ys ++ flat_map each (runs_without (drop n marks) ps)) (left (take n marks) p)
    ∙ ap (λ ys. unmarked (take n marks) (each p) ++ ys) (each_left each long left (drop n marks) ps)
    ∙ ap (λ m. unmarked (take m marks) (each p) ++ unmarked (drop m marks) (flat_map each ps)) (sym (long p))
    ∙ seam marks (each p) (flat_map each ps)

pub items_long : (p : Placed) → length (items_of p) ≡ length (results_of p.run)
items_long p = ap length (items_are p) ∙ length-map (results_of p.run) (item_for p)

pub outcomes_long : (file : File) (p : Placed) → length (outcomes_of file p) ≡ length (results_of p.run)
outcomes_long file p = ap length (outcomes_are file p) ∙ length-map (results_of p.run) (outcome_for file p)

pub all_items_left : (marks : List Bool) (ps : List Placed) → flat_map items_of (runs_without marks ps) ≡ unmarked marks (flat_map items_of ps)
all_items_left marks ps = each_left items_of items_long items_left marks ps

pub all_outcomes_left : (file : File) (marks : List Bool) (ps : List Placed)
    → all_outcomes file (runs_without marks ps) ≡ unmarked marks (all_outcomes file ps)
all_outcomes_left file marks ps = each_left (outcomes_of file) (outcomes_long file) (outcomes_left file) marks ps

pub outcomes_total : (file : File) (ps : List Placed) → length (all_outcomes file ps) ≡ results_total (run_values ps)
outcomes_total file [] = refl
outcomes_total file (p ∷ ps) =
    length-append (outcomes_of file p) (all_outcomes file ps)
    ∙ ap (λ n. n + length (all_outcomes file ps)) (outcomes_long file p)
    ∙ ap (λ n. length (results_of p.run) + n) (outcomes_total file ps)
