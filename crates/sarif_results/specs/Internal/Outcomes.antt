-- What a worker makes of a result: its item, and its draft.
use Rattle.std.specs.Prelude.{ℕ, Bool, true, false, List, map, length, Option, Some, None}
use Rattle.std.specs.List.{flat_map, range_with_len}
use Rattle.serde_json.specs.Data.{Data}
use Rattle.sarif_model.specs.declared.record.Record.{Record}
use Rattle.sarif_model.specs.Run.{results_of, result_at}
use Rattle.sarif_entries.specs.File.{File}
use Rattle.sarif_suppress.specs.Written.{suppressions_of}
use Rattle.sarif_results.specs.declared.draft.Draft.{Draft}
use Rattle.sarif_results.specs.Drafts.{applied_of, draft_by, members_in}
use Rattle.sarif_runs.specs.declared.item.Item.{Item}
use Rattle.sarif_runs.specs.declared.item.Item.TheVariants.{Sound, Bad, Skipped}
use Rattle.sarif_results.specs.declared.outcome.Outcome.{Outcome}
use Rattle.sarif_runs.specs.Judging.{item_of, skips}
use Rattle.sarif_runs.specs.Placed.{Placed}

-- the draft of a result of a log: with its own suppressions, and with those that the file gives it
abbrev pub draft_in : File → Record → Data → Draft
draft_in file r d =
    draft_by (λ r own. suppressions_of own file r) (applied_of file) r (members_in d)

-- only a current result with a record has a draft at once: for a baseline result (true) matching decides whether
-- it is written
abbrev pub draft_beside : File → Bool → Data → Item → Option Draft
draft_beside file true d item = None
draft_beside file false d (Sound r) = Some (draft_in file r d)
draft_beside file false d (Bad fault) = None
draft_beside file false d Skipped = None

abbrev pub outcome_of : File → Placed → ℕ → Outcome
outcome_of file p seq = record {
  item = item_of p seq;
  draft = draft_beside file (skips p.source) (result_at p.run seq) (item_of p seq);
}

-- the outcomes of a run's results, in order
abbrev pub outcomes_of : File → Placed → List Outcome
outcomes_of file p = map (outcome_of file p) (range_with_len 0 (length (results_of p.run)))

-- the outcomes of these runs, in the order of runs and results
abbrev pub all_outcomes : File → List Placed → List Outcome
all_outcomes file runs = flat_map (outcomes_of file) runs
