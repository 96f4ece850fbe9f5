-- Results of a run.
use Rattle.std.specs.Prelude.{ℕ, ◌+◌, Bool, true, List, [], ◌∷◌, None, length, map, if◌then◌else◌}
use Rattle.sarif_evidence.specs.declared.version.MatchingVersion.{MatchingVersion}
use Rattle.sarif_evidence.specs.declared.version.MatchingVersion.TheVariants.{Two, Three}
use Rattle.sarif_model.specs.declared.record.Record.{Record}
use Rattle.sarif_known.specs.declared.chosen.KnownRun.{KnownRun}

-- the driver's name of a run, and the records of those of its results that are chosen, in order
pub record Chosen : Type 0 where
  pub tool : List ℕ
  pub records : List Record

-- whether the known log has regions and snippets: if matching reads them or copies aren't counted
abbrev pub knows_regions : MatchingVersion → Bool → Bool
knows_regions Two once = once
knows_regions Three once = true

-- a record as it becomes known: with its region and its snippet if the known log has them
abbrev pub known_as : Bool → Record → Record
known_as regions r =
    record r {
      region = if regions then r.region else None;
      snippet = if regions then r.snippet else None;
    }

-- a run with its records as they become known
abbrev pub run_as : Bool → Chosen → Chosen
run_as regions run =
    record { tool = run.tool; records = map (known_as regions) run.records }

-- how many results these runs have
abbrev pub results_among : List Chosen → ℕ
results_among [] = 0
results_among (run ∷ runs) = length run.records + results_among runs

-- a run as the code holds it
abbrev pub chosen_of : KnownRun → Chosen
chosen_of run =
    record { tool = run.tool.now; records = map (λ r. r.now) run.records.items }

abbrev pub all_chosen : List KnownRun → List Chosen
all_chosen runs = map chosen_of runs
