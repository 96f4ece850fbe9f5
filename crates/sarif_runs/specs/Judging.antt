-- The item of each result, and the errors of runs and results.
use Rattle.std.specs.Prelude.{ℕ, ◌+◌, Bool, true, false, ◌&&◌, List, [], ◌∷◌, map, length, Option, Some, None, Result, Ok, Err, if◌then◌else◌}
use Rattle.std.specs.List.{flat_map, range_with_len}
use Rattle.serde_json.specs.Data.{Data}
use Rattle.sarif_model.specs.declared.fault.Fault.{Fault}
use Rattle.sarif_model.specs.declared.fault.Fault.TheVariants.{NotSuccessful}
use Rattle.sarif_model.specs.declared.record.Record.{Record}
use Rattle.sarif_model.specs.Members.{◌>>=◌}
use Rattle.sarif_model.specs.Run.{results_of, result_at, is_absent_result}
use Rattle.sarif_read.specs.Failed.{failed}
use Rattle.sarif_runs.specs.Head.{head_of}
use Rattle.sarif_runs.specs.Record.{record_of}
use Rattle.sarif_runs.specs.declared.head.RunHead.{RunHead}
use Rattle.sarif_runs.specs.declared.item.Item.{Item}
use Rattle.sarif_runs.specs.declared.item.Item.TheVariants.{Sound, Bad, Skipped}
use Rattle.sarif_model.specs.declared.merge_fault.Source.{Source}
use Rattle.sarif_model.specs.declared.merge_fault.Source.TheVariants.{Log, Baseline, Suppress, Policy, Diff, Output, Known}
use Rattle.sarif_model.specs.declared.merge_fault.At.{At}
use Rattle.sarif_model.specs.declared.merge_fault.At.TheVariants.{Run, Single}
use Rattle.sarif_model.specs.declared.merge_fault.MergeFault.{MergeFault}
use Rattle.sarif_model.specs.MergeFault.{cause_of, fault_at}
use Rattle.sarif_runs.specs.Placed.{Placed}

-- whether results that are absent already are skipped: those of a baseline are
abbrev pub skips : Source → Bool
skips (Log k) = false
skips (Baseline k) = true
skips Suppress = false
skips Policy = false
skips Diff = false
skips Output = false
skips Known = false

abbrev pub item_by : Result Record Fault → Item
item_by (Ok r) = Sound r
item_by (Err fault) = Bad fault

-- the item of the result of a run with that number: its record, its first error, or skipped
abbrev pub item_of : Placed → ℕ → Item
item_of p seq =
    if skips p.source && is_absent_result (result_at p.run seq) then Skipped
    else item_by (record_of p.options.records p.run seq)

-- the results of a run, in order
abbrev pub items_of : Placed → List Item
items_of p = map (item_of p) (range_with_len 0 (length (results_of p.run)))

abbrev pub fault_of : {X : Type 0} → Result X Fault → Option Fault
fault_of (Ok x) = None
fault_of (Err fault) = Some fault

-- the head of a run whose analysis was successful; that it failed is the last error of opening it
abbrev pub successful_head : Data → Result RunHead Fault
successful_head run = head_of run >>= λ head. if failed run then Err NotSuccessful else Ok head

-- the head of a run, or its first error; whether its analysis must have been successful
abbrev pub opened_of : Bool → Data → Result RunHead Fault
opened_of false run = head_of run
opened_of true run = successful_head run

-- the error of opening a run, if it has one
abbrev pub opening_fault : Placed → Option Fault
opening_fault p = fault_of (opened_of p.options.must_succeed p.run)

-- ---- records

abbrev pub with_record : Item → List Record → List Record
with_record (Sound r) rs = r ∷ rs
with_record (Bad fault) rs = rs
with_record Skipped rs = rs

abbrev pub records_in : List Item → List Record
records_in [] = []
records_in (found ∷ items) = with_record found (records_in items)

-- the records of the results of these runs, in the order of runs and results
abbrev pub records_of : List Placed → List Record
records_of runs = flat_map (λ p. records_in (items_of p)) runs

-- the run at each position
abbrev pub run_values : List Placed → List Data
run_values runs = map (λ p. p.run) runs

-- ---- errors

-- the first bad result, where the first one has number n
abbrev pub first_bad : (ℕ → At) → ℕ → List Item → List MergeFault
first_bad at n [] = []
first_bad at n (Sound r ∷ items) = first_bad at (n + 1) items
first_bad at n (Bad fault ∷ items) = fault_at (at n) (cause_of fault) ∷ []
first_bad at n (Skipped ∷ items) = first_bad at (n + 1) items

-- the error of opening a run, otherwise the error of its first invalid result
abbrev pub opened_or : Source → ℕ → Option Fault → List Item → List MergeFault
opened_or source number (Some fault) items = fault_at (Run source number) (cause_of fault) ∷ []
opened_or source number None items = first_bad (Single source number) 0 items

abbrev pub run_faults : Placed → List MergeFault
run_faults p = opened_or p.source p.number (opening_fault p) (items_of p)

-- the errors of these runs, in order
abbrev pub faults_of_runs : List Placed → List MergeFault
faults_of_runs runs = flat_map run_faults runs
