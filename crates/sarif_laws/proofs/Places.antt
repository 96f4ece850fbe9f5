-- The record and the state of each current result, at its place among all.
use Rattle.std.proofs.Common.{◌≡◌, ℕ, ◌<◌, [], length, get_or, Result, Ok, arith, sym, ap, ◌∙◌}
use Rattle.std.proofs.lemmas.List.{length-map}
use Rattle.sarif_model.specs.declared.fault.Fault.{Fault}
use Rattle.sarif_model.specs.declared.kinds.State.{State}
use Rattle.sarif_model.specs.declared.merge_fault.Source.TheVariants.{Log}
use Rattle.sarif_model.specs.declared.record.Record.{Record}
use Rattle.sarif_match.specs.Partners.{partners_in}
use Rattle.sarif_evidence.specs.Evidence.{state_in}
use Rattle.sarif_runs.specs.Judging.{run_values}
use Rattle.sarif_runs.specs.Record.{record_of}
use Rattle.sarif_results.proofs.JudgedCounts.{records_of_logs}
use Rattle.sarif_log.specs.LogBy.{states_of}
use Rattle.sarif_log.proofs.Sides.{states_long}
use Rattle.sarif_inputs.specs.Faults.{faults_of}
use Rattle.sarif_inputs.specs.Inputs.{Inputs, input_runs, reading_checks, record_options}
use Rattle.sarif_inputs.proofs.ReadFacts.{log_sides, read_alike}
use Rattle.sarif_merge.specs.MergedLog.{current_of}
use Rattle.sarif_merge.specs.OwnResult.{IsResult, baseline_of, number_among_all, partner_at, run_at}
use Rattle.sarif_merge.proofs.OwnResult.{faultless_runs, record_at, state_at, within_total}

pub same_record : (x y : Record) → ◌≡◌ {A = Result Record Fault} (Ok x) (Ok y) → x ≡ y
same_record x y is = cc

-- a record of a current result, and its state, are at that place
pub record HasPlace (inputs : Inputs) (place : ℕ) (r : Record) (s : State) : Type 0 where
  pub in_records : place < length (current_of inputs)
  pub in_states : place < length (states_of inputs.checks.matching (current_of inputs) (baseline_of inputs))
  pub record_is : get_or (current_of inputs) place r ≡ r
  pub state_is : get_or (states_of inputs.checks.matching (current_of inputs) (baseline_of inputs)) place s ≡ s

pub has_place : (inputs : Inputs) (k seq : ℕ) (r : Record) → faults_of inputs ≡ [] → IsResult inputs k seq
    → record_of (record_options (reading_checks inputs)) (run_at inputs k) seq ≡ Ok r
    → HasPlace inputs (number_among_all inputs k seq) r (state_in inputs.checks.matching r (partner_at inputs (number_among_all inputs k seq)))
has_place inputs k seq r none there is =
    let now = input_runs inputs in
    let rs = current_of inputs in
    let bs = baseline_of inputs in
    let place = number_among_all inputs k seq in
    let s = state_in inputs.checks.matching r (partner_at inputs place) in
    let sound = faultless_runs inputs none in
    let logs = log_sides (reading_checks inputs) 0 inputs.logs in
    let in_runs : k < length (run_values now) = omega (arith, there.0, length-map now (λ p. p.run)) in
    let inside : place < length rs = omega (arith, within_total (run_values now) k in_runs, records_of_logs now sound logs, there.1) in
    let alike = read_alike (reading_checks inputs) Log 0 inputs.logs in
    let own = record_at (record_options (reading_checks inputs)) now k seq sound logs alike there.0 there.1 in
    let record_is : get_or rs place r ≡ r = own.2 r ∙ same_record own.0 r (sym own.1 ∙ is) in
    record {
      in_records = inside;
      in_states = omega (arith, inside, states_long inputs.checks.matching bs (partners_in inputs.checks.matching rs bs) 0 rs);
      record_is = record_is;
      state_is = state_at inputs.checks.matching bs (partners_in inputs.checks.matching rs bs) 0 place place rs r s inside (omega arith) ∙ ap (λ q. state_in inputs.checks.matching q (partner_at inputs place)) record_is;
    }
