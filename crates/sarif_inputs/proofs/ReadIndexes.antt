-- What the index of a source says about its bytes.
use Rattle.std.proofs.Common.{◌≡◌, ◌≤◌, ◌⊎◌, ℕ, Bool, List, map, length, inr, refl, ap, ◌∙◌}
use Rattle.std.specs.Prelude.{Ok, Err, Some, IfOk}
use Rattle.std.proofs.lemmas.Result.{IfErr-at_err}
use Rattle.json.specs.Token.{Token}
use Rattle.json_parts.specs.Indexed.{data_of}
use Rattle.sarif_inputs.specs.Internal.Together.{IsIndexed}
use Rattle.json_parts.specs.declared.indexing.IndexFault.{IndexFault}
use Rattle.json_parts.specs.declared.indexing.IndexFault.TheVariants as index
use Rattle.sarif_read.specs.Internal.Indexed.{run_of}
use Rattle.sarif_read.specs.Internal.ReadRefusal.{whole, refusal_of_index}
use Rattle.json_parts.specs.Indexed.{json_of}
use Rattle.sarif_read.specs.Reading.{log_of, log_of_value}
use Rattle.json_parts.specs.Mark.{without_mark}
use Rattle.sarif_model.specs.Run.{results_total}
use Rattle.sarif_read.specs.Stripping.{stripped}
use Rattle.sarif_read.specs.declared.read_fault.ReadFault.{ReadFault}
use Rattle.sarif_model.specs.declared.refusal.Refusal.TheVariants as refusal
use Rattle.sarif_model.specs.Internal.Refusal.{IfFault}
use Rattle.sarif_model.specs.declared.fault.Fault.TheVariants.{NotJson}
use Rattle.sarif_read.proofs.LogText.{log_of_text, log_of_none}
use Rattle.sarif_model.specs.declared.merge_fault.Source.{Source}
use Rattle.sarif_model.specs.FirstFault.{first, IsOutOfResources}
use Rattle.sarif_inputs.specs.SourceFaults.{reading_faults, fault_of_reading}
use Rattle.sarif_inputs.specs.Internal.Parsed.{Parsed, IsParsedFrom}
use Rattle.sarif_model.specs.Limits.{most_results, most_runs}

pub read_of_index : (allow : Bool) (bytes : List ℕ) (found : List Token) (r : Parsed)
    → json_of (without_mark bytes) ≡ Some (data_of found)
    → IfOk r (λ runs. log_of_value allow (stripped (data_of found)) ≡ Ok (map run_of runs.items))
    → IfOk r (λ runs. results_total (map run_of runs.items) ≤ most_results)
    → IfOk r (λ runs. length runs.items ≤ most_runs)
    → IfFault r (λ e. log_of_value allow (stripped (data_of found)) ≡ Err e)
    → IsParsedFrom allow bytes r
read_of_index allow bytes found (Ok runs) is ok few few_runs err = record {
  ok = log_of_text allow bytes (data_of found) is ∙ ok;
  few_runs = few_runs;
  few_results = few;
  err = tt;
}
read_of_index allow bytes found (Err e) is ok few few_runs err = record {
  ok = tt;
  few_runs = tt;
  few_results = tt;
  err = λ fault same. log_of_text allow bytes (data_of found) is ∙ err fault same;
}

told_by : (fault : ReadFault) → refusal_of_index index.NotJson ≡ refusal.Fault fault → whole NotJson ≡ fault
told_by fault same = cc

pub read_without_index : (allow : Bool) (bytes : List ℕ) (fault : IndexFault) → IsIndexed (without_mark bytes) (Err fault)
    → IsParsedFrom allow bytes (Err (refusal_of_index fault))
read_without_index allow bytes index.NotJson none = record {
  ok = tt;
  few_runs = tt;
  few_results = tt;
  err = λ fault same. log_of_none allow bytes (none refl) ∙ ap Err (told_by fault same);
}
read_without_index allow bytes index.OutOfMemory none = record {
  ok = tt;
  few_runs = tt;
  few_results = tt;
  err = λ fault same. absurd cc;
}

-- the error that reading a source returned is the first of its bytes
pub reading_refused : (source : Source) (allow : Bool) (bytes : List ℕ) (parsed : Parsed) (fault : ReadFault)
    → parsed ≡ Err (refusal.Fault fault) → IsParsedFrom allow bytes parsed
    → IsOutOfResources (fault_of_reading source fault) ⊎ (first (reading_faults source (log_of allow bytes)) ≡ Some (fault_of_reading source fault))
reading_refused source allow bytes parsed fault is p =
    let told = IfErr-at_err (λ e. (found : ReadFault) → e ≡ refusal.Fault found → log_of allow bytes ≡ Err found) is p.err fault refl in
    inr (ap (λ r. first (reading_faults source r)) told)
