-- The possible results of reading an indexed source.
use Rattle.std.specs.Prelude.{◌≡◌, ◌≤◌, ℕ, ⊤, Bool, List, [], ◌∷◌, map, length, Result, Ok, Err, IfOk}
use Rattle.std.specs.declared.alloc.Global.{Global}
use Rattle.std.specs.declared.vec.Vec.{Vec}
use Rattle.json.specs.Token.{Token}
use Rattle.json_parts.specs.declared.indexing.IndexFault.{IndexFault}
use Rattle.sarif_inputs.specs.Internal.Together.{IsIndexed}
use Rattle.sarif_read.specs.Internal.Indexed.{run_of}
use Rattle.sarif_read.specs.Reading.{log_of}
use Rattle.json_parts.specs.Mark.{without_mark}
use Rattle.sarif_model.specs.Run.{results_total}
use Rattle.sarif_read.specs.declared.indexed_run.IndexedRun.{IndexedRun}
use Rattle.sarif_read.specs.declared.read_fault.ReadFault.{ReadFault}
use Rattle.sarif_model.specs.declared.refusal.Refusal.{Refusal}
use Rattle.sarif_model.specs.Internal.Refusal.{IfFault}
use Rattle.sarif_model.specs.Limits.{most_results, most_runs}

-- the runs of a log, or why it was not read
abbrev pub Parsed : Type 0
Parsed = Result (Vec IndexedRun Global) (Refusal ReadFault)

-- the log of these bytes, within the limits of one log, or its first error, or out of memory
pub record IsParsedFrom (allow : Bool) (bytes : List ℕ) (parsed : Parsed) : Type 0 where
  pub ok : IfOk parsed (λ log. log_of allow bytes ≡ Ok (map run_of log.items))
  pub few_runs : IfOk parsed (λ log. length log.items ≤ most_runs)
  pub few_results : IfOk parsed (λ log. results_total (map run_of log.items) ≤ most_results)
  pub err : IfFault parsed (λ e. log_of allow bytes ≡ Err e)

-- a list has, for each of these sources, what was read from it
abbrev pub AreParsedFrom : Bool → List (List ℕ) → List Parsed → Type 0
AreParsedFrom allow [] [] = ⊤
AreParsedFrom allow [] (one ∷ parsed) = ⊥
AreParsedFrom allow (bytes ∷ sources) [] = ⊥
AreParsedFrom allow (bytes ∷ sources) (one ∷ parsed) =
    IsParsedFrom allow bytes one × AreParsedFrom allow sources parsed

-- a log was read from this index, whichever bytes have that index
abbrev pub IsReadFrom : Bool → Result (List Token) IndexFault → Parsed → Type 0
IsReadFrom allow index read =
    (bytes : List ℕ) → IsIndexed (without_mark bytes) index → IsParsedFrom allow bytes read

abbrev pub AreReadFrom : Bool → List (Result (List Token) IndexFault) → List Parsed → Type 0
AreReadFrom allow [] [] = ⊤
AreReadFrom allow [] (one ∷ read) = ⊥
AreReadFrom allow (index ∷ indexes) [] = ⊥
AreReadFrom allow (index ∷ indexes) (one ∷ read) =
    IsReadFrom allow index one × AreReadFrom allow indexes read
