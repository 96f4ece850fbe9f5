-- The JSON value of bytes, by the parser's two clauses: what it read, and why it rejected them.
use Rattle.std.proofs.Common.{◌≡◌, ℕ, Bool, List, Some, None, refl, Err}
use Rattle.serde_json.specs.Data.{Data}
use Rattle.sarif_model.specs.declared.fault.Fault.TheVariants.{NotJson}
use Rattle.sarif_read.specs.Stripping.{stripped}
use Rattle.json_parts.specs.Indexed.{json_of}
use Rattle.json_parts.specs.Mark.{without_mark}
use Rattle.sarif_read.specs.Reading.{log_of, log_of_value}

-- the whole log by what is read from its bytes
pub log_of_text : (allow : Bool) (bytes : List ℕ) (d : Data) → json_of (without_mark bytes) ≡ Some d → log_of allow bytes ≡ log_of_value allow (stripped d)
unfolding log_of
log_of_text allow bytes d is = rw is refl

pub log_of_none : (allow : Bool) (bytes : List ℕ) → json_of (without_mark bytes) ≡ None → log_of allow bytes ≡ Err (record { run = None; fault = NotJson })
unfolding log_of
log_of_none allow bytes none = rw none refl

pub ruleset read_steps = (log_of_text, log_of_none)
