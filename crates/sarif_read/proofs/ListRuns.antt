-- What the form of `runs` is, by what is found there.
use Rattle.std.proofs.Common.{◌≡◌, List, [], map, length, true, false, Some, None, is_some, Ok, Err, refl, sym, ap, ◌∙◌, codes}
use Rattle.std.proofs.lemmas.List.{length-map}
use Rattle.json.specs.Token.{Token}
use Rattle.serde_json.specs.Data.{Data, null, boolean, number, string, array, object}
use Rattle.serde_json.specs.Find.{get, as_null, as_array}
use Rattle.serde_json.specs.View.{items_of}
use Rattle.sarif_model.specs.declared.fault.Fault.TheVariants.{NotLog}
use Rattle.sarif_read.specs.Reading.{check_runs}
use Rattle.sarif_model.specs.Run.{runs_of}
use Rattle.sarif_model.proofs.Elements.{items_back}
use Rattle.sarif_read.specs.Internal.Listed.{value_at}
use Rattle.sarif_read.proofs.ListResults.{is_null_at, is_array_at}

pub runs_missing : (log : Data) → None ≡ get (codes "runs") log → check_runs log ≡ Err NotLog
runs_missing log none = rw (← none) refl

null_runs : (log d : Data) → Some d ≡ get (codes "runs") log → is_some (as_null d) ≡ true → Some null ≡ get (codes "runs") log
null_runs log d is h = rw (is_null_at d h) at is

pub runs_null : (log d : Data) → Some d ≡ get (codes "runs") log → is_some (as_null d) ≡ true → check_runs log ≡ Ok tt
runs_null log d is h = rw (← null_runs log d is h) refl

pub no_runs : (log d : Data) → Some d ≡ get (codes "runs") log → is_some (as_null d) ≡ true → runs_of log ≡ []
no_runs log d is h = rw (← null_runs log d is h) refl

of_no_kind : (d : Data) (log : Data) → get (codes "runs") log ≡ Some d → is_some (as_null d) ≡ false → None ≡ as_array d → check_runs log ≡ Err NotLog
of_no_kind null log is h none = cc
of_no_kind (boolean b) log is h none = rw is refl
of_no_kind (number n) log is h none = rw is refl
of_no_kind (string s) log is h none = rw is refl
of_no_kind (array ds) log is h none = cc
of_no_kind (object ms) log is h none = rw is refl

pub runs_wrong : (log d : Data) → Some d ≡ get (codes "runs") log → is_some (as_null d) ≡ false → None ≡ as_array d → check_runs log ≡ Err NotLog
runs_wrong log d is h none = of_no_kind d log (sym is) h none

array_runs : (log d : Data) (ds : List Data) → Some d ≡ get (codes "runs") log → Some (items_of ds) ≡ as_array d
    → Some (array (items_of ds)) ≡ get (codes "runs") log
array_runs log d ds is h = rw (is_array_at d (items_of ds) h) at is

pub runs_array : (log d : Data) (ds : List Data) → Some d ≡ get (codes "runs") log → Some (items_of ds) ≡ as_array d → check_runs log ≡ Ok tt
runs_array log d ds is h = rw (← array_runs log d ds is h) refl

pub array_elements : (log d : Data) (ds : List Data) → Some d ≡ get (codes "runs") log → Some (items_of ds) ≡ as_array d → ds ≡ runs_of log
array_elements log d ds is h = rw (← array_runs log d ds is h) (sym (items_back ds))

pub ruleset list_steps = (runs_missing, runs_null, no_runs, runs_wrong, runs_array, array_elements)

-- the count of the runs is that of their places
pub count_runs : (nodes : List (List Token)) (log : Data) → map value_at nodes ≡ runs_of log → length nodes ≡ length (runs_of log)
count_runs nodes log is = sym (length-map nodes value_at) ∙ ap length is
