-- What the form of `results` is, by what is found there.
use Rattle.std.proofs.Common.{◌≡◌, List, Bool, true, false, if◌then◌else◌, Some, None, is_some, Ok, Err, refl, sym, ap, codes}
use Rattle.serde_json.specs.Data.{Data, null, boolean, number, string, array, object, Items}
use Rattle.serde_json.specs.Find.{get, as_null, as_array}
use Rattle.serde_json.specs.View.{items_of}
use Rattle.sarif_model.specs.declared.fault.Fault.TheVariants.{BadRun}
use Rattle.sarif_model.specs.Members.{are_objects}
use Rattle.sarif_model.proofs.Elements.{items_back}
use Rattle.sarif_read.specs.Reading.{check_results}

pub is_null_at : (d : Data) → is_some (as_null d) ≡ true → d ≡ null
is_null_at null h = refl
is_null_at (boolean b) h = cc
is_null_at (number n) h = cc
is_null_at (string s) h = cc
is_null_at (array ds) h = cc
is_null_at (object ms) h = cc

pub is_array_at : (d : Data) (ds : Items) → Some ds ≡ as_array d → d ≡ array ds
is_array_at null ds h = cc
is_array_at (boolean b) ds h = cc
is_array_at (number n) ds h = cc
is_array_at (string s) ds h = cc
is_array_at (array es) ds h = let same : ds ≡ es = cc in ap array (sym same)
is_array_at (object ms) ds h = cc

pub results_missing : (run : Data) → None ≡ get (codes "results") run → check_results run ≡ Ok tt
results_missing run none = rw (← none) refl

pub results_null : (run d : Data) → Some d ≡ get (codes "results") run → is_some (as_null d) ≡ true → check_results run ≡ Ok tt
results_null run d is h = let found : Some null ≡ get (codes "results") run = rw (is_null_at d h) at is in rw (← found) refl

pub null_listed : (run d : Data) → Some d ≡ get (codes "results") run → is_some (as_null d) ≡ true → Some null ≡ get (codes "results") run
null_listed run d is h = rw (is_null_at d h) at is

-- another kind of value
of_no_kind : (d : Data) (run : Data) → get (codes "results") run ≡ Some d → is_some (as_null d) ≡ false → None ≡ as_array d → check_results run ≡ Err BadRun
of_no_kind null run is h none = cc
of_no_kind (boolean b) run is h none = rw is refl
of_no_kind (number n) run is h none = rw is refl
of_no_kind (string s) run is h none = rw is refl
of_no_kind (array ds) run is h none = cc
of_no_kind (object ms) run is h none = rw is refl

pub results_wrong : (run d : Data) → Some d ≡ get (codes "results") run → is_some (as_null d) ≡ false → None ≡ as_array d → check_results run ≡ Err BadRun
results_wrong run d is h none = of_no_kind d run (sym is) h none

pub array_listed : (run d : Data) (ds : List Data) → Some d ≡ get (codes "results") run → Some (items_of ds) ≡ as_array d
    → Some (array (items_of ds)) ≡ get (codes "results") run
array_listed run d ds is h = rw (is_array_at d (items_of ds) h) at is

pub results_objects : (run d : Data) (ds : List Data) (b : Bool) → Some d ≡ get (codes "results") run → Some (items_of ds) ≡ as_array d → b ≡ are_objects ds
    → check_results run ≡ (if b then Ok tt else Err BadRun)
results_objects run d ds true is h objects =
    rw (← array_listed run d ds is h, items_back ds, ← objects) refl
results_objects run d ds false is h objects =
    rw (← array_listed run d ds is h, items_back ds, ← objects) refl

pub ruleset list_steps = (results_missing, results_null, null_listed, results_wrong, array_listed, results_objects)
