-- A member of a node that is null, or another value; the elements of an array of nodes, and its first one.
use Rattle.std.proofs.Common.{◌≡◌, ℕ, List, true, false, Option, Some, None, Result, Ok, Err, is_some, refl, ap, ◌∙◌}
use Rattle.std.specs.Prelude.{option_and_then}
use Rattle.serde_json.specs.Data.{Data, null, boolean, number, string, array, object, Items}
use Rattle.serde_json.specs.Find.{get, as_null, as_array}
use Rattle.json_parts.specs.Stripping.{stripped}
use Rattle.sarif_model.specs.declared.fault.Fault.{Fault}
use Rattle.sarif_model.specs.Members.{◌>>=◌, result_map, unless_null, elements_of, or_wrong, first_of, if_object}
use Rattle.sarif_model.specs.Run.{elements_or_none}
use Rattle.sarif_model.proofs.Elements.{items_back}

none_of_null : (d : Data) → is_some (as_null d) ≡ true → None ≡ unless_null (stripped d)
none_of_null null is = refl
none_of_null (boolean b) is = cc
none_of_null (number n) is = cc
none_of_null (string s) is = cc
none_of_null (array ds) is = cc
none_of_null (object ms) is = cc

some_of_other : (d : Data) → is_some (as_null d) ≡ false → Some (stripped d) ≡ unless_null (stripped d)
some_of_other null is = cc
some_of_other (boolean b) is = refl
some_of_other (number n) is = refl
some_of_other (string s) is = refl
some_of_other (array ds) is = refl
some_of_other (object ms) is = refl

pub null_none : (k : List ℕ) (d : Data) → None ≡ get k d → None ≡ option_and_then unless_null (get k d)
null_none k d none = ap (option_and_then unless_null) none

pub null_out : (k : List ℕ) (d e : Data) → Some (stripped e) ≡ get k d → is_some (as_null e) ≡ true → None ≡ option_and_then unless_null (get k d)
null_out k d e is test = none_of_null e test ∙ ap (option_and_then unless_null) is

pub null_in : (k : List ℕ) (d e : Data) → Some (stripped e) ≡ get k d → is_some (as_null e) ≡ false
    → Some (stripped e) ≡ option_and_then unless_null (get k d)
null_in k d e is test = some_of_other e test ∙ ap (option_and_then unless_null) is

pub ruleset null_steps = (null_none, null_out, null_in)

-- ---- the elements of an array

pub ruleset element_steps = (items_back)

pub same_is_array : (d : Data) → is_some (as_array (stripped d)) ≡ is_some (as_array d)
same_is_array null = refl
same_is_array (boolean b) = refl
same_is_array (number n) = refl
same_is_array (string s) = refl
same_is_array (array ds) = refl
same_is_array (object ms) = refl

-- ---- the first element of an array

pub first_there : (wrong : Fault) (found : Option Items) (first : Option Data) → is_some found ≡ true → first ≡ first_of (elements_or_none found)
    → Ok first ≡ result_map first_of (elements_of (or_wrong wrong found))
first_there wrong None first is e = cc
first_there wrong (Some ds) first is e = ap Ok e

pub first_wrong : (wrong : Fault) (found : Option Items) → is_some found ≡ false
    → ◌≡◌ {A = Result (Option Data) Fault} (Err wrong) (result_map first_of (elements_of (or_wrong wrong found)))
first_wrong wrong None is = refl
first_wrong wrong (Some ds) is = cc

pub ruleset first_steps = (first_there, first_wrong)

pub then_first : (wrong : Fault) (r : Result (List Data) Fault) → (r >>= λ ds. if_object wrong (first_of ds)) ≡ (result_map first_of r >>= if_object wrong)
then_first wrong (Ok ds) = refl
then_first wrong (Err e) = refl
