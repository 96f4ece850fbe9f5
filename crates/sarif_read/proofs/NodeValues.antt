-- What stripping leaves of a value's kind.
use Rattle.std.proofs.Common.{◌≡◌, ℕ, Bool, if◌then◌else◌, List, [], ◌∷◌, map, true, false, Option, Some, None, is_some, option_map, refl, sym, ap, ◌∙◌}
use Rattle.json.specs.Token.{Token}
use Rattle.serde_json.specs.Data.{Data, unsigned, negative, float, null, boolean, number, string, array, object, Items, no_items, item, Members}
use Rattle.serde_json.specs.Find.{get, as_null, as_str, as_number, as_u64, as_array, as_object}
use Rattle.serde_json.specs.View.{items_of}
use Rattle.std.specs.Prelude.{option_and_then}
use Rattle.json_parts.specs.Indexed.{data_of, first_element}
use Rattle.json_parts.specs.Internal.Ordered.{IsOrdered, AreItemsOrdered}
use Rattle.json_parts.specs.Stripping.{is_fractional, stripped, stripped_items, stripped_members}
use Rattle.json_parts.proofs.Stripped.{get-stripped, get-IsOrdered}
use Rattle.sarif_model.specs.Members.{first_of, elements}
use Rattle.sarif_model.specs.Run.{elements_or_none}
use Rattle.sarif_read.specs.Internal.Listed.{value_at, AreOrdered}

-- a property of a value is that of the stripped value if all arrays have the same one, and so have all objects
same_property : {A : Type 0} (property : Data → A) → ((ds es : Items) → property (array ds) ≡ property (array es))
    → ((ms ns : Members) → property (object ms) ≡ property (object ns))
    → (d : Data) → property (stripped d) ≡ property d
same_property property arrays objects null = refl
same_property property arrays objects (boolean b) = refl
same_property property arrays objects (number n) = refl
same_property property arrays objects (string s) = refl
same_property property arrays objects (array ds) = arrays (stripped_items ds) ds
same_property property arrays objects (object ms) = objects (stripped_members ms) ms

pub same_null : (d : Data) → is_some (as_null (stripped d)) ≡ is_some (as_null d)
same_null = same_property (λ d. is_some (as_null d)) (λ ds es. refl) (λ ms ns. refl)

pub same_text : (d : Data) → as_str (stripped d) ≡ as_str d
same_text = same_property as_str (λ ds es. refl) (λ ms ns. refl)

pub same_object : (d : Data) → is_some (as_object (stripped d)) ≡ is_some (as_object d)
same_object = same_property (λ d. is_some (as_object d)) (λ ds es. refl) (λ ms ns. refl)

pub same_number : (d : Data) → as_number (stripped d) ≡ as_number d
same_number = same_property as_number (λ ds es. refl) (λ ms ns. refl)

pub same_array : (d : Data) → as_array (stripped d) ≡ option_map stripped_items (as_array d)
same_array null = refl
same_array (boolean b) = refl
same_array (number n) = refl
same_array (string s) = refl
same_array (array ds) = refl
same_array (object ms) = refl

first_item_stripped : (ds : Items) → option_map stripped (first_element ds) ≡ first_of (elements (stripped_items ds))
first_item_stripped no_items = refl
first_item_stripped (item d ds) = refl

first_found : (o : Option Items) → option_map stripped (option_and_then first_element o) ≡ first_of (elements_or_none (option_map stripped_items o))
first_found None = refl
first_found (Some ds) = first_item_stripped ds

first_in_array : (d : Data) → option_map stripped (option_and_then first_element (as_array d)) ≡ first_of (elements_or_none (as_array (stripped d)))
first_in_array d = first_found (as_array d) ∙ ap (λ o. first_of (elements_or_none o)) (sym (same_array d))

value_map : (found : Option (List Token)) → option_map value_at found ≡ option_map stripped (option_map data_of found)
value_map None = refl
value_map (Some tokens) = refl

-- the first element of a value, and of what stripping leaves of it
pub first_stripped : (tokens : List Token) (found : Option (List Token))
    → option_map data_of found ≡ option_and_then first_element (as_array (data_of tokens))
    → option_map value_at found ≡ first_of (elements_or_none (as_array (value_at tokens)))
first_stripped tokens found is = value_map found ∙ ap (option_map stripped) is ∙ first_in_array (data_of tokens)

pub stripped_each : (nodes : List (List Token)) → stripped_items (items_of (map data_of nodes)) ≡ items_of (map value_at nodes)
stripped_each [] = refl
stripped_each (node ∷ nodes) = ap (λ ds. item (value_at node) ds) (stripped_each nodes)

pub items_apart : (nodes : List (List Token)) → AreItemsOrdered (items_of (map data_of nodes)) → AreOrdered nodes
items_apart [] ordered = tt
items_apart (node ∷ nodes) ordered = (ordered.0, items_apart nodes ordered.1)

-- a member that isn't found, that stripping leaves out, or that it leaves
pub kept_none : (k : List ℕ) (d : Data) → IsOrdered d → None ≡ get k d → None ≡ get k (stripped d)
kept_none k d ordered none = sym (get-stripped k d ordered ∙ rw (← none) refl)

pub kept_out : (k : List ℕ) (d e : Data) → IsOrdered d → Some e ≡ get k d → is_fractional e ≡ true → None ≡ get k (stripped d)
kept_out k d e ordered is fraction = sym (get-stripped k d ordered ∙ rw (← is, fraction) refl)

pub kept_in : (k : List ℕ) (d e : Data) → IsOrdered d → Some e ≡ get k d → is_fractional e ≡ false → Some (stripped e) ≡ get k (stripped d)
kept_in k d e ordered is fraction = sym (get-stripped k d ordered ∙ rw (← is, fraction) refl)

pub kept_ordered : (k : List ℕ) (d e : Data) → IsOrdered d → Some e ≡ get k d → IsOrdered e
kept_ordered k d e ordered is = get-IsOrdered k d e ordered (sym is)

-- ---- an integer member: stripping leaves out no integer, so what is read before stripping is the same after it

abbrev pub integer_at : Option Data → Option ℕ
integer_at found = option_and_then as_u64 (option_and_then as_number found)

no_integer : (b : Bool) (ds : Items) → integer_at (if b then None else Some (array ds)) ≡ None
no_integer true ds = refl
no_integer false ds = refl

same_integer : (d : Data) → integer_at (if is_fractional d then None else Some (stripped d)) ≡ integer_at (Some d)
same_integer null = refl
same_integer (boolean b) = refl
same_integer (number (unsigned n)) = refl
same_integer (number (negative z)) = refl
same_integer (number (float x)) = refl
same_integer (string s) = refl
same_integer (array ds) = no_integer (is_fractional (array ds)) (stripped_items ds)
same_integer (object ms) = refl

pub integer_none : (k : List ℕ) (d : Data) → IsOrdered d → None ≡ get k d → None ≡ integer_at (get k (stripped d))
integer_none k d ordered none = sym (ap integer_at (get-stripped k d ordered) ∙ rw (← none) refl)

pub integer_some : (k : List ℕ) (d e : Data) → IsOrdered d → Some e ≡ get k d
    → integer_at (Some e) ≡ integer_at (get k (stripped d))
integer_some k d e ordered is = sym (ap integer_at (get-stripped k d ordered) ∙ rw (← is) (same_integer e))

pub ruleset integer_steps = (integer_none, integer_some)

pub ruleset kept_steps = (kept_none, kept_out, kept_in, kept_ordered)

pub ruleset node_steps = (same_null, same_text, same_number, same_object, same_array, stripped_each, items_apart)
