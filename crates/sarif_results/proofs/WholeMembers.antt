-- Members without a number that has a fraction: what is found among them, or left.
use Rattle.std.proofs.Common.{◌≡◌, ℕ, Bool, true, false, List, Option, Some, None, option_and_then, Ordering, Less, Equal, Greater, nat_cmp, codes, bytes_eq, if◌then◌else◌, refl, ◌∙◌}
use Rattle.std.proofs.lemmas.Bool.{or_parts}
use Rattle.std.specs.Cmp.Lexicographic.{slice_cmp}
use Rattle.std.specs.List.{list_any}
use Rattle.std.specs.Ordering.{match_ordering}
use Rattle.sarif_read.proofs.WholeRuns.{any_element}
use Rattle.serde_json.specs.Data.{Data, null, boolean, number, string, array, object, Items, Members, no_members, member}
use Rattle.serde_json.specs.Find.{as_array, get, get_member}
use Rattle.serde_json.specs.Written.{has_float, items_have_float, members_have_float}
use Rattle.sarif_model.specs.Run.{elements_or_none, results_of}
use Rattle.sarif_results.specs.Annotated.{on_members}
use Rattle.sarif_counts.specs.CountOf.{items_in}
use Rattle.json_parts.specs.Without.{without}

-- ---- what is left

without_at : (same : Bool) (k : List ℕ) (d : Data) (ms : Members) → has_float d ≡ false → members_have_float ms ≡ false
    → members_have_float (if same then ms else member k d ms) ≡ false
without_at true k d ms of_d of_ms = of_ms
without_at false k d ms of_d of_ms = rw (of_d, of_ms)

pub without_whole : (name : List ℕ) (ms : Members) → members_have_float ms ≡ false → members_have_float (without name ms) ≡ false
without_whole name no_members of_ms = refl
without_whole name (member k d ms) of_ms =
    let parts = or_parts (has_float d) (members_have_float ms) of_ms in
    without_at (bytes_eq name k) k d (without name ms) parts.0 (without_whole name ms parts.1)

pub on_members_whole : (change : Members → Members) → ((ms : Members) → members_have_float ms ≡ false → members_have_float (change ms) ≡ false)
    → (d : Data) → has_float d ≡ false → has_float (on_members change d) ≡ false
on_members_whole change keeps null of_d = refl
on_members_whole change keeps (boolean b) of_d = refl
on_members_whole change keeps (number n) of_d = of_d
on_members_whole change keeps (string s) of_d = refl
on_members_whole change keeps (array ds) of_d = of_d
on_members_whole change keeps (object ms) of_d = keeps ms of_d

-- ---- what is found

abbrev pub found_float : Option Data → Bool
found_float None = false
found_float (Some d) = has_float d

abbrev pub list_float : Option Items → Bool
list_float None = false
list_float (Some ds) = items_have_float ds

found_at : (o : Ordering) (d : Data) (found : Option Data) → has_float d ≡ false → found_float found ≡ false
    → found_float (match_ordering o found (Some d) found) ≡ false
found_at Less d found of_d of_rest = of_rest
found_at Equal d found of_d of_rest = of_d
found_at Greater d found of_d of_rest = of_rest

pub found_whole : (name : List ℕ) (ms : Members) → members_have_float ms ≡ false → found_float (get_member name ms) ≡ false
found_whole name no_members of_ms = refl
found_whole name (member k d ms) of_ms =
    let parts = or_parts (has_float d) (members_have_float ms) of_ms in
    found_at (slice_cmp nat_cmp name k) d (get_member name ms) parts.0 (found_whole name ms parts.1)

pub get_whole : (name : List ℕ) (d : Data) → has_float d ≡ false → found_float (get name d) ≡ false
get_whole name null of_d = refl
get_whole name (boolean b) of_d = refl
get_whole name (number n) of_d = refl
get_whole name (string s) of_d = refl
get_whole name (array ds) of_d = refl
get_whole name (object ms) of_d = found_whole name ms of_d

pub items_in_whole : (found : Option Data) → found_float found ≡ false → items_have_float (items_in found) ≡ false
items_in_whole None of_d = refl
items_in_whole (Some null) of_d = refl
items_in_whole (Some (boolean b)) of_d = refl
items_in_whole (Some (number n)) of_d = refl
items_in_whole (Some (string s)) of_d = refl
items_in_whole (Some (array ds)) of_d = of_d
items_in_whole (Some (object ms)) of_d = refl

pub array_whole : (found : Option Data) → found_float found ≡ false → list_float (option_and_then as_array found) ≡ false
array_whole None of_d = refl
array_whole (Some null) of_d = refl
array_whole (Some (boolean b)) of_d = refl
array_whole (Some (number n)) of_d = refl
array_whole (Some (string s)) of_d = refl
array_whole (Some (array ds)) of_d = of_d
array_whole (Some (object ms)) of_d = refl

or_none_whole : (found : Option Items) → list_float found ≡ false → list_any has_float (elements_or_none found) ≡ false
or_none_whole None of_ds = refl
or_none_whole (Some ds) of_ds = any_element ds ∙ of_ds

pub results_whole : (run : Data) → has_float run ≡ false → list_any has_float (results_of run) ≡ false
results_whole run of_run =
    or_none_whole (option_and_then as_array (get (codes "results") run)) (array_whole (get (codes "results") run) (get_whole (codes "results") run of_run))
