-- The runs of a stripped log hold no number with a fraction.
use Rattle.std.proofs.Common.{◌≡◌, ℕ, Bool, List, false, ◌||◌, Option, Some, None, Result, Ok, Err, refl, ap, ◌∙◌}
use Rattle.std.specs.Prelude.{codes, option_and_then}
use Rattle.std.specs.Ordering.{match_ordering}
use Rattle.std.specs.declared.cmp.Ordering.TheVariants.{Less, Equal, Greater}
use Rattle.std.specs.Cmp.Lexicographic.{slice_cmp}
use Rattle.std.specs.Ordering.{nat_cmp}
use Rattle.std.specs.List.{list_any}
use Rattle.std.proofs.lemmas.Bool.{or_parts}
use Rattle.serde_json.specs.Data.{Data, null, boolean, number, string, array, object, Items, no_items, item, Members, no_members, member}
use Rattle.serde_json.specs.Find.{get_member, as_array}
use Rattle.serde_json.specs.Written.{has_float, items_have_float, members_have_float}
use Rattle.sarif_model.specs.declared.fault.Fault.TheVariants.{NotJson}
use Rattle.sarif_model.specs.Members.{◌>>=◌, elements}
use Rattle.sarif_model.specs.Run.{elements_or_none}
use Rattle.sarif_read.specs.Stripping.{stripped, stripped_members}
use Rattle.sarif_model.specs.Run.{runs_of}
use Rattle.sarif_read.specs.Reading.{log_of, log_of_value, at_whole, ok_or, check_log, check_each}
use Rattle.json_parts.specs.Indexed.{json_of}
use Rattle.json_parts.specs.Mark.{without_mark}
use Rattle.sarif_read.proofs.NoFraction.{no_fraction_members}

pub any_element : (ds : Items) → list_any has_float (elements ds) ≡ items_have_float ds
any_element no_items = refl
any_element (item d ds) = ap (λ b. has_float d || b) (any_element ds)

-- a value that may be there holds none
pub WholeIf : Option Data → Type 0
WholeIf None = Unit {0}
WholeIf (Some d) = has_float d ≡ false

pub found_whole : (k : List ℕ) (ms : Members) → members_have_float ms ≡ false → WholeIf (get_member k ms)
unfolding WholeIf
found_whole k no_members h = tt
found_whole k (member own d ms) h =
    let both = or_parts (has_float d) (members_have_float ms) h in
    elim (slice_cmp nat_cmp k own) as (λ o. WholeIf (match_ordering o (get_member k ms) (Some d) (get_member k ms))) [
      | Less ↦ found_whole k ms both.1
      | Equal ↦ both.0
      | Greater ↦ found_whole k ms both.1
    ]

pub runs_whole : (found : Option Data) → WholeIf found → list_any has_float (elements_or_none (option_and_then as_array found)) ≡ false
unfolding WholeIf
runs_whole None h = refl
runs_whole (Some null) h = refl
runs_whole (Some (boolean b)) h = refl
runs_whole (Some (number n)) h = refl
runs_whole (Some (string s)) h = refl
runs_whole (Some (array ds)) h = any_element ds ∙ h
runs_whole (Some (object ms)) h = refl

-- the runs of any value, once it is stripped
stripped_runs : (d : Data) → list_any has_float (runs_of (stripped d)) ≡ false
stripped_runs null = refl
stripped_runs (boolean b) = refl
stripped_runs (number n) = refl
stripped_runs (string s) = refl
stripped_runs (array ds) = refl
stripped_runs (object ms) =
    runs_whole (get_member (codes "runs") (stripped_members ms)) (found_whole (codes "runs") (stripped_members ms) (no_fraction_members ms))

pub bind_ok : {A B E : Type 0} (r : Result A E) (f : A → Result B E) (y : B) → (r >>= f) ≡ Ok y → (x : A) × (r ≡ Ok x) × (f x ≡ Ok y)
bind_ok (Ok x) f y h = (x, refl, h)
bind_ok (Err e) f y h = cc

value_runs : (allow : Bool) (d : Data) (runs : List Data) → log_of_value allow d ≡ Ok runs → runs ≡ runs_of d
unfolding log_of_value
value_runs allow d runs h =
    let checked = bind_ok (at_whole (check_log d)) _ runs h in
    let each = bind_ok (check_each allow 0 0 (runs_of d)) _ runs checked.2 in
    cc each.2

pub read_whole : (allow : Bool) (bytes : List ℕ) (runs : List Data) → log_of allow bytes ≡ Ok runs → list_any has_float runs ≡ false
unfolding log_of
read_whole allow bytes runs h =
    let parsed = bind_ok (at_whole (ok_or (json_of (without_mark bytes)) NotJson)) _ runs h in
    rw (value_runs allow (stripped parsed.0) runs parsed.2) (stripped_runs parsed.0)
