-- How many more results each entry of a suppression file admits, and the entries by which those that admit a result are
-- found.
use Rattle.std.specs.Prelude.{◌≡◌, ℕ, ◌+◌, ◌-◌, ◌==◌, Bool, true, false, not, List, [], ◌∷◌, Option, Some, None, length, map, nat_lt, option_map, slice_get, slice_index_or, slice_set, if◌then◌else◌}
use Rattle.std.specs.Option.{option_map_or}
use Rattle.sarif_model.specs.declared.kinds.Status.TheVariants.{Accepted}
use Rattle.sarif_model.specs.declared.record.Record.{Record}
use Rattle.sarif_entries.specs.declared.entry.Entry.{Entry}
use Rattle.sarif_entries.specs.File.{File}
use Rattle.sarif_suppress.specs.Limited.{met_by}

-- how many more results an entry admits after these, if it has a `max`
abbrev pub left_for : Option ℕ → List Record → Entry → Option ℕ
left_for today before e = option_map (λ limit. limit.most - met_by today e before) e.limit

-- how many more results each entry admits after these, in order
abbrev pub left_after : File → List Record → List (Option ℕ)
left_after file before = map (left_for file.today before) file.entries

-- an entry admits more results
abbrev pub has_left : Option ℕ → Bool
has_left left = option_map_or (λ n. not (n == 0)) left false

abbrev pub has_left_at : List (Option ℕ) → ℕ → Bool
has_left_at left n = option_map_or has_left (slice_get left n) false

abbrev pub one_less : Option ℕ → Option ℕ
one_less left = option_map (λ n. n - 1) left

abbrev pub with_one_less : List (Option ℕ) → ℕ → List (Option ℕ)
with_one_less left n =
    if nat_lt n (length left) then slice_set left n (one_less (slice_index_or left n None)) else left

-- the list with one result less for the entries of these numbers
abbrev pub counted_down : List (Option ℕ) → List ℕ → List (Option ℕ)
counted_down left [] = left
counted_down left (n ∷ ns) = counted_down (with_one_less left n) ns

-- ---- open entries

-- the entry without its `max`
abbrev pub released : Entry → Entry
released e = record {
  conditions = e.conditions;
  expires = e.expires;
  status = Accepted;
  justification = None;
  limit = None;
}

-- an entry that is found by no result that was read
abbrev pub closed : Entry
closed = record {
  conditions = [];
  expires = None;
  status = Accepted;
  justification = None;
  limit = Some (record { most = 1; number = 0 });
}

-- the entry without its `max`, if it admits more results
abbrev pub opened : Option ℕ → Entry → Entry
opened left e = if has_left left then released e else closed

-- the entries from number n on
abbrev pub opened_from : List (Option ℕ) → ℕ → List Entry → List Entry
opened_from left n [] = []
opened_from left n (e ∷ es) = opened (slice_index_or left n None) e ∷ opened_from left (n + 1) es

-- the second entry has the conditions and the date of the first, and no `max`
pub record IsOpen (e live : Entry) : Type 0 where
  pub conditions : live.conditions ≡ e.conditions
  pub expires : live.expires ≡ e.expires
  pub limit : live.limit ≡ None

-- each entry that passes the test is open in the second list
abbrev pub AreOpen : (Entry → Bool) → List Entry → List Entry → Type 0
AreOpen test [] os = os ≡ []
AreOpen test (e ∷ es) [] = ⊥
AreOpen test (e ∷ es) (o ∷ os) = (test e ≡ true → IsOpen e o) × AreOpen test es os

-- what is left of the entries of a file, and the open entries
pub record Admitting : Type 0 where
  pub left : List (Option ℕ)
  pub live : File

-- after these results
pub record IsAfter (file : File) (before : List Record) (state : Admitting) : Type 0 where
  pub left : state.left ≡ left_after file before
  pub live : AreOpen (λ e. has_left (left_for file.today before e)) file.entries
      state.live.entries
  pub today : state.live.today ≡ file.today
