-- The keys of a set, and the objects of entries in a list.
use Rattle.std.proofs.Common.{◌≡◌, ℕ, zero, suc, ◌+◌, ◌<◌, length, drop, get_or, slice_get, arith, false, ◌||◌, List, [], ◌∷◌, ◌++◌, refl, sym, ap, ◌∙◌}
use mathlib.Core.Bool.{or-false}
use Rattle.std.specs.List.{list_any}
use Rattle.std.proofs.lemmas.List.Folds.{list_any-append}
use Rattle.indexmap.specs.IndexSet.{IndexSet}
use Rattle.serde_json.specs.Data.{Data}
use Rattle.sarif_entries.specs.declared.entry.Entry.{Entry}
use Rattle.sarif_entries.specs.declared.key.EntryKey.{EntryKey}
use Rattle.sarif_entries.specs.Internal.Keys.{has_key}
use Rattle.sarif_suppress.specs.Internal.Unseen.{HasKeysOf}
use Rattle.sarif_suppress.specs.Written.{with_object_if, with_objects_at}

-- ---- a set of keys, and a list whose objects have them

has_one_more : (q : EntryKey) (values : List Data) (d : Data) → list_any (has_key q) (values ++ d ∷ []) ≡ (list_any (has_key q) values || has_key q d)
has_one_more q values d = list_any-append (has_key q) values (d ∷ []) ∙ ap (λ b. list_any (has_key q) values || b) (or-false (has_key q d))

-- a value without one
pub without_key : {S : Type 0} (keys : IndexSet EntryKey S) (values : List Data) (d : Data) → ((q : EntryKey) → has_key q d ≡ false)
    → HasKeysOf keys values → HasKeysOf keys (values ++ d ∷ [])
without_key keys values d none has = λ q.
    has q ∙ sym (has_one_more q values d ∙ rw (none q) (or-false (list_any (has_key q) values)))

-- ---- one number after the other

-- the objects of the remaining numbers, after the object of the next one
pub next_object : (list new : List Data) (entries : List Entry) (numbers : List ℕ) (i : ℕ) → i < length numbers
    → new ≡ with_object_if list (slice_get entries (get_or numbers i 0))
    → with_objects_at new entries (drop (i + 1) numbers) ≡ with_objects_at list entries (drop i numbers)
next_object list new entries [] i within added = absurd (omega (arith, within))
next_object list new entries (n ∷ ns) zero within added = rw added refl
next_object list new entries (n ∷ ns) (suc i) within added =
    let more : suc i + 1 ≡ suc (i + 1) = omega arith in
    rw more (next_object list new entries ns i (omega (arith, within)) added)
