-- A new suppression file holds no number with a fraction.
use Rattle.std.proofs.Common.{◌≡◌, ℕ, Bool, true, false, List, [], ◌∷◌, ◌++◌, map, Option, Some, None, codes, refl}
use Rattle.std.specs.Prelude.{option_and_then}
use Rattle.std.proofs.lemmas.Bool.{or_parts}
use Rattle.serde_json.specs.Data.{Data, null, boolean, number, unsigned, string, array, object, put}
use Rattle.serde_json.specs.Find.{get, as_array}
use Rattle.serde_json.specs.View.{items_of}
use Rattle.serde_json.specs.Written.{has_float, items_have_float, members_have_float}
use Rattle.json_parts.specs.Without.{without_member}
use Rattle.json_parts.proofs.Keeping.{If, put_whole}
use Rattle.sarif_read.proofs.NoFraction.{no_fraction_members}
use Rattle.sarif_model.specs.declared.record.Record.{Record}
use Rattle.sarif_model.specs.Run.{elements_or_none}
use Rattle.sarif_accept.specs.Entry.{members_from, entry_rows, entry_for, asked_of}
use Rattle.sarif_accept.specs.Keeping.{chosen}
use Rattle.sarif_entries.specs.File.{number_of}
use Rattle.sarif_accept.specs.NewFile.{stripped_in, entry_in, entries_in, others_in, entries_after, new_file, version_after}
use Rattle.sarif_accept.proofs.EveryRow.{IsKept, IsOfEach, entry_keeps, texts_keep}

-- ---- what is stripped

pub in_whole : (d : Data) → members_have_float (stripped_in d) ≡ false
in_whole null = refl
in_whole (boolean b) = refl
in_whole (number n) = refl
in_whole (string s) = refl
in_whole (array ds) = refl
in_whole (object ms) = no_fraction_members ms

-- ---- lists

abbrev AreWhole : List Data → Type 0
AreWhole ds = items_have_float (items_of ds) ≡ false

chosen_whole : (marks : List Bool) (ds : List Data) → AreWhole ds → AreWhole (chosen marks ds)
chosen_whole [] ds h = refl
chosen_whole (mark ∷ marks) [] h = refl
chosen_whole (true ∷ marks) (d ∷ ds) h = let parts =
    or_parts (has_float d) (items_have_float (items_of ds)) h in rw (parts.0, chosen_whole marks ds parts.1) refl
chosen_whole (false ∷ marks) (d ∷ ds) h = chosen_whole marks ds (or_parts (has_float d) (items_have_float (items_of ds)) h).1

both_whole : (xs ys : List Data) → AreWhole xs → AreWhole ys → AreWhole (xs ++ ys)
both_whole [] ys hx hy = hy
both_whole (x ∷ xs) ys hx hy = let parts = or_parts (has_float x) (items_have_float (items_of xs)) hx in rw (parts.0, both_whole xs ys parts.1 hy) refl

objects_whole : (ds : List Data) → AreWhole (map entry_in ds)
objects_whole [] = refl
objects_whole (d ∷ ds) = rw (in_whole d, objects_whole ds) refl

-- ---- the entry that accepts a result

strings_whole : (texts : List (List ℕ)) → items_have_float (items_of (map string texts)) ≡ false
strings_whole [] = refl
strings_whole (t ∷ ts) = strings_whole ts

abbrev IsWhole : Data → Type 0
IsWhole d = has_float d ≡ false

put_keeps : IsKept IsWhole (λ ms. members_have_float ms ≡ false)
put_keeps = record { none = refl; more = put_whole }

date_whole : (until : Option ℕ) → If (λ n. IsWhole (number (unsigned n))) until
date_whole None = tt
date_whole (Some n) = refl

each_whole : (until : Option ℕ) → IsOfEach IsWhole until
each_whole until = record { date = date_whole until; text = λ s. refl; pairs = texts_keep put_keeps (λ s. refl); list = strings_whole }

made_whole : (rs : List Record) (reason : Option (List ℕ)) (until : Option ℕ) → AreWhole (map (λ r. entry_for r reason until) rs)
made_whole [] reason until = refl
made_whole (r ∷ rs) reason until =
    let one : members_have_float (members_from (entry_rows (asked_of r) reason until)) ≡ false =
    entry_keeps put_keeps until (each_whole until) (asked_of r) reason in
    rw (one, made_whole rs reason until) refl

-- ---- the new file

pub new_whole : (d : Data) (kept : List Bool) (rs : List Record) (reason : Option (List ℕ)) (until : Option ℕ)
    → has_float (new_file d kept (map (λ r. entry_for r reason until) rs)) ≡ false
new_whole d kept rs reason until =
    let version = number (unsigned (number_of (version_after d (map (λ r. entry_for r reason until) rs)))) in
    put_whole (codes "suppressions") (array (items_of (entries_after d kept (map (λ r. entry_for r reason until) rs))))
    (put (codes "version") version (others_in d))
    (both_whole (chosen kept (entries_in d)) (map (λ r. entry_for r reason until) rs)
    (chosen_whole kept (entries_in d) (objects_whole (elements_or_none (option_and_then as_array (get (codes "suppressions") d)))))
    (made_whole rs reason until))
    (put_whole (codes "version") version (others_in d) refl (in_whole (without_member (codes "suppressions") d)))
