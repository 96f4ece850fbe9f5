-- In the new suppression file the names of objects rise, and numbers are in range.
use Rattle.std.proofs.Common.{◌≡◌, ℕ, ◌<◌, ◌^◌, Bool, true, false, List, [], ◌∷◌, map, Option, Some, None, option_and_then, bytes_eq, codes, refl, arith, if◌then◌else◌}
use Rattle.std.specs.Prelude.{unwrap_or}
use Rattle.std.specs.Str.{is_utf8}
use Rattle.std.specs.List.{AllByRecursion}
use Rattle.json.specs.Json as json
use Rattle.json.specs.Lex.{tokens}
use Rattle.serde_json.specs.Data.{Data, null, boolean, number, unsigned, string, array, object, Items, no_items, item, Members, no_members, member, put}
use Rattle.serde_json.specs.Find.{as_array, get, get_member}
use Rattle.serde_json.specs.Read.{max_depth, of_json, read}
use Rattle.serde_json.specs.View.{items_of}
use Rattle.json_parts.specs.Indexed.{json_of}
use Rattle.json_parts.specs.Mark.{without_mark}
use Rattle.json_parts.specs.Internal.Ordered.{AreItemsOrdered, AreMembersOrdered, IsBelow, IsOrdered}
use Rattle.json_parts.specs.Without.{without, without_member}
use Rattle.json_parts.proofs.Keeping.{If}
use Rattle.json_parts.proofs.Order.{ordered_put, read_ordered}
use Rattle.json_parts.proofs.Readings.{and_then_some}
use Rattle.json_parts.proofs.Stripped.{get-IsOrdered}
use Rattle.sarif_model.specs.declared.record.Record.{Record}
use Rattle.sarif_model.specs.Members.{elements}
use Rattle.sarif_model.specs.Run.{elements_or_none}
use Rattle.sarif_options.specs.declared.upkeep.Renewal.{Renewal}
use Rattle.sarif_read.proofs.RunOf.{stripped_ordered}
use Rattle.sarif_accept.specs.Entry.{asked_of, entry_for, entry_rows, members_from, texts_put}
use Rattle.sarif_accept.specs.Keeping.{chosen}
use Rattle.sarif_entries.specs.declared.version.Version.{Version}
use Rattle.sarif_entries.specs.declared.version.Version.TheVariants.{First, Second, Fourth, Fifth}
use Rattle.sarif_entries.specs.File.{number_of}
use Rattle.sarif_accept.specs.NewFile.{entries_after, entries_in, entry_in, file_object, new_file, others_in, stripped_in, version_after}
use Rattle.sarif_accept.proofs.EveryRow.{IsKept, IsOfEach, entry_keeps, texts_keep}
use Rattle.sarif_laws.proofs.Lists.{all_append}
use Rattle.sarif_laws.proofs.Ranged.{AreItemsRanged, AreMembersRanged, IsRanged, list_ranged, member_ranged, put_ranged, read_ranged, stripped_ranged, without_ranged}

-- names rise, and numbers are in range
pub record IsSound (d : Data) : Type 0 where
  pub rises : IsOrdered d
  pub fits : IsRanged d

pub record AreSound (ms : Members) : Type 0 where
  pub rise : AreMembersOrdered ms
  pub fit : AreMembersRanged ms

object_sound : (ms : Members) → AreSound ms → IsSound (object ms)
object_sound ms are = record { rises = are.rise; fits = are.fit }

put_sound : (k : List ℕ) (d : Data) (ms : Members) → IsSound d → AreSound ms → AreSound (put k d ms)
put_sound k d ms is are = record { rise = ordered_put k d ms is.rises are.rise; fit = put_ranged k d ms is.fits are.fit }

none_sound : AreSound no_members
none_sound = record { rise = tt; fit = tt }

-- ---- the old file

value_sound : (bytes : List ℕ) (d : Data) → json_of bytes ≡ Some d → IsSound d
value_sound bytes d is = by_utf8 (is_utf8 bytes) is
  where
    by_utf8 : (b : Bool) → (if b then read bytes else None) ≡ Some d → IsSound d
    by_utf8 true is =
        let parsed = and_then_some of_json (option_and_then (λ p. json.if_last p.0 p.1) (json.value max_depth (tokens bytes))) d is in
        record { rises = read_ordered parsed.0 d parsed.2; fits = read_ranged parsed.0 d parsed.2 }
    by_utf8 false is = let never : ⊥ = cc in absurd never

file_sound : (given : Option (List ℕ)) → IsSound (file_object given)
file_sound None = object_sound no_members none_sound
file_sound (Some bytes) = by_value (json_of (without_mark bytes)) refl
  where
    by_value : (o : Option Data) → json_of (without_mark bytes) ≡ o → IsSound (unwrap_or o (object no_members))
    by_value None is = object_sound no_members none_sound
    by_value (Some d) is = value_sound (without_mark bytes) d is

stripped_sound : (d : Data) → IsSound d → AreSound (stripped_in d)
stripped_sound null is = none_sound
stripped_sound (boolean b) is = none_sound
stripped_sound (number n) is = none_sound
stripped_sound (string s) is = none_sound
stripped_sound (array ds) is = none_sound
stripped_sound (object ms) is = record { rise = stripped_ordered (object ms) is.rises; fit = stripped_ranged (object ms) is.fits }

below_without : (k name : List ℕ) (ms : Members) → IsBelow k ms → IsBelow k (without name ms)
below_without k name no_members below = tt
below_without k name (member l d ms) below =
    elim (bytes_eq name l) as (λ b. IsBelow k (if b then without name ms else member l d (without name ms)))
    [ true ↦ below_without k name ms below.1 | false ↦ (below.0, below_without k name ms below.1) ]

without_rises : (name : List ℕ) (ms : Members) → AreMembersOrdered ms → AreMembersOrdered (without name ms)
without_rises name no_members are = tt
without_rises name (member k d ms) are =
    elim (bytes_eq name k) as (λ b. AreMembersOrdered (if b then without name ms else member k d (without name ms)))
    [ true ↦ without_rises name ms are.2 | false ↦ (below_without k name ms are.0, are.1, without_rises name ms are.2) ]

without_sound : (name : List ℕ) (d : Data) → IsSound d → IsSound (without_member name d)
without_sound name null is = is
without_sound name (boolean b) is = is
without_sound name (number n) is = is
without_sound name (string s) is = is
without_sound name (array ds) is = is
without_sound name (object ms) is = object_sound (without name ms) (record { rise = without_rises name ms is.rises; fit = without_ranged name ms is.fits })

get_sound : (name : List ℕ) (d : Data) → IsSound d → If IsSound (get name d)
get_sound name null is = tt
get_sound name (boolean b) is = tt
get_sound name (number n) is = tt
get_sound name (string s) is = tt
get_sound name (array ds) is = tt
get_sound name (object ms) is = by_found (get_member name ms) refl (member_ranged name ms is.fits)
  where
    by_found : (o : Option Data) → get_member name ms ≡ o → If IsRanged o → If IsSound o
    by_found None found fits = tt
    by_found (Some e) found fits = record { rises = get-IsOrdered name (object ms) e is.rises found; fits = fits }

elements_sound : (ds : Items) → AreItemsOrdered ds → AreItemsRanged ds → AllByRecursion IsSound (elements ds)
elements_sound no_items rise fit = tt
elements_sound (item d ds) rise fit = (record { rises = rise.0; fits = fit.0 }, elements_sound ds rise.1 fit.1)

listed_sound : (o : Option Data) → If IsSound o → AllByRecursion IsSound (elements_or_none (option_and_then as_array o))
listed_sound None is = tt
listed_sound (Some null) is = tt
listed_sound (Some (boolean b)) is = tt
listed_sound (Some (number n)) is = tt
listed_sound (Some (string s)) is = tt
listed_sound (Some (array ds)) is = elements_sound ds is.rises is.fits
listed_sound (Some (object ms)) is = tt

entries_sound : (ds : List Data) → AllByRecursion IsSound ds → AllByRecursion IsSound (map entry_in ds)
entries_sound [] all = tt
entries_sound (d ∷ ds) all = (object_sound (stripped_in d) (stripped_sound d all.0), entries_sound ds all.1)

chosen_sound : (marks : List Bool) (ds : List Data) → AllByRecursion IsSound ds → AllByRecursion IsSound (chosen marks ds)
chosen_sound [] ds all = tt
chosen_sound (mark ∷ marks) [] all = tt
chosen_sound (true ∷ marks) (d ∷ ds) all = (all.0, chosen_sound marks ds all.1)
chosen_sound (false ∷ marks) (d ∷ ds) all = chosen_sound marks ds all.1

-- ---- the entries that are added

list_sound : (ds : List Data) → AllByRecursion IsSound ds → IsSound (array (items_of ds))
list_sound ds all = record { rises = rise ds all; fits = list_ranged ds (fit ds all) }
  where
    rise : (ds : List Data) → AllByRecursion IsSound ds → AreItemsOrdered (items_of ds)
    rise [] all = tt
    rise (d ∷ ds) all = (all.0.rises, rise ds all.1)

    fit : (ds : List Data) → AllByRecursion IsSound ds → AllByRecursion IsRanged ds
    fit [] all = tt
    fit (d ∷ ds) all = (all.0.fits, fit ds all.1)

string_sound : (s : List ℕ) → IsSound (string s)
string_sound s = record { rises = tt; fits = tt }

strings_sound : (texts : List (List ℕ)) → AllByRecursion IsSound (map string texts)
strings_sound [] = tt
strings_sound (s ∷ texts) = (string_sound s, strings_sound texts)

put_keeps : IsKept IsSound AreSound
put_keeps = record { none = none_sound; more = put_sound }

-- the number of an expiry date is in range
abbrev pub IsSmall : Option ℕ → Type 0
IsSmall o = If (λ n. n < 2 ^ 64) o

date_sound : (until : Option ℕ) → IsSmall until → If (λ n. IsSound (number (unsigned n))) until
date_sound None small = tt
date_sound (Some n) small = record { rises = tt; fits = small }

each_sound : (until : Option ℕ) → IsSmall until → IsOfEach IsSound until
each_sound until small = record {
  date = date_sound until small;
  text = string_sound;
  pairs = λ ps. object_sound (texts_put ps) (texts_keep put_keeps string_sound ps);
  list = λ texts. list_sound (map string texts) (strings_sound texts);
}

added_sound : (rs : List Record) (reason : Option (List ℕ)) (until : Option ℕ) → IsSmall until → AllByRecursion IsSound (map (λ r. entry_for r reason until) rs)
added_sound [] reason until small = tt
added_sound (r ∷ rs) reason until small =
    let f = asked_of r in
    (object_sound (members_from (entry_rows f reason until)) (entry_keeps put_keeps until (each_sound until small) f reason), added_sound rs reason until small)

-- ---- the new file

version_sound : (version : Version) → IsSound (number (unsigned (number_of version)))
version_sound First = record { rises = tt; fits = omega arith }
version_sound Second = record { rises = tt; fits = omega arith }
version_sound Fourth = record { rises = tt; fits = omega arith }
version_sound Fifth = record { rises = tt; fits = omega arith }

pub new_sound : (given : Option (List ℕ)) (kept : List Bool) (added : List Record) (renewal : Renewal) → IsSmall renewal.until
    → IsSound (new_file (file_object given) kept (map (λ r. entry_for r renewal.reason renewal.until) added))
new_sound given kept added renewal small =
    let d = file_object given in
    let old =
    chosen_sound kept (entries_in d)
    (entries_sound (elements_or_none (option_and_then as_array (get (codes "suppressions") d)))
    (listed_sound (get (codes "suppressions") d) (get_sound (codes "suppressions") d (file_sound given)))) in
    let new = map (λ r. entry_for r renewal.reason renewal.until) added in
    let all = all_append IsSound (chosen kept (entries_in d)) new old (added_sound added renewal.reason renewal.until small) in
    let others = stripped_sound (without_member (codes "suppressions") d) (without_sound (codes "suppressions") d (file_sound given)) in
    let version = version_after d new in
    let its = number (unsigned (number_of version)) in
    object_sound (put (codes "suppressions") (array (items_of (entries_after d kept new))) (put (codes "version") its (others_in d)))
    (put_sound (codes "suppressions") (array (items_of (entries_after d kept new))) (put (codes "version") its (others_in d))
    (list_sound (entries_after d kept new) all)
    (put_sound (codes "version") its (others_in d) (version_sound version) others))
