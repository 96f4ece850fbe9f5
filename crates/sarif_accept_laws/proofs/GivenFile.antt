-- The entries of a file that is read, as its new file has them.
use Rattle.std.proofs.Common.{◌≡◌, ℕ, List, [], map, Option, Some, None, codes, refl, sym, ap, ◌∙◌}
use Rattle.std.specs.Prelude.{Result, Ok, Err, nat_eq, option_and_then, if◌then◌else◌, Bool, true, false, ok_or}
use Rattle.std.specs.Option.{option_map_or}
use Rattle.std.specs.Str.{is_utf8}
use Rattle.std.specs.List.{AllByRecursion}
use Rattle.serde_json.specs.Data.{Data, null, boolean, number, string, array, object, Items, no_items, item, no_members}
use Rattle.serde_json.specs.Find.{get, as_array}
use Rattle.serde_json.specs.Read.{of_json, max_depth, read}
use Rattle.json.specs.Json as json
use Rattle.json.specs.Lex.{tokens}
use Rattle.json_parts.specs.Indexed.{json_of}
use Rattle.json_parts.specs.Mark.{without_mark}
use Rattle.json_parts.specs.Internal.Ordered.{IsOrdered, AreItemsOrdered}
use Rattle.json_parts.proofs.Order.{read_ordered}
use Rattle.json_parts.proofs.Readings.{and_then_some}
use Rattle.json_parts.proofs.Stripped.{get-IsOrdered}
use Rattle.sarif_model.specs.Members.{elements}
use Rattle.sarif_model.specs.Run.{elements_or_none}
use Rattle.sarif_entries.specs.declared.entry.Entry.{Entry}
use Rattle.sarif_entries.specs.declared.fault.FileFault.{FileFault}
use Rattle.sarif_entries.specs.declared.version.Version.{Version}
use Rattle.sarif_entries.specs.declared.version.Version.TheVariants.{First, Second, Fourth, Fifth}
use Rattle.sarif_entries.specs.File.{File, entries_from, file_of, file_of_value, check_list, check_version, check_count, is_fifth, number_in, version_or}
use Rattle.sarif_accept.specs.NewFile.{file_object, entries_in, entry_in}
use Rattle.sarif_entries.specs.Given.{file_or_none}
use Rattle.sarif_accept.proofs.CheckedList.{checked_list}
use Rattle.sarif_accept_laws.proofs.EntryWhole.{both, entries_whole}
use Rattle.sarif_entries.specs.FileFault.{whole}
use Rattle.sarif_model.specs.declared.fault.Fault.TheVariants.{NotJson, WrongVersion}

-- a value that is read is ordered
pub json_ordered : (bytes : List ℕ) (d : Data) → json_of bytes ≡ Some d → IsOrdered d
json_ordered bytes d is = by_utf8 (is_utf8 bytes) is
  where
    by_utf8 : (b : Bool) → (if b then read bytes else None) ≡ Some d → IsOrdered d
    by_utf8 true is =
        let parsed = and_then_some of_json (option_and_then (λ p. json.if_last p.0 p.1) (json.value max_depth (tokens bytes))) d is in
        read_ordered parsed.0 d parsed.2
    by_utf8 false is = let never : ⊥ = cc in absurd never

elements_ordered : (ds : Items) → AreItemsOrdered ds → AllByRecursion IsOrdered (elements ds)
elements_ordered no_items are = tt
elements_ordered (item d ds) are = (are.0, elements_ordered ds are.1)

list_ordered : (o : Option Data) → ((d : Data) → o ≡ Some d → IsOrdered d) → AllByRecursion IsOrdered (elements_or_none (option_and_then as_array o))
list_ordered None is = tt
list_ordered (Some null) is = tt
list_ordered (Some (boolean b)) is = tt
list_ordered (Some (number n)) is = tt
list_ordered (Some (string s)) is = tt
list_ordered (Some (array ds)) is = elements_ordered ds (is (array ds) refl)
list_ordered (Some (object ms)) is = tt

-- the entries from which the list was read
pub record Given (d : Data) (file : File) : Type 0 where
  pub version : Version
  pub fifth : version ≡ Fifth → is_fifth d ≡ true
  pub read : entries_from version file.today 0 (entries_in d) ≡ Ok file.entries

the_file : (a b : File) → ◌≡◌ {A = Result File FileFault} (Ok a) (Ok b) → a ≡ b
the_file a b e = cc

given_at : (d : Data) (version : Version) (today : Option ℕ) (es : List Entry) (file : File)
    → (version ≡ Fifth → is_fifth d ≡ true)
    → entries_from version today 0 (entries_in d) ≡ Ok es → record { entries = es; today = today } ≡ file → Given d file
given_at d version today es file fifth read same = rw (← same) (record { version = version; fifth = fifth; read = read })

-- a value that is read in version 5 is that of a file of version 5
number_fifth : (o : Option ℕ) (version : Version) → version_or o ≡ Ok version → version ≡ Fifth → option_map_or (λ n. nat_eq n 5) o false ≡ true
number_fifth None version is same = let never : ⊥ = cc in absurd never
number_fifth (Some n) version is same = by_tests (nat_eq n 1) (nat_eq n 2) (nat_eq n 4) (nat_eq n 5) is
  where
    by_tests : (a b c e : Bool)
        → (if a then Ok First else (if b then Ok Second else (if c then Ok Fourth else (if e then Ok Fifth else Err (whole WrongVersion))))) ≡ Ok version
        → e ≡ true
    by_tests true b c e is = let never : ⊥ = cc in absurd never
    by_tests false true c e is = let never : ⊥ = cc in absurd never
    by_tests false false true e is = let never : ⊥ = cc in absurd never
    by_tests false false false true is = refl
    by_tests false false false false is = let never : ⊥ = cc in absurd never

read_of_value : (d : Data) (today : Option ℕ) (file : File) → IsOrdered d → file_of_value today d ≡ Ok file → Given d file
unfolding file_of_value
read_of_value d today file ordered is =
    let s1 = both (check_list d) _ file is in
    let s2 = both (check_version d) _ file s1.second in
    let s3 = both (check_count s1.value) _ file s2.second in
    let s4 = both (entries_from s2.value today 0 s1.value) _ file s3.second in
    let same : elements_or_none (option_and_then as_array (get (codes "suppressions") d)) ≡ s1.value = checked_list _ s1.value s1.first in
    let whole : map entry_in s1.value ≡ s1.value =
    entries_whole s2.value today 0 s1.value s4.value
    (rw (← same) (list_ordered (get (codes "suppressions") d) (λ e. get-IsOrdered (codes "suppressions") d e ordered))) s4.first in
    let entries_are : entries_in d ≡ s1.value = ap (map entry_in) same ∙ whole in
    given_at d s2.value today s4.value file (number_fifth (number_in d) s2.value s2.first) (rw entries_are s4.first) (the_file (record { entries = s4.value; today = today }) file s4.second)

value_given : (bytes : List ℕ) (d : Data) → ok_or (json_of bytes) (whole NotJson) ≡ Ok d → json_of bytes ≡ Some d
value_given bytes d is = by_value (json_of bytes) is
  where
    by_value : (o : Option Data) → ok_or o (whole NotJson) ≡ Ok d → o ≡ Some d
    by_value None is = let never : ⊥ = cc in absurd never
    by_value (Some e) is = ap Some (cc)

none : (today : Option ℕ) → entries_from First today 0 [] ≡ Ok []
unfolding entries_from
none today = refl

pub entries_given : (given : Option (List ℕ)) (today : Option ℕ) (file : File) → file_or_none given today ≡ Ok file → Given (file_object given) file
unfolding file_of
entries_given None today file is = given_at (object no_members) First today [] file (λ e. let never : ⊥ = cc in absurd never) (none today) (the_file (record { entries = []; today = today }) file is)
entries_given (Some bytes) today file is =
    let s1 = both (ok_or (json_of (without_mark bytes)) (whole NotJson)) _ file is in
    let found : json_of (without_mark bytes) ≡ Some s1.value = value_given (without_mark bytes) s1.value s1.first in
    rw found (read_of_value s1.value today file (json_ordered (without_mark bytes) s1.value found) s1.second)

-- the date for which a file was read
value_today : (d : Data) (today : Option ℕ) (file : File) → file_of_value today d ≡ Ok file → file.today ≡ today
unfolding file_of_value
value_today d today file is =
    let s1 = both (check_list d) _ file is in
    let s2 = both (check_version d) _ file s1.second in
    let s3 = both (check_count s1.value) _ file s2.second in
    let s4 = both (entries_from s2.value today 0 s1.value) _ file s3.second in
    ap (λ f. f.today) (sym (the_file (record { entries = s4.value; today = today }) file s4.second))

pub today_given : (given : Option (List ℕ)) (today : Option ℕ) (file : File) → file_or_none given today ≡ Ok file → file.today ≡ today
unfolding file_of
today_given None today file is = ap (λ f. f.today) (sym (the_file (record { entries = []; today = today }) file is))
today_given (Some bytes) today file is = let s1 =
    both (ok_or (json_of (without_mark bytes)) (whole NotJson)) _ file is in value_today s1.value today file s1.second
