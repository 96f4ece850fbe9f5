-- Stripping changes nothing of an entry that is read.
use Rattle.std.proofs.Common.{◌≡◌, ℕ, Bool, true, false, ◌&&◌, ◌||◌, List, [], ◌∷◌, map, Option, Some, None, option_map, bytes_eq, codes, refl, sym, ap, ap₂, ◌∙◌, true≢false, Ordering, Less, Equal, Greater, is_eq, nat_cmp, if◌then◌else◌}
use Rattle.std.specs.Prelude.{◌+◌, Result, Ok, Err, option_and_then}
use Rattle.std.specs.List.{AllByRecursion, list_any}
use Rattle.std.specs.Cmp.Lexicographic.{slice_cmp}
use Rattle.std.specs.Ordering.{match_ordering}
use Rattle.std.proofs.lemmas.Map.Text.{is_eq-slice_cmp}
use Rattle.std.proofs.lemmas.Slice.Eq.{bytes_eq-Decides}
use Rattle.std.proofs.lemmas.Bool.{and_parts}
use Rattle.serde_json.specs.Data.{Data, null, boolean, number, unsigned, negative, float, string, array, object, Items, no_items, item, Members, no_members, member}
use Rattle.serde_json.specs.Find.{get, get_member, as_str, as_array}
use Rattle.json_parts.specs.Internal.Ordered.{IsOrdered, AreMembersOrdered}
use Rattle.json_parts.specs.Stripping.{is_fractional, stripped, stripped_items, stripped_members}
use Rattle.json_parts.proofs.SameMembers.{same_members}
use Rattle.json_parts.proofs.Stripped.{get-stripped, unless_fractional}
use Rattle.sarif_read.proofs.RunOf.{stripped_ordered}
use Rattle.sarif_model.specs.Members.{◌>>=◌, of_kind, text_at, unless_null, elements, elements_of, read_each, result_map}
use Rattle.sarif_model.specs.declared.fault.Fault.TheVariants.{BadEntry}
use Rattle.sarif_entries.specs.declared.condition.Condition.{Condition}
use Rattle.sarif_entries.specs.declared.condition.ConditionKind.{ConditionKind}
use Rattle.sarif_entries.specs.Condition.{Form, a_text, a_guid, some_pairs, some_texts, all_kinds, name_of, since, form_of, unless_empty}
use Rattle.sarif_entries.specs.declared.entry.Entry.{Entry}
use Rattle.sarif_entries.specs.declared.limit.Limit.{Limit}
use Rattle.sarif_entries.specs.declared.fault.FileFault.{FileFault}
use Rattle.sarif_entries.specs.declared.version.Version.{Version}
use Rattle.sarif_entries.specs.declared.version.Version.TheVariants.{Fifth}
use Rattle.sarif_entries.specs.Entries.{includes, has_condition, has_member, are_members_of, check_members, unless_fault, read_as, with_condition, condition_at, conditions_from, conditions_of, members_of, entry_of, guid_at, pairs_at, pairs_of_member, are_texts, pairs_of, texts_at, text_or, day_at, day_of_member, limit_at, limit_of_member, status_at}
use Rattle.sarif_entries.specs.File.{entries_from}
use Rattle.sarif_entries.specs.FileFault.{in_entry}
use Rattle.sarif_accept.specs.NewFile.{entry_in}
use Rattle.sarif_accept_laws.proofs.Kept.{all_known, fifth_covers, parts}

-- if two steps together succeeded, both did
pub record Both {A B : Type 0} (a : Result A FileFault) (f : A → Result B FileFault) (y : B) : Type 0 where
  pub value : A
  pub first : a ≡ Ok value
  pub second : f value ≡ Ok y

pub both : {A B : Type 0} (a : Result A FileFault) (f : A → Result B FileFault) (y : B) → (a >>= f) ≡ Ok y → Both a f y
both (Ok x) f y is = record { value = x; first = refl; second = is }
both (Err e) f y is = let never : ⊥ = cc in absurd never

-- stripping leaves what is found
abbrev Stays : Option Data → Type 0
Stays o = option_and_then unless_fractional o ≡ o

-- ---- what a member may be

module _ (wrong : FileFault) where
  text_stays : (o : Option Data) (x : Option (List ℕ)) → of_kind wrong as_str (option_and_then unless_null o) ≡ Ok x → Stays o
  text_stays None x is = refl
  text_stays (Some null) x is = refl
  text_stays (Some (boolean b)) x is = refl
  text_stays (Some (number n)) x is = let never : ⊥ = cc in absurd never
  text_stays (Some (string s)) x is = refl
  text_stays (Some (array ds)) x is = let never : ⊥ = cc in absurd never
  text_stays (Some (object ms)) x is = let never : ⊥ = cc in absurd never

  day_stays : (o : Option Data) (x : Option ℕ) → day_of_member wrong (option_and_then unless_null o) ≡ Ok x → Stays o
  day_stays None x is = refl
  day_stays (Some null) x is = refl
  day_stays (Some (boolean b)) x is = refl
  day_stays (Some (number (unsigned n))) x is = refl
  day_stays (Some (number (negative z))) x is = refl
  day_stays (Some (number (float n))) x is = let never : ⊥ = cc in absurd never
  day_stays (Some (string s)) x is = refl
  day_stays (Some (array ds)) x is = let never : ⊥ = cc in absurd never
  day_stays (Some (object ms)) x is = let never : ⊥ = cc in absurd never

  limit_stays : (n : ℕ) (o : Option Data) (x : Option Limit) → limit_of_member wrong n (option_and_then unless_null o) ≡ Ok x → Stays o
  limit_stays n None x is = refl
  limit_stays n (Some null) x is = refl
  limit_stays n (Some (boolean b)) x is = refl
  limit_stays n (Some (number (unsigned most))) x is = refl
  limit_stays n (Some (number (negative z))) x is = refl
  limit_stays n (Some (number (float f))) x is = let never : ⊥ = cc in absurd never
  limit_stays n (Some (string s)) x is = refl
  limit_stays n (Some (array ds)) x is = let never : ⊥ = cc in absurd never
  limit_stays n (Some (object ms)) x is = let never : ⊥ = cc in absurd never

  members_stay : (ms : Members) → are_texts ms ≡ true → stripped_members ms ≡ ms
  members_stay no_members all = refl
  members_stay (member k null ms) all = ap (member k null) (members_stay ms all)
  members_stay (member k (boolean b) ms) all = absurd (true≢false (sym all))
  members_stay (member k (number n) ms) all = absurd (true≢false (sym all))
  members_stay (member k (string s) ms) all = ap (member k (string s)) (members_stay ms all)
  members_stay (member k (array ds) ms) all = absurd (true≢false (sym all))
  members_stay (member k (object ns) ms) all = absurd (true≢false (sym all))

  passed : (b : Bool) (ps : List (List ℕ × List ℕ)) (x : List (List ℕ × List ℕ))
      → ◌≡◌ {A = Result (List (List ℕ × List ℕ)) FileFault} (if b then Ok ps else Err wrong) (Ok x) → b ≡ true
  passed true ps x is = refl
  passed false ps x is = let never : ⊥ = cc in absurd never

  pairs_stay : (o : Option Data) (x : List (List ℕ × List ℕ)) → pairs_of_member wrong (option_and_then unless_null o) ≡ Ok x → Stays o
  pairs_stay None x is = refl
  pairs_stay (Some null) x is = refl
  pairs_stay (Some (boolean b)) x is = refl
  pairs_stay (Some (number n)) x is = let never : ⊥ = cc in absurd never
  pairs_stay (Some (string s)) x is = refl
  pairs_stay (Some (array ds)) x is = let never : ⊥ = cc in absurd never
  pairs_stay (Some (object ms)) x is = ap (λ ns. Some (object ns)) (members_stay ms (passed (are_texts ms) (pairs_of ms) x is))

  -- an array of strings
  record AreWhole (ds : Items) : Type 0 where
    plain : Rattle.json_parts.specs.Stripping.any_fractional ds ≡ false
    same : stripped_items ds ≡ ds

  one_text : (d : Data) (x : List ℕ) → text_or wrong d ≡ Ok x → (is_fractional d ≡ false) × (stripped d ≡ d)
  one_text null x is = let never : ⊥ = cc in absurd never
  one_text (boolean b) x is = (refl, refl)
  one_text (number n) x is = let never : ⊥ = cc in absurd never
  one_text (string s) x is = (refl, refl)
  one_text (array ds) x is = let never : ⊥ = cc in absurd never
  one_text (object ms) x is = let never : ⊥ = cc in absurd never

  each_text : (ds : Items) (xs : List (List ℕ)) → read_each (text_or wrong) (elements ds) ≡ Ok xs → AreWhole ds
  each_text no_items xs is = record { plain = refl; same = refl }
  each_text (item d ds) xs is =
      let b = both (text_or wrong d) _ xs is in
      let one = one_text d b.value b.first in
      let more = each_text ds _ (rest (read_each (text_or wrong) (elements ds)) b.value xs b.second).1 in
      record { plain = rw (one.0, more.plain) refl; same = rw (one.1, more.same) refl }
    where
      rest : (r : Result (List (List ℕ)) FileFault) (x : List ℕ) (xs : List (List ℕ)) → result_map (λ ys. x ∷ ys) r ≡ Ok xs → (ys : List (List ℕ)) × (r ≡ Ok ys)
      rest (Ok ys) x xs is = (ys, refl)
      rest (Err e) x xs is = let never : ⊥ = cc in absurd never

  list_stays : (o : Option Data) (x : List (List ℕ))
      → (elements_of (of_kind wrong as_array (option_and_then unless_null o)) >>= read_each (text_or wrong)) ≡ Ok x → Stays o
  list_stays None x is = refl
  list_stays (Some null) x is = refl
  list_stays (Some (boolean b)) x is = refl
  list_stays (Some (number n)) x is = let never : ⊥ = cc in absurd never
  list_stays (Some (string s)) x is = refl
  list_stays (Some (array ds)) x is = let whole = each_text ds x is in rw (whole.plain, whole.same) refl
  list_stays (Some (object ms)) x is = let never : ⊥ = cc in absurd never

-- ---- the members of an entry that is read

-- if what was made of a value is there, so is the value
mapped : {A B : Type 0} (f : A → B) (r : Result A FileFault) (y : B) → result_map f r ≡ Ok y → (x : A) × (r ≡ Ok x)
mapped f (Ok x) y is = (x, refl)
mapped f (Err e) y is = let never : ⊥ = cc in absurd never

form_stays : (wrong : FileFault) (form : Form) (name : List ℕ) (d : Data) (found : Option Condition) → read_as form wrong name d ≡ Ok found → Stays (get name d)
form_stays wrong (a_text make) name d found is = let m = mapped (option_map make) (text_at wrong name d) found is in text_stays wrong _ m.0 m.1
form_stays wrong (a_guid make) name d found is =
    let m = mapped (option_map make) (guid_at wrong name d) found is in
    let g = both (text_at wrong name d) _ m.0 m.1 in
    text_stays wrong _ g.value g.first
form_stays wrong (some_pairs make) name d found is = let m = mapped (unless_empty make) (pairs_at wrong name d) found is in pairs_stay wrong _ m.0 m.1
form_stays wrong (some_texts make) name d found is = let m = mapped (unless_empty make) (texts_at wrong name d) found is in list_stays wrong _ m.0 m.1

abbrev ConditionsStay : Data → List ConditionKind → Type 0
ConditionsStay d kinds = AllByRecursion (λ kind. Stays (get (name_of kind) d)) kinds

kinds_stay : (wrong : FileFault) (d : Data) (kinds : List ConditionKind) (cs : List Condition) → conditions_from wrong d kinds ≡ Ok cs → ConditionsStay d kinds
kinds_stay wrong d [] cs is = tt
kinds_stay wrong d (kind ∷ kinds) cs is =
    let s = both (condition_at wrong d kind) _ cs is in
    let m = mapped (with_condition s.value) (conditions_from wrong d kinds) cs s.second in
    (form_stays wrong (form_of kind) (name_of kind) d s.value s.first, kinds_stay wrong d kinds m.0 m.1)

record MembersStay (d : Data) : Type 0 where
  conditions : ConditionsStay d all_kinds
  expires : Stays (get (codes "expires") d)
  status : Stays (get (codes "status") d)
  justification : Stays (get (codes "justification") d)
  limit : Stays (get (codes "max") d)

conditions_stay : (wrong : FileFault) (d : Data) (cs : List Condition) → conditions_of wrong d ≡ Ok cs → ConditionsStay d all_kinds
unfolding conditions_of
conditions_stay wrong d cs is = kinds_stay wrong d all_kinds cs is

all_stay : (wrong : FileFault) (n : ℕ) (d : Data) (e : Entry) → members_of wrong n d ≡ Ok e → MembersStay d
unfolding members_of
all_stay wrong n d e is =
    let s1 = both (conditions_of wrong d) _ e is in
    let s2 = both (day_at wrong (codes "expires") d) _ e s1.second in
    let s3 = both (status_at wrong (codes "status") d) _ e s2.second in
    let t = both (text_at wrong (codes "status") d) _ s3.value s3.first in
    let s4 = both (text_at wrong (codes "justification") d) _ e s3.second in
    let s5 = both (limit_at wrong n (codes "max") d) _ e s4.second in
    record {
      conditions = conditions_stay wrong d s1.value s1.first;
      expires = day_stays wrong _ s2.value s2.first;
      status = text_stays wrong _ t.value t.first;
      justification = text_stays wrong _ s4.value s4.first;
      limit = limit_stays wrong n _ s5.value s5.first;
    }

-- ---- any other name

-- a name that isn't known isn't found
unknown_on : (o : Ordering) (q l : List ℕ) (e : Data) (found : Option Data) → slice_cmp nat_cmp q l ≡ o → has_member Fifth l ≡ true
    → has_member Fifth q ≡ false → found ≡ None
    → match_ordering o found (Some e) found ≡ None
unknown_on Less q l e found is known unknown none = none
unknown_on Equal q l e found is known unknown none =
    let same : q ≡ l = (bytes_eq-Decides q l).0 (sym (is_eq-slice_cmp q l) ∙ ap is_eq is) in
    absurd (true≢false (sym known ∙ ap (has_member Fifth) (sym same) ∙ unknown))
unknown_on Greater q l e found is known unknown none = none

unknown_missing : (q : List ℕ) (ms : Members) → are_members_of Fifth ms ≡ true → has_member Fifth q ≡ false → get_member q ms ≡ None
unknown_missing q no_members all unknown = refl
unknown_missing q (member l e ms) all unknown =
    let parts = and_parts (has_member Fifth l) (are_members_of Fifth ms) all in
    unknown_on (slice_cmp nat_cmp q l) q l e (get_member q ms) refl parts.0 unknown (unknown_missing q ms parts.1 unknown)

-- what is found under a name stays, if it does under each known one
module _ (ms : Members) (stay : MembersStay (object ms)) (q : List ℕ) where
  abbrev StaysHere : Type 0
  StaysHere = Stays (get_member q ms)

  one_of : (name : List ℕ) (rest : Bool) → (bytes_eq q name || rest) ≡ true → Stays (get_member name ms) → (rest ≡ true → StaysHere) → StaysHere
  one_of name rest is here later =
      elim (bytes_eq q name) as (λ b. bytes_eq q name ≡ b → (b || rest) ≡ true → StaysHere) [
        | true ↦ λ same _. rw ((bytes_eq-Decides q name).0 same) here
        | false ↦ λ _ more. later more
      ] refl is

  last_of : (name : List ℕ) → bytes_eq q name ≡ true → Stays (get_member name ms) → StaysHere
  last_of name same here = rw ((bytes_eq-Decides q name).0 same) here

  either : (a b : Bool) → (a || b) ≡ true → (a ≡ true → StaysHere) → (b ≡ true → StaysHere) → StaysHere
  either true b is f g = f refl
  either false b is f g = g is

  condition_stays : (kinds : List ConditionKind) → ConditionsStay (object ms) kinds
      → list_any (λ kind. bytes_eq q (name_of kind) && includes Fifth (since kind)) kinds ≡ true → StaysHere
  condition_stays [] all is = absurd (true≢false (sym is))
  condition_stays (kind ∷ kinds) all is =
      either (bytes_eq q (name_of kind) && includes Fifth (since kind)) _ is
      (λ here. last_of (name_of kind) (and_parts (bytes_eq q (name_of kind)) (includes Fifth (since kind)) here).0 all.0)
      (λ more. condition_stays kinds all.1 more)

  known_stays : has_member Fifth q ≡ true → StaysHere
  known_stays is =
      either (has_condition Fifth q) _ is (λ condition. condition_stays all_kinds stay.conditions condition) (λ is.
      one_of (codes "status") _ is stay.status (λ is.
      one_of (codes "justification") _ is stay.justification (λ is.
      either (bytes_eq q (codes "expires") && true) _ is
      (λ is. last_of (codes "expires") (and_parts (bytes_eq q (codes "expires")) true is).0 stay.expires)
      (λ is. last_of (codes "max") (and_parts (bytes_eq q (codes "max")) true is).0 stay.limit))))

any_stays : (ms : Members) → are_members_of Fifth ms ≡ true → MembersStay (object ms) → (q : List ℕ) → Stays (get_member q ms)
any_stays ms all stay q =
    elim (has_member Fifth q) as (λ b. has_member Fifth q ≡ b → Stays (get_member q ms)) [
      | true ↦ λ known. known_stays ms stay q known
      | false ↦ λ unknown. rw (unknown_missing q ms all unknown) refl
    ] refl

object_stays : (ms : Members) → AreMembersOrdered ms → are_members_of Fifth ms ≡ true → MembersStay (object ms) → stripped_members ms ≡ ms
object_stays ms ordered all stay =
    same_members (stripped_members ms) ms (stripped_ordered (object ms) ordered) ordered
    (λ q. get-stripped q (object ms) ordered ∙ any_stays ms all stay q)

checked_members : (version : Version) (wrong : FileFault) (ms : Members) → check_members version wrong (object ms) ≡ Ok tt → are_members_of version ms ≡ true
checked_members version wrong ms is = by_test (are_members_of version ms) is
  where
    by_test : (b : Bool) → unless_fault b wrong ≡ Ok tt → b ≡ true
    by_test true is = refl
    by_test false is = let never : ⊥ = cc in absurd never

object_whole : (version : Version) (wrong : FileFault) (d : Data) (e : Entry) → IsOrdered d → check_members version wrong d ≡ Ok tt
    → (at : ℕ) → members_of wrong at d ≡ Ok e → entry_in d ≡ d
object_whole version wrong null e ordered checked at read = let never : ⊥ = cc in absurd never
object_whole version wrong (boolean b) e ordered checked at read = let never : ⊥ = cc in absurd never
object_whole version wrong (number n) e ordered checked at read = let never : ⊥ = cc in absurd never
object_whole version wrong (string s) e ordered checked at read = let never : ⊥ = cc in absurd never
object_whole version wrong (array ds) e ordered checked at read = let never : ⊥ = cc in absurd never
object_whole version wrong (object ms) e ordered checked at read =
    ap object (object_stays ms ordered (all_known version Fifth (fifth_covers version) ms (checked_members version wrong ms checked)) (all_stay wrong at (object ms) e read))

-- stripping changes nothing of an entry that is read
entry_whole : (version : Version) (today : Option ℕ) (n : ℕ) (d : Data) (e : Entry) → IsOrdered d → entry_of version today n d ≡ Ok e → entry_in d ≡ d
unfolding entry_of
entry_whole version today n d e ordered is =
    let wrong : FileFault = in_entry n BadEntry in
    let s1 = both (check_members version wrong d) _ e is in
    let s2 = both (members_of wrong n d) _ e s1.second in
    object_whole version wrong d s2.value ordered s1.first n s2.first

-- nor of the entries of a file that is read
pub entries_whole : (version : Version) (today : Option ℕ) (n : ℕ) (ds : List Data) (es : List Entry) → AllByRecursion IsOrdered ds
    → entries_from version today n ds ≡ Ok es
    → map entry_in ds ≡ ds
entries_whole version today n [] es ordered is = refl
entries_whole version today n (d ∷ ds) es ordered is =
    let p = parts version today n d ds es is in
    let one = entry_whole version today n d p.first ordered.0 p.first_is in
    let more = entries_whole version today (n + 1) ds p.rest ordered.1 p.rest_is in
    ap₂ (λ x xs. x ∷ xs) one more
