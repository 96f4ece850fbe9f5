-- The entry that is made for a result is read as it was meant.
use Rattle.std.proofs.Common.{◌≡◌, ℕ, ◌<◌, ◌^◌, true, ◌&&◌, not, List, [], ◌∷◌, map, Option, Some, None, option_map, codes, refl, sym, ap, ◌∙◌, if◌then◌else◌, Ordering, Less, Equal, Greater, nat_cmp}
use Rattle.std.specs.Prelude.{Ok, option_and_then, IfSome, is_none, is_some}
use Rattle.std.specs.Cmp.Lexicographic.{slice_cmp}
use Rattle.std.specs.Ordering.{match_ordering}
use Rattle.std.proofs.lemmas.Bool.{and_from, and_parts}
use Rattle.serde_json.specs.Data.{Data, number, unsigned, string, array, object, Members, no_members, member, put}
use Rattle.serde_json.specs.Find.{get, get_member, as_str, as_array}
use Rattle.serde_json.specs.View.{items_of}
use Rattle.sarif_model.proofs.Elements.{items_back}
use Rattle.sarif_model.proofs.Guids.{guid_back}
use Rattle.sarif_model.specs.Members.{◌>>=◌, result_map, of_kind, unless_null, text_at, or_wrong, elements_of, read_each}
use Rattle.sarif_model.specs.declared.kinds.Status.TheVariants.{Accepted}
use Rattle.sarif_model.specs.declared.fault.Fault.TheVariants.{BadEntry}
use Rattle.sarif_model.specs.declared.record.Record.{Record}
use Rattle.sarif_entries.specs.declared.condition.Condition.{Condition}
use Rattle.sarif_entries.specs.declared.condition.Condition.TheVariants.{Snippet}
use Rattle.sarif_entries.specs.declared.condition.ConditionKind.{ConditionKind}
use Rattle.sarif_entries.specs.declared.condition.ConditionKind.TheVariants as kinds
use Rattle.sarif_entries.specs.Condition.{Form, a_text, a_guid, some_pairs, some_texts, all_kinds, name_of, form_of, if_any, unless_empty}
use Rattle.sarif_entries.specs.declared.fault.FileFault.{FileFault}
use Rattle.sarif_entries.specs.declared.version.Version.TheVariants.{Fourth, Fifth}
use Rattle.sarif_entries.specs.Entries.{unless_fault, text_or, texts_at, pairs_of, pairs_at, pairs_of_member, are_texts, day_at, day_of_member, limit_at, limit_of_member, is_day, guid_at, guid_or, check_members, read_as, with_pair, with_condition, condition_at, conditions_from, conditions_of, members_of, entry_of}
use Rattle.sarif_entries.specs.FileFault.{in_entry}
use Rattle.sarif_model.specs.Written.{list_if_any}
use Rattle.sarif_model.specs.Guid.{guid_text}
use Rattle.sarif_accept.specs.Entry.{asked_of, named_by, value_of, texts_into, texts_put, members_from, entry_rows, entry_for, version_for}
use Rattle.sarif_accept.specs.NewFile.{has_snippet}
use Rattle.sarif_accept.specs.Adding.{as_read, entry_read}
use Rattle.sarif_accept.specs.Until.{HasGuid, IsDated}
use Rattle.sarif_accept.proofs.EachCondition.{IsMade, IsWritten, is_written, asked_made}
use Rattle.sarif_accept.proofs.Rows.{are_known, found, get_row, text_back, known_rows}

-- ---- GUIDs

or_guid : (wrong : FileFault) (o : Option ℕ) → IfSome o (λ guid. guid < 2 ^ 128)
    → ((of_kind wrong as_str (option_and_then unless_null (option_map (λ n. string (guid_text n)) o))) >>= guid_or wrong) ≡ Ok o
or_guid wrong None fits = refl
or_guid wrong (Some guid) fits = ap (or_wrong wrong) (guid_back guid fits)

-- ---- fingerprints

texts_put_on : (o : Ordering) (k l : List ℕ) (v : List ℕ) (e : Data) (ms : Members) → are_texts (member l e ms) ≡ true → are_texts (put k (string v) ms) ≡ true
    → are_texts (match_ordering o (member k (string v) (member l e ms)) (member l (string v) ms) (member l e (put k (string v) ms))) ≡ true
texts_put_on Less k l v e ms all later = all
texts_put_on Equal k l v e ms all later = (and_parts _ (are_texts ms) all).1
texts_put_on Greater k l v e ms all later = and_from _ _ (and_parts _ (are_texts ms) all).0 later

put_texts : (k v : List ℕ) (ms : Members) → are_texts ms ≡ true → are_texts (put k (string v) ms) ≡ true
put_texts k v no_members all = refl
put_texts k v (member l e ms) all = texts_put_on (slice_cmp nat_cmp k l) k l v e ms all (put_texts k v ms (and_parts _ (are_texts ms) all).1)

into_texts : (ms : Members) (ps : List (List ℕ × List ℕ)) → are_texts ms ≡ true → are_texts (texts_into ms ps) ≡ true
into_texts ms [] all = all
into_texts ms (p ∷ ps) all = into_texts (put p.0 (string p.1) ms) ps (put_texts p.0 p.1 ms all)

all_texts : (ps : List (List ℕ × List ℕ)) → are_texts (texts_put ps) ≡ true
all_texts ps = into_texts no_members ps refl

-- a map of strings isn't empty, once a string is set
abbrev IsFull : List (List ℕ × List ℕ) → Type 0
IsFull ps = if_any ps ≡ Some ps

with_full : (name : List ℕ) (o : Option (List ℕ)) (ps : List (List ℕ × List ℕ)) → IsFull ps → IsFull (with_pair name o ps)
with_full name None ps full = full
with_full name (Some text) ps full = refl

put_full_on : (o : Ordering) (k v l : List ℕ) (e : Data) (ms : Members) → IsFull (pairs_of (put k (string v) ms))
    → IsFull (pairs_of (match_ordering o (member k (string v) (member l e ms)) (member l (string v) ms) (member l e (put k (string v) ms))))
put_full_on Less k v l e ms later = refl
put_full_on Equal k v l e ms later = refl
put_full_on Greater k v l e ms later = with_full l (as_str e) (pairs_of (put k (string v) ms)) later

put_full : (k v : List ℕ) (ms : Members) → IsFull (pairs_of (put k (string v) ms))
put_full k v no_members = refl
put_full k v (member l e ms) = put_full_on (slice_cmp nat_cmp k l) k v l e ms (put_full k v ms)

into_full : (ms : Members) (ps : List (List ℕ × List ℕ)) → IsFull (pairs_of ms) → IsFull (pairs_of (texts_into ms ps))
into_full ms [] full = full
into_full ms (p ∷ ps) full = into_full (put p.0 (string p.1) ms) ps (put_full p.0 p.1 ms)

any_full : (p : List ℕ × List ℕ) (ps : List (List ℕ × List ℕ)) → IsFull (pairs_of (texts_put (p ∷ ps)))
any_full p ps = into_full (put p.0 (string p.1) no_members) ps (put_full p.0 p.1 no_members)

abbrev pub pairs_if_any : List (List ℕ × List ℕ) → Option Data
pairs_if_any ps = option_map (λ qs. object (texts_put qs)) (if_any ps)

pairs_back : (wrong : FileFault) (ps : List (List ℕ × List ℕ))
    → pairs_of_member wrong (option_and_then unless_null (pairs_if_any ps)) ≡ Ok (pairs_of (texts_put ps))
pairs_back wrong [] = refl
pairs_back wrong (p ∷ ps) = rw (all_texts (p ∷ ps)) refl

-- ---- arguments

texts_each : (wrong : FileFault) (texts : List (List ℕ)) → read_each (text_or wrong) (map string texts) ≡ Ok texts
texts_each wrong [] = refl
texts_each wrong (t ∷ ts) = rw (texts_each wrong ts) refl

texts_back : (wrong : FileFault) (texts : List (List ℕ))
    → (elements_of (of_kind wrong as_array (option_and_then unless_null (list_if_any (map string texts)))) >>= read_each (text_or wrong))
    ≡ Ok texts
texts_back wrong [] = refl
texts_back wrong (t ∷ ts) = rw (items_back (map string ts)) (texts_each wrong (t ∷ ts))

-- ---- days

day_back : (wrong : FileFault) (o : Option ℕ) → IfSome o (λ last. is_day last ≡ true)
    → day_of_member wrong (option_and_then unless_null (option_map (λ n. number (unsigned n)) o)) ≡ Ok o
day_back wrong None fits = refl
day_back wrong (Some last) fits = rw fits refl

-- ---- conditions

value_maps : {A : Type 0} (make : A → Condition) (value : A → Data) (o : Option A) → ((a : A) → value_of (make a) ≡ value a)
    → option_map value_of (option_map make o) ≡ option_map value o
value_maps make value None is = refl
value_maps make value (Some a) is = ap Some (is a)

read_maps : {A : Type 0} (make : A → Condition) (o : Option A) → ((a : A) → as_read (make a) ≡ make a)
    → option_map make o ≡ option_map as_read (option_map make o)
read_maps make None is = refl
read_maps make (Some a) is = ap Some (sym (is a))

pairs_again : (make : List (List ℕ × List ℕ) → Condition) (ps : List (List ℕ × List ℕ))
    → ((qs : List (List ℕ × List ℕ)) → as_read (make qs) ≡ make (pairs_of (texts_put qs)))
    → unless_empty make (pairs_of (texts_put ps)) ≡ option_map as_read (unless_empty make ps)
pairs_again make [] is = refl
pairs_again make (p ∷ ps) is = ap (option_map make) (any_full p ps) ∙ ap Some (sym (is (p ∷ ps)))

list_any_value : (texts : List (List ℕ)) → option_map (λ ts. array (items_of (map string ts))) (if_any texts) ≡ list_if_any (map string texts)
list_any_value [] = refl
list_any_value (t ∷ ts) = refl

-- a condition that was made from a value of its form is read again
form_back : (wrong : FileFault) (form : Form) (name : List ℕ) (d : Data) (o : Option Condition) → IsWritten form → IsMade form o
    → get name d ≡ option_map value_of o
    → read_as form wrong name d ≡ Ok (option_map as_read o)
form_back wrong (a_text make) name d o writes (text, is) at =
    let value : get name d ≡ option_map string text = at ∙ ap (option_map value_of) is ∙ value_maps make string text (λ t. (writes t).0) in
    let read : text_at wrong name d ≡ Ok text = ap (λ o. of_kind wrong as_str (option_and_then unless_null o)) value ∙ text_back wrong text in
    ap (result_map (option_map make)) read ∙ ap Ok (read_maps make text (λ t. (writes t).1) ∙ ap (option_map as_read) (sym is))
form_back wrong (a_guid make) name d o writes (guid, is, fits) at =
    let value : get name d ≡ option_map (λ n. string (guid_text n)) guid = at ∙ ap (option_map value_of) is
    ∙ value_maps make (λ n. string (guid_text n)) guid (λ n. (writes n).0) in
    let read : guid_at wrong name d ≡ Ok guid = ap (λ o. of_kind wrong as_str (option_and_then unless_null o) >>= guid_or wrong) value
    ∙ or_guid wrong guid fits in
    ap (result_map (option_map make)) read ∙ ap Ok (read_maps make guid (λ n. (writes n).1) ∙ ap (option_map as_read) (sym is))
form_back wrong (some_pairs make) name d o writes (pairs, is) at =
    let value : get name d ≡ pairs_if_any pairs = at ∙ ap (option_map value_of) is
    ∙ value_maps make (λ qs. object (texts_put qs)) (if_any pairs) (λ qs. (writes qs).0) in
    let read : pairs_at wrong name d ≡ Ok (pairs_of (texts_put pairs)) =
    ap (λ o. pairs_of_member wrong (option_and_then unless_null o)) value ∙ pairs_back wrong pairs in
    ap (result_map (unless_empty make)) read ∙ ap Ok (pairs_again make pairs (λ qs. (writes qs).1) ∙ ap (option_map as_read) (sym is))
form_back wrong (some_texts make) name d o writes (texts, is) at =
    let value : get name d ≡ list_if_any (map string texts) = at ∙ ap (option_map value_of) is
    ∙ value_maps make (λ ts. array (items_of (map string ts))) (if_any texts) (λ ts. (writes ts).0) ∙ list_any_value texts in
    let read : texts_at wrong name d ≡ Ok texts =
    ap (λ o. elements_of (of_kind wrong as_array (option_and_then unless_null o)) >>= read_each (text_or wrong)) value
    ∙ texts_back wrong texts in
    ap (result_map (unless_empty make)) read ∙ ap Ok (read_maps make (if_any texts) (λ ts. (writes ts).1) ∙ ap (option_map as_read) (sym is))

with_read : (o : Option Condition) (cs : List Condition) → with_condition (option_map as_read o) (map as_read cs) ≡ map as_read (with_condition o cs)
with_read None cs = refl
with_read (Some c) cs = refl

from_kinds : (wrong : FileFault) (d : Data) (f : ConditionKind → Option Condition)
    → ((kind : ConditionKind) → condition_at wrong d kind ≡ Ok (option_map as_read (f kind)))
    → (ks : List ConditionKind) → conditions_from wrong d ks ≡ Ok (map as_read (named_by f ks))
from_kinds wrong d f each [] = refl
from_kinds wrong d f each (kind ∷ ks) = rw (each kind, from_kinds wrong d f each ks) (ap Ok (with_read (f kind) (named_by f ks)))

module _ (f : ConditionKind → Option Condition) (made : (kind : ConditionKind) → IsMade (form_of kind) (f kind)) (reason : Option (List ℕ))
    (until : Option ℕ) (wrong : FileFault) where
  abbrev d : Data
  d = object (members_from (entry_rows f reason until))

  at : (q : List ℕ) → get_member q (members_from (entry_rows f reason until)) ≡ found q (entry_rows f reason until)
  at q = get_row q (entry_rows f reason until) refl

  found_is : (kind : ConditionKind) → found (name_of kind) (entry_rows f reason until) ≡ option_map value_of (f kind)
  found_is kinds.Tool = refl
  found_is _ = refl

  text_is : (q : List ℕ) (o : Option (List ℕ)) → found q (entry_rows f reason until) ≡ option_map string o → text_at wrong q d ≡ Ok o
  text_is q o is = ap (λ o. of_kind wrong as_str (option_and_then unless_null o)) (at q ∙ is) ∙ text_back wrong o

  day_is : IfSome until (λ last. is_day last ≡ true) → day_at wrong (codes "expires") d ≡ Ok until
  day_is fits = ap (λ o. day_of_member wrong (option_and_then unless_null o)) (at (codes "expires")) ∙ day_back wrong until fits

  conditions_is : conditions_of wrong d ≡ Ok (map as_read (named_by f all_kinds))
  unfolding conditions_of
  conditions_is =
      from_kinds wrong d f
      (λ kind. form_back wrong (form_of kind) (name_of kind) d (f kind) (is_written kind) (made kind)
      (at (name_of kind) ∙ found_is kind)) all_kinds

  no_limit : (n : ℕ) → limit_at wrong n (codes "max") d ≡ Ok None
  no_limit n = ap (λ o. limit_of_member wrong n (option_and_then unless_null o)) (at (codes "max"))

  members_is : (n : ℕ) → IfSome until (λ last. is_day last ≡ true)
      → members_of wrong n d
      ≡ Ok
      (record { conditions = map as_read (named_by f all_kinds); expires = until; status = Accepted; justification = reason; limit = None })
  unfolding members_of
  members_is n day =
      let status : text_at wrong (codes "status") d ≡ Ok None = text_is (codes "status") None refl in
      rw (conditions_is, day_is day, status, text_is (codes "justification") reason refl, no_limit n) refl

-- ---- the whole entry

a_day : (today until : Option ℕ) → IsDated today until → IfSome until (λ last. is_day last ≡ true)
a_day today None is = tt
a_day today (Some last) is = is.0

today_known : (today until : Option ℕ) → IsDated today until → not (is_some until && is_none today) ≡ true
today_known today None is = refl
today_known today (Some last) is = rw is.2 refl

-- the names of the members that have a value are known to the version of the entry
pub known_to : (r : Record) (reason : Option (List ℕ)) (until : Option ℕ) → are_known (version_for r) (entry_rows (asked_of r) reason until) ≡ true
known_to r reason until = by_snippet r.snippet refl
  where
    by_snippet : (o : Option (List ℕ)) → r.snippet ≡ o
        → are_known (if is_some o then Fifth else Fourth) (entry_rows (asked_of r) reason until) ≡ true
    by_snippet None is = rw is refl
    by_snippet (Some text) is = refl

pub entry_is : (r : Record) (reason : Option (List ℕ)) (today until : Option ℕ) (n : ℕ) → HasGuid r → IsDated today until
    → entry_of (version_for r) today n (entry_for r reason until) ≡ Ok (entry_read r reason until)
unfolding entry_of
entry_is r reason today until n fits is =
    let f : ConditionKind → Option Condition = asked_of r in
    let wrong : FileFault = in_entry n BadEntry in
    let known : check_members (version_for r) wrong (entry_for r reason until) ≡ Ok tt =
    ap (λ b. unless_fault b wrong) (known_rows (version_for r) (entry_rows f reason until) (known_to r reason until)) in
    let read = members_is f (asked_made r fits) reason until wrong n (a_day today until is) in
    rw (known, read, today_known today until is) refl

-- the entry names a snippet if the result has one
pub has_its_snippet : (r : Record) (reason : Option (List ℕ)) (until : Option ℕ) → has_snippet (entry_for r reason until) ≡ is_some r.snippet
has_its_snippet r reason until = ap is_some (get_row (codes "snippet") (entry_rows (asked_of r) reason until) refl) ∙ by_option r.snippet
  where
    by_option : (o : Option (List ℕ)) → is_some (option_map value_of (option_map Snippet o)) ≡ is_some o
    by_option None = refl
    by_option (Some text) = refl
