-- A printed text is at least as long as the strings in it.
use Rattle.std.proofs.Common.{◌≡◌, ℕ, ◌+◌, ◌<◌, ◌≤◌, ◌/◌, ◌%◌, Bool, true, false, cond, List, [], ◌∷◌, ◌++◌, length, map, drop, slice_index_or, Bor, Option, Some, None, option_map, codes, Ordering, Less, Equal, Greater, nat_cmp, not, bytes_eq, true≢false, refl, sym, ◌∙◌, arith, length-append, subst, if◌then◌else◌}
use Rattle.std.specs.Prelude.{nat_lt}
use Rattle.std.specs.Char.{digit_char}
use Rattle.std.specs.Cmp.Lexicographic.{slice_cmp}
use Rattle.std.specs.Ordering.{match_ordering}
use Rattle.std.proofs.lemmas.Bool.{and_parts}
use Rattle.json.specs.Token.{Token, begin_object, end_object, begin_array, end_array, key, string, number, boolean, null, bad}
use Rattle.json.specs.Print.{escape_letter, escape_byte, escape, token_text, separator, begins}
use Rattle.json.specs.Layout.{Last, nothing, pretty, pretty_from, piece, step, gap, depth_at, is_value}
use Rattle.json.specs.Tree.{json_tokens, items_tokens, members_tokens}
use Rattle.serde_json.specs.Data as value
use Rattle.serde_json.specs.Data.{Data, Items, item, Members, no_members, member, put}
use Rattle.serde_json.specs.Find.{get_member}
use Rattle.serde_json.specs.View.{items_of}
use Rattle.serde_json.specs.Written.{outline, items_outline, members_outline}
use Rattle.serde_json.proofs.Views.{get_member-put}
use Rattle.sarif_options.specs.declared.upkeep.Renewal.{Renewal}
use Rattle.sarif_model.specs.declared.record.Record.{Record}
use Rattle.sarif_model.specs.Written.{Row}
use Rattle.sarif_entries.specs.declared.condition.Condition.{Condition}
use Rattle.sarif_entries.specs.declared.condition.ConditionKind.{ConditionKind}
use Rattle.sarif_entries.specs.Condition.{all_kinds, text_of}
use Rattle.sarif_entries.specs.Entries.{with_condition}
use Rattle.sarif_accept.specs.Entry.{asked_of, named_by, value_of, rows_of, entry_for, entry_rows, members_from}
use Rattle.sarif_accept.proofs.EachCondition.{text_is_value}
use Rattle.sarif_entries.specs.File.{number_of}
use Rattle.sarif_accept.specs.NewFile.{entries_in, file_object, file_text, others_in, version_after}
use Rattle.sarif_accept.specs.Keeping.{chosen}
use Rattle.sarif_accept.specs.Renewed.{renewed_entries, renewed_file}
use Rattle.sarif_accept.specs.Internal.Weighing.{weight_if, weight_in, weight_of, weights_of}
use Rattle.sarif_accept.proofs.Flags.{left_of}
use Rattle.sarif_accept.proofs.Rows.{are_apart, found, get_row, lacks}

-- ---- tokens and their text

-- the bytes of a string that a token holds; those of names don't count
weight : Token → ℕ
weight begin_object = 0
weight end_object = 0
weight begin_array = 0
weight end_array = 0
weight (key s) = 0
weight (string s) = length s
weight (number s) = 0
weight (boolean b) = 0
weight null = 0
weight bad = 0

weights : List Token → ℕ
weights [] = 0
weights (t ∷ ts) = weight t + weights ts

one_byte : (x : ℕ) → 1 ≤ length (escape_byte x)
unfolding escape_byte
one_byte x = by_tests (nat_lt 0 (escape_letter x)) (nat_lt x 32)
  where
    by_tests : (a b : Bool) → 1 ≤ length
        (cond a (92 ∷ escape_letter x ∷ []) (cond b (92 ∷ 117 ∷ 48 ∷ 48 ∷ digit_char (x / 16) ∷ digit_char (x % 16) ∷ []) (x ∷ [])))
    by_tests true b = omega arith
    by_tests false true = omega arith
    by_tests false false = omega arith

pub escaped : (s : List ℕ) → length s ≤ length (escape s)
escaped [] = omega arith
escaped (x ∷ s) = omega (arith, one_byte x, escaped s, length-append (escape_byte x) (escape s))

token_weight : (t : Token) → weight t ≤ length (token_text t)
unfolding weight
token_weight begin_object = omega arith
token_weight end_object = omega arith
token_weight begin_array = omega arith
token_weight end_array = omega arith
token_weight (key s) = omega arith
token_weight (string s) = omega (arith, escaped s, length-append (escape s) (34 ∷ []))
token_weight (number s) = omega arith
token_weight (boolean b) = omega arith
token_weight null = omega arith
token_weight bad = omega arith

pretty_weight : (s : Last × ℕ) (ts : List Token) → weights ts ≤ length (pretty_from s ts)
unfolding weights pretty_from
pretty_weight s [] = omega arith
pretty_weight s (t ∷ ts) =
    let front = separator (is_value s.0) t in
    let space = gap s.0 (begins t) (depth_at s.1 t) in
    omega (
      arith,
      token_weight t,
      pretty_weight (step s t) ts,
      length-append (piece s t) (pretty_from (step s t) ts),
      length-append front (space ++ token_text t),
      length-append space (token_text t),
    )

weights-append : (xs ys : List Token) → weights (xs ++ ys) ≡ weights xs + weights ys
unfolding weights
weights-append [] ys = omega arith
weights-append (x ∷ xs) ys = omega (arith, weights-append xs ys)

-- ---- values

value_weight : Data → ℕ
value_weight d = weights (json_tokens (outline d))

items_weight : Items → ℕ
items_weight ds = weights (items_tokens (items_outline ds))

members_weight : Members → ℕ
members_weight ms = weights (members_tokens (members_outline ms))

item_more : (d : Data) (ds : Items) → items_weight (item d ds) ≡ value_weight d + items_weight ds
unfolding items_weight value_weight
item_more d ds = weights-append (json_tokens (outline d)) (items_tokens (items_outline ds))

member_more : (k : List ℕ) (d : Data) (ms : Members) → members_weight (member k d ms) ≡ value_weight d + members_weight ms
unfolding members_weight value_weight weights weight
member_more k d ms = omega (arith, weights-append (json_tokens (outline d)) (members_tokens (members_outline ms)))

array_weight : (ds : Items) → value_weight (value.array ds) ≡ items_weight ds
unfolding value_weight items_weight weights weight
array_weight ds = omega arith

object_weight : (ms : Members) → value_weight (value.object ms) ≡ members_weight ms
unfolding value_weight members_weight weights weight
object_weight ms = omega arith

string_weight : (s : List ℕ) → value_weight (value.string s) ≡ length s
unfolding value_weight weights weight
string_weight s = omega arith

-- what a value weighs; nothing is 0
some_weight : Option Data → ℕ
some_weight None = 0
some_weight (Some d) = value_weight d

-- a member that wasn't there adds its value
put_on : (o : Ordering) (k l : List ℕ) (d e : Data) (ms : Members) → match_ordering o (get_member k ms) (Some e) (get_member k ms) ≡ None
    → (get_member k ms ≡ None → value_weight d + members_weight ms ≤ members_weight (put k d ms))
    → value_weight d + members_weight (member l e ms) ≤ members_weight (match_ordering o (member k d (member l e ms)) (member l d ms) (member l e (put k d ms)))
put_on Less k l d e ms none later = omega (arith, member_more k d (member l e ms))
put_on Equal k l d e ms none later = let never : ⊥ = cc in absurd never
put_on Greater k l d e ms none later = omega (arith, later none, member_more l e ms, member_more l e (put k d ms))

put_weight : (k : List ℕ) (d : Data) (ms : Members) → get_member k ms ≡ None → value_weight d + members_weight ms ≤ members_weight (put k d ms)
put_weight k d no_members none = omega (arith, member_more k d no_members)
put_weight k d (member l e ms) none = put_on (slice_cmp nat_cmp k l) k l d e ms none (put_weight k d ms)

-- what is found weighs at most what all members weigh
found_on : (o : Ordering) (f : Option Data) (d : Data) (n : ℕ) → some_weight f ≤ n → value_weight d ≤ n → some_weight (match_ordering o f (Some d) f) ≤ n
unfolding some_weight
found_on Less f d n rest here = rest
found_on Equal f d n rest here = here
found_on Greater f d n rest here = rest

get_lighter : (q : List ℕ) (ms : Members) → some_weight (get_member q ms) ≤ members_weight ms
unfolding some_weight
get_lighter q no_members = omega arith
get_lighter q (member k d ms) =
    let whole = member_more k d ms in
    found_on (slice_cmp nat_cmp q k) (get_member q ms) d (members_weight (member k d ms)) (omega (arith, whole, get_lighter q ms)) (omega (arith, whole))

has_weight : (q : List ℕ) (ms : Members) (d : Data) → get_member q ms ≡ Some d → value_weight d ≤ members_weight ms
unfolding some_weight
has_weight q ms d is = found_lighter (get_member q ms) d is (get_lighter q ms)
  where
    found_lighter : (o : Option Data) (d : Data) → o ≡ Some d → some_weight o ≤ members_weight ms → value_weight d ≤ members_weight ms
    found_lighter None d is light = let never : ⊥ = cc in absurd never
    found_lighter (Some e) d is light = let same : e ≡ d = cc in subst (λ x. value_weight x ≤ members_weight ms) same light

-- ---- the entry that accepts a result

rows_weight : List Row → ℕ
rows_weight [] = 0
rows_weight (row ∷ rows) = some_weight row.1 + rows_weight rows

-- a name that no row has isn't found
not_found : (q : List ℕ) (rows : List Row) → lacks q rows ≡ true → found q rows ≡ None
not_found q [] e = refl
not_found q (row ∷ rows) e =
    let both = and_parts (not (bytes_eq q row.0)) (lacks q rows) e in
    by_test (bytes_eq q row.0) both.0 (not_found q rows both.1)
  where
    by_test : (b : Bool) → not b ≡ true → found q rows ≡ None → (if b then row.1 else found q rows) ≡ None
    by_test true e none = absurd (true≢false (sym e))
    by_test false e none = none

-- members that are made of rows, whose names differ, weigh what these weigh
rows_heavy : (rows : List Row) → are_apart rows ≡ true → rows_weight rows ≤ members_weight (members_from rows)
unfolding rows_weight some_weight
rows_heavy [] e = omega arith
rows_heavy ((k, None) ∷ rows) e = omega (arith, rows_heavy rows (and_parts (lacks k rows) (are_apart rows) e).1)
rows_heavy ((k, Some d) ∷ rows) e =
    let both = and_parts (lacks k rows) (are_apart rows) e in
    omega (arith, rows_heavy rows both.1, put_weight k d (members_from rows) (get_row k rows both.1 ∙ not_found k rows both.0))

text_weight : (o : Option (List ℕ)) → some_weight (option_map value.string o) ≡ weight_if o
unfolding some_weight
text_weight None = refl
text_weight (Some text) = string_weight text

-- a string that a condition names is the value of its member
condition_weight : (c : Condition) → weight_if (text_of c) ≤ some_weight (Some (value_of c))
condition_weight c =
    elim (text_of c) as (λ o. text_of c ≡ o → weight_if o ≤ some_weight (Some (value_of c))) [
      | None ↦ λ _. omega arith
      | Some text ↦ λ is. rw (text_is_value c text is) (omega (arith, text_weight (Some text)))
    ] refl

condition_more : (o : Option Condition) (cs : List Condition) (n : ℕ) → weight_in cs ≤ n
    → weight_in (with_condition o cs) ≤ some_weight (option_map value_of o) + n
condition_more None cs n rest = omega (arith, rest)
condition_more (Some c) cs n rest = omega (arith, rest, condition_weight c)

named_weight : (f : ConditionKind → Option Condition) (kinds : List ConditionKind) → weight_in (named_by f kinds) ≤ rows_weight (rows_of f kinds)
unfolding rows_weight
named_weight f [] = omega arith
named_weight f (kind ∷ kinds) = condition_more (f kind) (named_by f kinds) (rows_weight (rows_of f kinds)) (named_weight f kinds)

entry_weight : (renewal : Renewal) (r : Record) → weight_of renewal r ≤ value_weight (entry_for r renewal.reason renewal.until)
unfolding rows_weight
entry_weight renewal r =
    let rows = entry_rows (asked_of r) renewal.reason renewal.until in
    omega (arith, rows_heavy rows refl, object_weight (members_from rows), text_weight renewal.reason, named_weight (asked_of r) all_kinds)

made_weight : (renewal : Renewal) (rs : List Record) → weights_of renewal rs ≤ items_weight (items_of (map (λ r. entry_for r renewal.reason renewal.until) rs))
made_weight renewal [] = omega arith
made_weight renewal (r ∷ rs) =
    omega (
      arith,
      entry_weight renewal r,
      made_weight renewal rs,
      item_more (entry_for r renewal.reason renewal.until) (items_of (map (λ r. entry_for r renewal.reason renewal.until) rs)),
    )

behind_weight : (xs ys : List Data) → items_weight (items_of ys) ≤ items_weight (items_of (xs ++ ys))
behind_weight [] ys = omega arith
behind_weight (x ∷ xs) ys = omega (arith, behind_weight xs ys, item_more x (items_of (xs ++ ys)))

-- ---- the new file

weighed : (d : Data) → value_weight d ≤ length (pretty (json_tokens (outline d)))
unfolding value_weight
weighed d = pretty_weight (nothing, 0) (json_tokens (outline d))

-- its text is as long as the strings of the entries that are added
pub file_weight : (given : Option (List ℕ)) (kept : List Bool) (added : List Record) (renewal : Renewal)
    → weights_of renewal added ≤ length (file_text (renewed_file given kept added renewal))
file_weight given kept added renewal =
    let made = map (λ r. entry_for r renewal.reason renewal.until) added in
    let all = renewed_entries given kept added renewal in
    let rest = put (codes "version") (value.number (value.unsigned (number_of (version_after (file_object given) made)))) (others_in (file_object given)) in
    let ms = put (codes "suppressions") (value.array (items_of all)) rest in
    let text = json_tokens (outline (value.object ms)) in
    let printed : value_weight (value.object ms) ≤ length (pretty text) = weighed (value.object ms) in
    omega (
      arith,
      made_weight renewal added,
      behind_weight (chosen kept (entries_in (file_object given))) made,
      array_weight (items_of all),
      has_weight (codes "suppressions") ms (value.array (items_of all))
          (get_member-put (codes "suppressions") (value.array (items_of all)) rest),
      object_weight ms,
      printed,
      length-append (pretty text) (10 ∷ []),
    )

-- ---- going through the results

pub weights_left : (renewal : Renewal) (xs : List (Bor Record)) (n : ℕ) (r : Bor Record) → n < length xs → r ≡ slice_index_or xs n r
    → weights_of renewal (map (λ r. r.now) (drop n xs)) ≡ weight_of renewal r.now + weights_of renewal (map (λ r. r.now) (drop (n + 1) xs))
weights_left renewal xs n r within is = rw (left_of xs n r within is) refl

-- ---- going through the conditions of a result

pub weight_left : (cs : List Condition) (n : ℕ) (c : Condition) → n < length cs → c ≡ slice_index_or cs n c
    → weight_in (drop n cs) ≡ weight_if (text_of c) + weight_in (drop (n + 1) cs)
weight_left cs n c within is = rw (left_of cs n c within is) refl
