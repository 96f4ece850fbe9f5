-- The limits of the entries of a file that was read.
use Rattle.std.proofs.Common.{◌≡◌, ℕ, zero, suc, ◌+◌, ◌≤◌, Bool, true, false, List, [], ◌∷◌, Option, Some, None, Result, Ok, Err, codes, nat_le, ok_or, refl, sym, subst, ap, ◌∙◌, arith, if◌then◌else◌}
use Rattle.std.specs.Prelude.{option_and_then, slice_get}
use Rattle.std.proofs.lemmas.Bool.{and_parts}
use Rattle.std.proofs.lemmas.Bool.Decides.{nat_tests}
use Rattle.std.proofs.lemmas.Option.{same_Some}
use Rattle.serde_json.specs.Data.{Data}
use Rattle.serde_json.specs.Find.{as_number, as_u64}
use Rattle.json_parts.specs.Indexed.{json_of}
use Rattle.json_parts.specs.Mark.{without_mark}
use Rattle.sarif_model.specs.Members.{◌>>=◌, text_at, member_at}
use Rattle.sarif_model.specs.declared.fault.Fault.TheVariants.{BadEntry, NotJson}
use Rattle.sarif_entries.specs.declared.entry.Entry.{Entry}
use Rattle.sarif_entries.specs.declared.fault.FileFault.{FileFault}
use Rattle.sarif_entries.specs.declared.limit.Limit.{Limit}
use Rattle.sarif_entries.specs.declared.version.Version.{Version}
use Rattle.sarif_entries.specs.FileFault.{in_entry, whole}
use Rattle.sarif_entries.specs.Entries.{check_condition, check_members, check_today, conditions_of, day_at, entry_of, greatest_max, is_within, limit_at, limit_of_member, limit_or, members_of, status_at}
use Rattle.sarif_entries.specs.File.{File, check_count, check_list, check_version, entries_from, file_of, file_of_value}

bind_ok : {A B E : Type 0} (m : Result A E) (f : A → Result B E) (y : B) → (m >>= f) ≡ Ok y → (x : A) × (m ≡ Ok x) × (f x ≡ Ok y)
bind_ok (Ok x) f y is = (x, refl, is)
bind_ok (Err e) f y is = let never : ⊥ = cc in absurd never

ok_is : {A E : Type 0} (x y : A) → ◌≡◌ {A = Result A E} (Ok x) (Ok y) → x ≡ y
ok_is x y is = cc

-- the number of the entry, and at least one result
abbrev pub IsOf : ℕ → Limit → Type 0
IsOf n limit = (limit.number ≡ n) × (1 ≤ limit.most)

abbrev limit_by : ℕ → ℕ → Limit
limit_by most n = record { most = most; number = n }

or_of : (wrong : FileFault) (n : ℕ) (o : Option ℕ) (limit : Limit) → limit_or wrong n o ≡ Ok (Some limit) → IsOf n limit
or_of wrong n None limit is = let never : ⊥ = cc in absurd never
or_of wrong n (Some most) limit is = by_test (is_within 1 greatest_max most) refl is
  where
    by_test : (b : Bool) → is_within 1 greatest_max most ≡ b → (if b then Ok (Some (limit_by most n)) else Err wrong) ≡ Ok (Some limit) → IsOf n limit
    by_test true within same =
        let there : limit_by most n ≡ limit = same_Some (limit_by most n) limit (ok_is (Some (limit_by most n)) (Some limit) same) in
        let least : nat_le 1 most ≡ true = (and_parts (nat_le 1 most) _ within).0 in
        let some : 1 ≤ most = grind (arith, nat_tests) in
        (ap (λ (l : Limit). l.number) (sym there), subst (λ (l : Limit). 1 ≤ l.most) there some)
    by_test false within same = let never : ⊥ = cc in absurd never

member_of : (wrong : FileFault) (n : ℕ) (o : Option Data) (limit : Limit) → limit_of_member wrong n o ≡ Ok (Some limit) → IsOf n limit
member_of wrong n None limit is = let never : ⊥ = cc in absurd never
member_of wrong n (Some d) limit is = or_of wrong n (option_and_then as_u64 (as_number d)) limit is

members_limit : (wrong : FileFault) (n : ℕ) (d : Data) (e : Entry) → members_of wrong n d ≡ Ok e → limit_at wrong n (codes "max") d ≡ Ok e.limit
unfolding members_of
members_limit wrong n d e is =
    let conditions = bind_ok (conditions_of wrong d) _ e is in
    let expires = bind_ok (day_at wrong (codes "expires") d) _ e conditions.2 in
    let status = bind_ok (status_at wrong (codes "status") d) _ e expires.2 in
    let justification = bind_ok (text_at wrong (codes "justification") d) _ e status.2 in
    let limit = bind_ok (limit_at wrong n (codes "max") d) _ e justification.2 in
    let made = ok_is _ e limit.2 in
    limit.1 ∙ ap Ok (ap (λ (x : Entry). x.limit) made)

entry_limit : (version : Version) (today : Option ℕ) (n : ℕ) (d : Data) (e : Entry) (limit : Limit) → entry_of version today n d ≡ Ok e
    → e.limit ≡ Some limit → IsOf n limit
unfolding entry_of
entry_limit version today n d e limit is has =
    let known = bind_ok (check_members version (in_entry n BadEntry) d) _ e is in
    let read = bind_ok (members_of (in_entry n BadEntry) n d) _ e known.2 in
    let named = bind_ok (check_condition n read.0) _ e read.2 in
    let dated = bind_ok (check_today n today read.0) _ e named.2 in
    let same : read.0 ≡ e = ok_is read.0 e dated.2 in
    let there : members_of (in_entry n BadEntry) n d ≡ Ok e = read.1 ∙ ap Ok same in
    member_of (in_entry n BadEntry) n (member_at (codes "max") d) limit (members_limit (in_entry n BadEntry) n d e there ∙ ap Ok has)

entries_limit : (version : Version) (today : Option ℕ) (s k : ℕ) (ds : List Data) (es : List Entry) (e : Entry) (limit : Limit)
    → entries_from version today s ds ≡ Ok es → slice_get es k ≡ Some e → e.limit ≡ Some limit → IsOf (s + k) limit
unfolding entries_from
entries_limit version today s k [] es e limit is at has =
    let none : [] ≡ es = ok_is [] es is in
    let never : ⊥ = let no : slice_get [] k ≡ Some e = ap (λ xs. slice_get xs k) none ∙ at in cc in
    absurd never
entries_limit version today s k (d ∷ ds) es e limit is at has =
    let first = bind_ok (entry_of version today s d) _ es is in
    let rest = bind_ok (entries_from version today (s + 1) ds) _ es first.2 in
    let all : first.0 ∷ rest.0 ≡ es = ok_is (first.0 ∷ rest.0) es rest.2 in
    by_number first.0 rest.0 k (ap (λ xs. slice_get xs k) all ∙ at) first.1
    (λ m there. entries_limit version today (s + 1) m ds rest.0 e limit rest.1 there has)
  where
    by_number : (x : Entry) (xs : List Entry) (k : ℕ) → slice_get (x ∷ xs) k ≡ Some e → entry_of version today s d ≡ Ok x
        → ((m : ℕ) → slice_get xs m ≡ Some e → IsOf ((s + 1) + m) limit) → IsOf (s + k) limit
    by_number x xs zero there one later =
        let same : x ≡ e = same_Some x e there in
        let here : s ≡ s + 0 = omega arith in
        subst (λ n. IsOf n limit) here (entry_limit version today s d e limit (one ∙ ap Ok same) has)
    by_number x xs (suc m) there one later =
        let next : (s + 1) + m ≡ s + suc m = omega arith in
        subst (λ n. IsOf n limit) next (later m there)

pub numbered : (bytes : List ℕ) (today : Option ℕ) (file : File) (n : ℕ) (e : Entry) (limit : Limit) → file_of bytes today ≡ Ok file
    → slice_get file.entries n ≡ Some e → e.limit ≡ Some limit → (limit.number ≡ n) × (1 ≤ limit.most)
unfolding file_of file_of_value
numbered bytes today file n e limit is at has =
    let value = bind_ok (ok_or (json_of (without_mark bytes)) (whole NotJson)) _ file is in
    let list = bind_ok (check_list value.0) _ file value.2 in
    let version = bind_ok (check_version value.0) _ file list.2 in
    let few = bind_ok (check_count list.0) _ file version.2 in
    let entries = bind_ok (entries_from version.0 today 0 list.0) _ file few.2 in
    let made = ok_is _ file entries.2 in
    let here : 0 + n ≡ n = omega arith in
    subst (λ k. IsOf k limit) here
    (entries_limit version.0 today 0 n list.0 entries.0 e limit entries.1 (ap (λ (f : File). slice_get f.entries n) made ∙ at) has)
