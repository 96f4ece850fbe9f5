-- What follows what several keys begin with.
use Rattle.std.proofs.Common.{◌≡◌, ◌≤◌, ◌<◌, ◌+◌, ℕ, zero, suc, Bool, true, false, ◌&&◌, List, [], ◌∷◌, ◌++◌, length, get_or, Option, refl, sym, ◌∙◌, arith, min, max}
use Rattle.std.proofs.lemmas.Bool.{and_parts}
use Rattle.std.proofs.lemmas.Bool.Decides.{nat_tests}
use Rattle.std.proofs.lemmas.List.Folds.{list_all-append}
use Rattle.std.specs.Prelude.{◌==◌}
use Rattle.std.specs.List.{list_any, list_all}
use Rattle.sarif_diff.specs.declared.section.Span.{Span}
use Rattle.sarif_change.specs.Internal.Keys.{opens, alike}
use Rattle.sarif_change.specs.Internal.Files.{found_at}
use Rattle.sarif_change.specs.Internal.NextBytes.{next_at, is_next, leaves_out}
use Rattle.sarif_change.specs.Internal.Trees.{IsShared}
use Rattle.sarif_change.specs.declared.file.ChangedFile.{ChangedFile}
use Rattle.sarif_change.specs.declared.file.SharedPart.{SharedPart}
use Rattle.sarif_change.specs.declared.next.NextBytes.{NextBytes}
use Rattle.sarif_change.proofs.KeysMore.{alike_is, meet}
use Rattle.sarif_change.proofs.TreeMore.{found_in_none}

pub byte_there : (key : List ℕ) (n byte next : ℕ) → n < length key → byte ≡ get_or key n byte → next ≡ byte → next + 1 ≡ next_at n key
byte_there [] n byte next within is same = absurd (omega (arith, within))
byte_there (x ∷ xs) zero byte next within is same = grind arith
byte_there (x ∷ xs) (suc n) byte next within is same = byte_there xs n byte next (omega (arith, within)) is same

pub at_end : (key : List ℕ) (n : ℕ) → length key ≤ n → 0 ≡ next_at n key
at_end [] n past = refl
at_end (x ∷ xs) zero past = absurd (omega (arith, past))
at_end (x ∷ xs) (suc n) past = at_end xs n (omega (arith, past))

pub own_next : (next : NextBytes) (n : ℕ) (key : List ℕ) → next.least ≡ next_at n key → next.most ≡ next_at n key → is_next next n key ≡ true
own_next next n key l m = grind (arith, nat_tests)

-- ---- several keys

pub first_next : (first second both : NextBytes) (n : ℕ) (key : List ℕ)
    → both.least ≡ min first.least second.least → both.most ≡ max first.most second.most
    → is_next first n key ≡ true → is_next both n key ≡ true
first_next first second both n key l m h = grind (arith, nat_tests)

pub second_next : (first second both : NextBytes) (n : ℕ) (key : List ℕ)
    → both.least ≡ min first.least second.least → both.most ≡ max first.most second.most
    → is_next second n key ≡ true → is_next both n key ≡ true
second_next first second both n key l m h = grind (arith, nat_tests)

pub one_next : (next : NextBytes) (n : ℕ) (file : ChangedFile) → is_next next n file.key.items ≡ true
    → list_all (λ (f : ChangedFile). is_next next n f.key.items) (file ∷ []) ≡ true
one_next next n file h = rw h refl

each_next : (files : List ChangedFile) (one both : NextBytes) (n : ℕ)
    → ((at : ℕ) (key : List ℕ) → is_next one at key ≡ true → is_next both at key ≡ true)
    → list_all (λ file. is_next one n file.key.items) files ≡ true → list_all (λ file. is_next both n file.key.items) files ≡ true
each_next [] one both n wider h = refl
each_next (file ∷ files) one both n wider h =
    let parts = and_parts _ _ h in
    rw (wider n file.key.items parts.0) (each_next files one both n wider parts.1)

pub all_next : (left right : List ChangedFile) (first second both : NextBytes) (n : ℕ)
    → list_all (λ file. is_next first n file.key.items) left ≡ true → list_all (λ file. is_next second n file.key.items) right ≡ true
    → ((at : ℕ) (key : List ℕ) → is_next first at key ≡ true → is_next both at key ≡ true)
    → ((at : ℕ) (key : List ℕ) → is_next second at key ≡ true → is_next both at key ≡ true)
    → list_all (λ file. is_next both n file.key.items) (left ++ right) ≡ true
all_next left right first second both n h i f s =
    list_all-append _ left right ∙ rw (each_next left first both n f h) (each_next right second both n s i)

-- ---- keys that go on with other bytes

no_more : (a b : Bool) → b ≡ false → (a && b) ≡ false
no_more true b h = h
no_more false b h = refl

goes_on_else : (beginning key other : List ℕ) → opens key beginning ≡ true → opens other beginning ≡ true
    → 0 < next_at (length beginning) key → 0 < next_at (length beginning) other
    → (next_at (length beginning) key == next_at (length beginning) other) ≡ false
    → meet key other ≡ false
goes_on_else [] [] other h i k o d = absurd (omega (arith, k))
goes_on_else [] (x ∷ key) [] h i k o d = absurd (omega (arith, o))
goes_on_else [] (x ∷ key) (y ∷ other) h i k o d =
    let no : (x == y) ≡ false = grind (arith, nat_tests) in
    rw no refl
goes_on_else (b ∷ beginning) [] other h i k o d = grind arith
goes_on_else (b ∷ beginning) (x ∷ key) [] h i k o d = grind arith
goes_on_else (b ∷ beginning) (x ∷ key) (y ∷ other) h i k o d =
    let first = and_parts _ _ h in
    let second = and_parts _ _ i in
    no_more (x == y) (meet key other) (goes_on_else beginning key other first.1 second.1 k o d)

left_out : (next : NextBytes) (n byte : ℕ) (key : List ℕ) → is_next next n key ≡ true → leaves_out next byte ≡ true
    → (0 < next_at n key) × ((next_at n key == byte) ≡ false)
left_out next n byte key h out = (grind (arith, nat_tests), grind (arith, nat_tests))

none_else : (files : List ChangedFile) (next : NextBytes) (beginning key : List ℕ) (lines : Option Span)
    → list_all (λ file. opens file.key.items beginning) files ≡ true
    → list_all (λ file. is_next next (length beginning) file.key.items) files ≡ true
    → opens key beginning ≡ true → 0 < next_at (length beginning) key → leaves_out next (next_at (length beginning) key) ≡ true
    → list_any (found_at key lines) files ≡ false
none_else [] next beginning key lines h i o more out = refl
none_else (file ∷ files) next beginning key lines h i o more out =
    let opened = and_parts _ _ h in
    let goes = and_parts _ _ i in
    let other = left_out next (length beginning) (next_at (length beginning) key) file.key.items goes.0 out in
    let no : alike file.key.items key ≡ false =
    alike_is file.key.items key ∙ goes_on_else beginning file.key.items key opened.0 o other.0 more other.1 in
    rw no (none_else files next beginning key lines opened.1 goes.1 o more out)

pub none_goes_on : (shared : SharedPart) (key : List ℕ) (next : ℕ) → opens key shared.beginning.items ≡ true
    → next ≡ next_at (length shared.beginning.items) key → 0 < next → leaves_out shared.next next ≡ true
    → (files : List ChangedFile) → IsShared shared files → (lines : Option Span) → list_any (found_at key lines) files ≡ false
none_goes_on shared key next o is more out files right lines =
    none_else files shared.next shared.beginning.items key lines right.beginning right.next o (rw (sym is) more) (rw (sym is) out)

pub none_begins : (shared : SharedPart) (key : List ℕ) → opens key shared.beginning.items ≡ false
    → opens shared.beginning.items key ≡ false
    → (files : List ChangedFile) → IsShared shared files → (lines : Option Span) → list_any (found_at key lines) files ≡ false
none_begins shared key o p files right lines =
    let none : alike shared.beginning.items key ≡ false = rw (o, p) refl in
    found_in_none files shared.beginning.items key lines right.beginning none
