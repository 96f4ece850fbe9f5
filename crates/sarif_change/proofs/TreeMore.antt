-- The files of a tree.
use Rattle.std.proofs.Common.{◌≡◌, ℕ, Bool, true, false, ◌||◌, List, [], ◌∷◌, ◌++◌, refl, sym, ap, ◌∙◌, Option}
use Rattle.std.proofs.lemmas.Bool.{and_parts}
use Rattle.std.specs.List.{list_any, list_all}
use Rattle.std.proofs.lemmas.List.Folds.{list_any-append, list_all-append}
use Rattle.sarif_diff.specs.declared.section.Span.{Span}
use Rattle.sarif_change.specs.Internal.Keys.{opens, alike}
use Rattle.sarif_change.specs.Internal.Files.{changed_at, found_at}
use Rattle.sarif_change.specs.declared.file.ChangedFile.{ChangedFile}
use Rattle.sarif_change.proofs.KeysMore.{opens_self, opens_twice, opens_alike, differs}

pub any_in_both : (test : ChangedFile → Bool) (left right : List ChangedFile) → (list_any test left || list_any test right) ≡ list_any test (left ++ right)
any_in_both test left right = sym (list_any-append test left right)

pub one_opens : (file : ChangedFile) → list_all (λ (f : ChangedFile). opens f.key.items file.key.items) (file ∷ []) ≡ true
one_opens file = rw (opens_self file.key.items) refl

-- keys that begin with a key also begin with what it begins with
open_twice : (files : List ChangedFile) (first second : List ℕ) → list_all (λ file. opens file.key.items first) files ≡ true → opens first second ≡ true
    → list_all (λ file. opens file.key.items second) files ≡ true
open_twice [] first second h o = refl
open_twice (file ∷ files) first second h o =
    let both = and_parts _ _ h in
    rw (opens_twice file.key.items first second both.0 o) (open_twice files first second both.1 o)

pub all_open : (left right : List ChangedFile) (first second beginning : List ℕ)
    → list_all (λ file. opens file.key.items first) left ≡ true → list_all (λ file. opens file.key.items second) right ≡ true
    → opens first beginning ≡ true → opens second beginning ≡ true
    → list_all (λ file. opens file.key.items beginning) (left ++ right) ≡ true
all_open left right first second beginning h i o p =
    list_all-append _ left right ∙ rw (open_twice left first beginning h o) (open_twice right second beginning i p)

pub found_in_all : (files : List ChangedFile) (beginning key : List ℕ) (lines : Option Span)
    → list_all (λ file. opens file.key.items beginning) files ≡ true → opens beginning key ≡ true
    → list_any (found_at key lines) files ≡ list_any (λ file. changed_at lines file.changed) files
found_in_all [] beginning key lines h o = refl
found_in_all (file ∷ files) beginning key lines h o =
    let both = and_parts _ _ h in
    let is : alike file.key.items key ≡ true = opens_alike file.key.items key (opens_twice file.key.items beginning key both.0 o) in
    rw is (ap (λ b. changed_at lines file.changed || b) (found_in_all files beginning key lines both.1 o))

pub found_in_none : (files : List ChangedFile) (beginning key : List ℕ) (lines : Option Span)
    → list_all (λ file. opens file.key.items beginning) files ≡ true → alike beginning key ≡ false
    → list_any (found_at key lines) files ≡ false
found_in_none [] beginning key lines h o = refl
found_in_none (file ∷ files) beginning key lines h o =
    let both = and_parts _ _ h in
    rw (differs file.key.items beginning key both.0 o) (found_in_none files beginning key lines both.1 o)
