-- The files of sections.
use Rattle.std.proofs.Common.{◌≡◌, ℕ, Bool, true, false, ◌&&◌, ◌||◌, List, [], ◌∷◌, ◌++◌, ◌<◌, length, take, Option, Some, None, refl, sym, ap, ◌∙◌, arith}
use Rattle.std.specs.Prelude.{bytes_eq, IfNone, IfSome}
use Rattle.std.specs.List.Sorted.{IsPermutation}
use Rattle.std.proofs.lemmas.List.Sorted.{list_any-IsPermutation}
use Rattle.std.specs.List.{list_any, list_all}
use Rattle.std.proofs.lemmas.List.Folds.{list_any-append}
use Rattle.std.proofs.lemmas.List.{length-append}
use Rattle.sarif_diff.specs.declared.section.Section.{Section}
use Rattle.sarif_diff.specs.declared.section.Span.{Span}
use Rattle.sarif_change.specs.Meeting.{changes, has_last}
use Rattle.sarif_change.specs.Parts.{parts_of, end_alike}
use Rattle.sarif_change.specs.Internal.Files.{changed_at, found_at}
use Rattle.sarif_change.specs.Internal.Index.{HaveFiles, HaveLinks, is_ending, is_link_named, tree_files}
use Rattle.sarif_change.specs.Internal.Keys.{joined, alike, has_no_slash}
use Rattle.sarif_change.specs.declared.file.ChangedFile.{ChangedFile}
use Rattle.sarif_change.proofs.JoinedMore.{parts_alike, parts_clean}

pub changes_is : (s : Section) (lines : Option Span) → changed_at lines (s.whole, s.spans) ≡ changes lines s
changes_is s None = refl
changes_is s (Some l) = refl

or_none : (a : Bool) → (a || false) ≡ a
or_none true = refl
or_none false = refl

any_with : {X : Type 0} (test : X → Bool) (xs : List X) (x : X) → list_any test (xs ++ x ∷ []) ≡ (list_any test xs || test x)
any_with test xs x = list_any-append test xs (x ∷ []) ∙ ap (λ b. list_any test xs || b) (or_none (test x))

or_both : (a b c d : Bool) → a ≡ b → c ≡ d → (a || c) ≡ (b || d)
or_both a b c d h i = rw (h, i) refl

and_both : (a b c d : Bool) → a ≡ b → c ≡ d → (a && c) ≡ (b && d)
and_both a b c d h i = rw (h, i) refl

same_file : (file : ChangedFile) (s : Section) (parts : List (List ℕ)) (lines : Option Span)
    → file.key.items ≡ joined (parts_of s.name) → ((lines : Option Span) → changed_at lines file.changed ≡ changes lines s)
    → list_all has_no_slash parts ≡ true → found_at (joined parts) lines file ≡ is_ending parts lines s
same_file file s parts lines key changed clean =
    and_both (alike file.key.items (joined parts)) (end_alike (parts_of s.name) parts) (changed_at lines file.changed) (changes lines s)
    (ap (λ k. alike k (joined parts)) key ∙ parts_alike (parts_of s.name) parts (parts_clean s.name) clean) (changed lines)

pub file_added : (files : List ChangedFile) (file : ChangedFile) (s : Section) (sections : List Section)
    → file.key.items ≡ joined (parts_of s.name) → ((lines : Option Span) → changed_at lines file.changed ≡ changes lines s)
    → HaveFiles files sections → HaveFiles (files ++ file ∷ []) (sections ++ s ∷ [])
file_added files file s sections key changed have parts lines clean =
    any_with (found_at (joined parts) lines) files file
    ∙ (or_both _ (list_any (is_ending parts lines) sections) (found_at (joined parts) lines file) (is_ending parts lines s) (have parts lines clean)
    (same_file file s parts lines key changed clean)
    ∙ sym (any_with (is_ending parts lines) sections s))

-- ---- links

and_true : (a : Bool) → (a && true) ≡ a
and_true true = refl
and_true false = refl

one_clean : (part : List ℕ) → has_no_slash part ≡ true → list_all has_no_slash (part ∷ []) ≡ true
one_clean part clean = and_true (has_no_slash part) ∙ clean

first_of : (a b : Bool) → (a && b) ≡ true → a ≡ true
first_of true b h = refl
first_of false b h = grind arith

first_clean : (p : List ℕ) (ps : List (List ℕ)) → list_all has_no_slash (p ∷ ps) ≡ true → list_all has_no_slash (p ∷ []) ≡ true
first_clean p ps h = one_clean p (first_of (has_no_slash p) (list_all has_no_slash ps) h)

named : (link : Bool) (part p : List ℕ) (ps parts : List (List ℕ)) → link ≡ true → parts ≡ p ∷ ps → bytes_eq p part ≡ (link && has_last part parts)
named link part p ps parts h is = rw (h, is) refl

same_link : (file : ChangedFile) (s : Section) (part : List ℕ) (lines : Option Span) (p : List ℕ) (ps : List (List ℕ))
    → parts_of s.name ≡ p ∷ ps → file.key.items ≡ joined (p ∷ []) → ((lines : Option Span) → changed_at lines file.changed ≡ changes lines s)
    → s.link ≡ true → has_no_slash part ≡ true → found_at (part ++ 47 ∷ []) lines file ≡ is_link_named part lines s
same_link file s part lines p ps is key changed link clean =
    let whole : list_all has_no_slash (p ∷ ps) ≡ true = ap (λ xs. list_all has_no_slash xs) (sym is) ∙ parts_clean s.name in
    and_both (alike file.key.items (part ++ 47 ∷ [])) (s.link && has_last part (parts_of s.name)) (changed_at lines file.changed) (changes lines s)
    (ap (λ k. alike k (part ++ 47 ∷ [])) key
    ∙ (parts_alike (p ∷ []) (part ∷ []) (first_clean p ps whole) (one_clean part clean)
    ∙ (and_true (bytes_eq p part) ∙ named s.link part p ps (parts_of s.name) link is)))
    (changed lines)

link_found : (file : ChangedFile) (s : Section) (part : List ℕ) (lines : Option Span) (parts : List (List ℕ))
    → parts_of s.name ≡ parts → 0 < length (joined parts) → file.key.items ≡ joined (take 1 parts)
    → ((lines : Option Span) → changed_at lines file.changed ≡ changes lines s)
    → s.link ≡ true → has_no_slash part ≡ true → found_at (part ++ 47 ∷ []) lines file ≡ is_link_named part lines s
link_found file s part lines [] is some key changed link clean = absurd (omega arith)
link_found file s part lines (p ∷ ps) is some key changed link clean = same_link file s part lines p ps is key changed link clean

pub link_added : (links : List ChangedFile) (file : ChangedFile) (s : Section) (sections : List Section) (key : List ℕ)
    → key ≡ joined (parts_of s.name) → 0 < length key → file.key.items ≡ joined (take 1 (parts_of s.name))
    → ((lines : Option Span) → changed_at lines file.changed ≡ changes lines s) → s.link ≡ true
    → HaveLinks links sections → HaveLinks (links ++ file ∷ []) (sections ++ s ∷ [])
link_added links file s sections key is some first changed link have part lines clean =
    let more : 0 < length (joined (parts_of s.name)) = omega (arith, some, ap (λ (xs : List ℕ). length xs) is) in
    any_with (found_at (part ++ 47 ∷ []) lines) links file
    ∙ (or_both (list_any (found_at (part ++ 47 ∷ []) lines) links) (list_any (is_link_named part lines) sections)
    (found_at (part ++ 47 ∷ []) lines file) (is_link_named part lines s)
    (have part lines clean) (link_found file s part lines (parts_of s.name) refl more first changed link clean)
    ∙ sym (any_with (is_link_named part lines) sections s))

passed : (links : List ChangedFile) (s : Section) (sections : List Section) (part : List ℕ) (lines : Option Span)
    → is_link_named part lines s ≡ false → list_any (found_at (part ++ 47 ∷ []) lines) links ≡ list_any (is_link_named part lines) sections
    → list_any (found_at (part ++ 47 ∷ []) lines) links ≡ list_any (is_link_named part lines) (sections ++ s ∷ [])
passed links s sections part lines fails have =
    have ∙ (sym (or_none (list_any (is_link_named part lines) sections))
    ∙ (ap (λ b. list_any (is_link_named part lines) sections || b) (sym fails) ∙ sym (any_with (is_link_named part lines) sections s)))

none_joined : (parts : List (List ℕ)) → length (joined parts) ≡ 0 → parts ≡ []
none_joined [] h = refl
none_joined (p ∷ ps) h = absurd (omega (arith, h, length-append p (47 ∷ joined ps)))

not_named : (link last change : Bool) → last ≡ false → ((link && last) && change) ≡ false
not_named true last change h = rw h refl
not_named false last change h = refl

pub no_parts : (links : List ChangedFile) (s : Section) (sections : List Section) (key : List ℕ)
    → key ≡ joined (parts_of s.name) → length key ≡ 0 → HaveLinks links sections → HaveLinks links (sections ++ s ∷ [])
no_parts links s sections key is none have part lines clean =
    let empty : parts_of s.name ≡ [] = none_joined (parts_of s.name) (ap (λ (xs : List ℕ). length xs) (sym is) ∙ none) in
    let not_last : has_last part (parts_of s.name) ≡ false = ap (λ ps. has_last part ps) empty in
    passed links s sections part lines (not_named s.link (has_last part (parts_of s.name)) (changes lines s) not_last) (have part lines clean)

pub no_link : (links : List ChangedFile) (s : Section) (sections : List Section) → s.link ≡ false
    → HaveLinks links sections → HaveLinks links (sections ++ s ∷ [])
no_link links s sections link have part lines clean =
    passed links s sections part lines (ap (λ l. (l && has_last part (parts_of s.name)) && changes lines s) link) (have part lines clean)

-- ---- the files of a tree

pub tree_any : (tree : Option (List ChangedFile)) (sorted given : List ChangedFile) → IfNone tree (sorted ≡ [])
    → IfSome tree (λ files. files ≡ sorted) → IsPermutation given sorted
    → (key : List ℕ) (lines : Option Span) → list_any (found_at key lines) (tree_files tree) ≡ list_any (found_at key lines) given
tree_any None sorted given none some same key lines = ap (λ files. list_any (found_at key lines) files) (sym none)
    ∙ sym (list_any-IsPermutation (found_at key lines) given sorted same)
tree_any (Some files) sorted given none some same key lines = ap (λ files. list_any (found_at key lines) files) some
    ∙ sym (list_any-IsPermutation (found_at key lines) given sorted same)
