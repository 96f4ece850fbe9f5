-- What is found of a URI is what the definitions say.
use Rattle.std.proofs.Common.{◌≡◌, ℕ, Bool, true, false, not, ◌&&◌, ◌||◌, List, [], ◌∷◌, Option, refl, sym, ap, ◌∙◌}
use Rattle.std.specs.Prelude.{bytes_eq}
use Rattle.std.specs.List.{list_any}
use Rattle.sarif_diff.specs.declared.section.Section.{Section}
use Rattle.sarif_diff.specs.declared.section.Span.{Span}
use Rattle.sarif_change.specs.Meeting.{changes, has_last, last_alike, has_no_parts, path_may_be, may_be, meets}
use Rattle.sarif_change.specs.Parts.{parts_of, end_alike}
use Rattle.sarif_change.specs.Uri.{Path, paths_of}
use Rattle.sarif_change.specs.Internal.Index.{is_ending, is_link_named, sought_parts, is_found}

-- ---- whether an element passes one of two tests

or_four : (a b c d : Bool) → ((a || c) || (b || d)) ≡ ((a || b) || (c || d))
or_four true b c d = refl
or_four false true true d = refl
or_four false true false d = refl
or_four false false c d = refl

any_either : {X : Type 0} (f g : X → Bool) (xs : List X) → (list_any f xs || list_any g xs) ≡ list_any (λ x. f x || g x) xs
any_either f g [] = refl
any_either f g (x ∷ xs) = or_four (f x) (g x) (list_any f xs) (list_any g xs) ∙ ap (λ b. (f x || g x) || b) (any_either f g xs)

any_same : {X : Type 0} (f g : X → Bool) (xs : List X) → ((x : X) → f x ≡ g x) → list_any f xs ≡ list_any g xs
any_same f g [] h = refl
any_same f g (x ∷ xs) h = rw (h x, any_same f g xs h) refl

any_no : {X : Type 0} (xs : List X) → list_any (λ x. false) xs ≡ false
any_no [] = refl
any_no (x ∷ xs) = any_no xs

-- the order of two such questions doesn't matter
any_any : {X Y : Type 0} (f : X → Y → Bool) (xs : List X) (ys : List Y) → list_any (λ x. list_any (f x) ys) xs ≡ list_any (λ y. list_any (λ x. f x y) xs) ys
any_any f [] ys = sym (any_no ys)
any_any f (x ∷ xs) ys = ap (λ b. list_any (f x) ys || b) (any_any f xs ys) ∙ any_either (f x) (λ y. list_any (λ z. f z y) xs) ys

or_and : (a b c : Bool) → ((a && c) || (b && c)) ≡ ((a || b) && c)
or_and true true true = refl
or_and true true false = refl
or_and true false true = refl
or_and true false false = refl
or_and false b c = refl

any_and : {X : Type 0} (f : X → Bool) (c : Bool) (xs : List X) → list_any (λ x. f x && c) xs ≡ (list_any f xs && c)
any_and f c [] = refl
any_and f c (x ∷ xs) = ap (λ b. (f x && c) || b) (any_and f c xs) ∙ or_and (f x) (list_any f xs) c

and_any : {X : Type 0} (l : Bool) (f : X → Bool) (xs : List X) → list_any (λ x. l && f x) xs ≡ (l && list_any f xs)
and_any true f xs = refl
and_any false f xs = any_no xs

-- ---- a path

end_none : (parts : List (List ℕ)) → end_alike parts [] ≡ true
end_none [] = refl
end_none (p ∷ ps) = refl

and_true : (a : Bool) → (a && true) ≡ a
and_true true = refl
and_true false = refl

or_none : (a : Bool) → (a || false) ≡ a
or_none true = refl
or_none false = refl

ends : (absolute : Bool) (file parts : List (List ℕ)) → end_alike file (sought_parts (absolute, parts))
    ≡ (has_no_parts parts || (has_no_parts file || ((not absolute && end_alike file parts) || (absolute && last_alike parts file))))
ends true file [] = end_none file
ends false file [] = end_none file
ends true [] (p ∷ ps) = refl
ends false [] (p ∷ ps) = refl
ends true (f ∷ fs) (p ∷ ps) = ap (λ b. bytes_eq f p && b) (end_none fs) ∙ and_true (bytes_eq f p)
ends false (f ∷ fs) (p ∷ ps) = sym (or_none (end_alike (f ∷ fs) (p ∷ ps)))

links_any : (sections : List Section) (lines : Option Span) (parts : List (List ℕ))
    → list_any (λ part. list_any (is_link_named part lines) sections) parts
    ≡ list_any (λ (s : Section). (s.link && list_any (λ part. has_last part (parts_of s.name)) parts) && changes lines s) sections
links_any sections lines parts =
    any_any (λ part s. is_link_named part lines s) parts sections
    ∙ any_same (λ (s : Section). list_any (λ part. is_link_named part lines s) parts)
    (λ (s : Section). (s.link && list_any (λ part. has_last part (parts_of s.name)) parts) && changes lines s) sections
    (λ s. any_and (λ part. s.link && has_last part (parts_of s.name)) (changes lines s) parts
    ∙ ap (λ b. b && changes lines s) (and_any s.link (λ part. has_last part (parts_of s.name)) parts))

or_last : (a b c d e : Bool) → ((a || (b || (c || d))) || e) ≡ (a || b || c || d || e)
or_last true b c d e = refl
or_last false true c d e = refl
or_last false false true d e = refl
or_last false false false d e = refl

may_parts : (link absolute : Bool) (file parts : List (List ℕ)) →
    (end_alike file (sought_parts (absolute, parts)) || (link && list_any (λ part. has_last part file) parts)) ≡ path_may_be link file (absolute, parts)
may_parts link absolute file parts = ap (λ b. b || (link && list_any (λ part. has_last part file) parts)) (ends absolute file parts)
    ∙ or_last (has_no_parts parts) (has_no_parts file) (not absolute && end_alike file parts) (absolute && last_alike parts file)
    (link && list_any (λ part. has_last part file) parts)

found_is : (sections : List Section) (lines : Option Span) (path : Path)
    → is_found sections lines path ≡ list_any (λ (s : Section). path_may_be s.link (parts_of s.name) path && changes lines s) sections
found_is sections lines path =
    ap (λ b. list_any (is_ending (sought_parts path) lines) sections || b) (links_any sections lines path.1)
    ∙ (any_either (is_ending (sought_parts path) lines)
    (λ (s : Section). (s.link && list_any (λ part. has_last part (parts_of s.name)) path.1) && changes lines s) sections
    ∙ any_same
    (λ (s : Section). is_ending (sought_parts path) lines s
    || ((s.link && list_any (λ part. has_last part (parts_of s.name)) path.1) && changes lines s))
    (λ (s : Section). path_may_be s.link (parts_of s.name) path && changes lines s) sections
    (λ s. or_and (end_alike (parts_of s.name) (sought_parts path)) (s.link && list_any (λ part. has_last part (parts_of s.name)) path.1) (changes lines s)
    ∙ ap (λ b. b && changes lines s) (may_parts s.link path.0 (parts_of s.name) path.1)))

pub all_found : (sections : List Section) (roots : List (List ℕ)) (uri : List ℕ) (lines : Option Span)
    → list_any (is_found sections lines) (paths_of roots uri) ≡ meets sections roots uri lines
all_found sections roots uri lines =
    any_same (is_found sections lines)
    (λ path. list_any (λ (s : Section). path_may_be s.link (parts_of s.name) path && changes lines s) sections) (paths_of roots uri)
    (found_is sections lines)
    ∙ (any_any (λ path (s : Section). path_may_be s.link (parts_of s.name) path && changes lines s) (paths_of roots uri) sections
    ∙ any_same (λ (s : Section). list_any (λ path. path_may_be s.link (parts_of s.name) path && changes lines s) (paths_of roots uri))
    (λ s. may_be roots uri s && changes lines s) sections
    (λ s. any_and (path_may_be s.link (parts_of s.name)) (changes lines s) (paths_of roots uri)))
