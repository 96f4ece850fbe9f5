-- The paths that a URI may represent.
use Rattle.std.proofs.Common.{◌≡◌, ◌<◌, ℕ, Bool, true, List, [], ◌∷◌, ◌++◌, length, map, drop, get_or, refl, sym, ap, ◌∙◌, arith}
use Rattle.std.specs.List.{list_all}
use Rattle.sarif_change.specs.Internal.Keys.{has_no_slash}
use Rattle.sarif_change.specs.declared.uri.SoughtPath.{SoughtPath}
use Rattle.sarif_change.proofs.JoinedMore.{parts_clean}
use Rattle.std.proofs.lemmas.List.{append-nil, append_assoc}
use Rattle.sarif_change.specs.Uri.{Path, relative_path, own_path, chosen_paths, after_roots, readings_of, paths_of}
use Rattle.sarif_change.specs.Internal.Sought.{seen, keyed, rooted_keys}

rooted_both : (xs ys : List (List ℕ)) → rooted_keys (xs ++ ys) ≡ rooted_keys xs ++ rooted_keys ys
rooted_both [] ys = refl
rooted_both (x ∷ xs) ys = ap (λ ps. keyed (relative_path x) ∷ ps) (rooted_both xs ys)

pub four_rooted : (a b c d : List (List ℕ)) (first second third fourth : List (Bool × List ℕ))
    → first ≡ [] ++ rooted_keys a → second ≡ first ++ rooted_keys b → third ≡ second ++ rooted_keys c → fourth ≡ third ++ rooted_keys d
    → fourth ≡ rooted_keys (a ++ (b ++ (c ++ (d ++ []))))
four_rooted a b c d first second third fourth f g h i =
    let all : rooted_keys (a ++ (b ++ (c ++ (d ++ [])))) ≡ rooted_keys a ++ (rooted_keys b ++ (rooted_keys c ++ (rooted_keys d ++ []))) =
    rooted_both a (b ++ (c ++ (d ++ [])))
    ∙ ap (λ ps. rooted_keys a ++ ps)
    (rooted_both b (c ++ (d ++ []))
    ∙ ap (λ ps. rooted_keys b ++ ps) (rooted_both c (d ++ []) ∙ ap (λ ps. rooted_keys c ++ ps) (rooted_both d [])))
    in
    rw (i, h, g, f, all, append-nil, append_assoc, append_assoc) refl

none_rooted : (rests : List (List ℕ)) (made : List (Bool × List ℕ)) → made ≡ rooted_keys rests → length made ≡ 0 → rests ≡ []
none_rooted [] made is none = refl
none_rooted (r ∷ rs) made is none = absurd (omega (arith, none, ap (λ (ps : List (Bool × List ℕ)). length ps) is))

pub some_seen : (paths : List SoughtPath) → 0 < length paths → 0 < length (map seen paths)
some_seen [] h = h
some_seen (p ∷ ps) h = omega arith

pub none_seen : (paths : List SoughtPath) → length paths ≡ 0 → length (map seen paths) ≡ 0
none_seen [] h = refl
none_seen (p ∷ ps) h = absurd (omega (arith, h))

chosen_some : (readings rests : List (List ℕ)) (made : List (Bool × List ℕ)) → made ≡ rooted_keys rests → 0 < length made
    → made ≡ map keyed (chosen_paths readings rests)
chosen_some readings [] made is some = absurd (omega (arith, some, ap (λ (ps : List (Bool × List ℕ)). length ps) is))
chosen_some readings (r ∷ rs) made is some = is

pub rooted_chosen : (roots readings : List (List ℕ)) (uri : List ℕ) (made : List (Bool × List ℕ)) → readings ≡ readings_of uri
    → made ≡ rooted_keys (after_roots roots readings) → 0 < length made → made ≡ map keyed (paths_of roots uri)
rooted_chosen roots readings uri made is h some =
    chosen_some (readings_of uri) (after_roots roots (readings_of uri)) made (h ∙ ap (λ rs. rooted_keys (after_roots roots rs)) is) some

pub own_chosen : (roots readings : List (List ℕ)) (uri : List ℕ) (made own : List (Bool × List ℕ)) → readings ≡ readings_of uri
    → made ≡ rooted_keys (after_roots roots readings) → length made ≡ 0 → own ≡ map keyed (map own_path readings) → own ≡ map keyed (paths_of roots uri)
own_chosen roots readings uri made own is h none o =
    let empty : after_roots roots (readings_of uri) ≡ [] =
    none_rooted (after_roots roots (readings_of uri)) made (h ∙ ap (λ rs. rooted_keys (after_roots roots rs)) is) none in
    o ∙ (ap (λ rs. map keyed (map own_path rs)) is ∙ sym (ap (λ rests. map keyed (chosen_paths (readings_of uri) rests)) empty))

-- ---- paths have no slashes in their parts

own_clean : (readings : List (List ℕ)) → list_all (λ (path : Path). list_all has_no_slash path.1) (map own_path readings) ≡ true
own_clean [] = refl
own_clean (r ∷ rs) = rw (parts_clean r, own_clean rs) refl

rooted_clean : (rests : List (List ℕ)) → list_all (λ (path : Path). list_all has_no_slash path.1) (map relative_path rests) ≡ true
rooted_clean [] = refl
rooted_clean (r ∷ rs) = rw (parts_clean r, rooted_clean rs) refl

chosen_clean : (readings rests : List (List ℕ)) → list_all (λ (path : Path). list_all has_no_slash path.1) (chosen_paths readings rests) ≡ true
chosen_clean readings [] = own_clean readings
chosen_clean readings (r ∷ rs) = rooted_clean (r ∷ rs)

pub paths_clean : (roots : List (List ℕ)) (uri : List ℕ) → list_all (λ (path : Path). list_all has_no_slash path.1) (paths_of roots uri) ≡ true
paths_clean roots uri = chosen_clean (readings_of uri) (after_roots roots (readings_of uri))

-- ---- paths, one by one

pub first_is : (x y : Bool × List ℕ) (xs ys : List (Bool × List ℕ)) → x ∷ xs ≡ y ∷ ys → x ≡ y
first_is x y xs ys h = ap (λ (zs : List (Bool × List ℕ)). get_or zs 0 x) h

pub rest_is : (x y : Bool × List ℕ) (xs ys : List (Bool × List ℕ)) → x ∷ xs ≡ y ∷ ys → xs ≡ ys
rest_is x y xs ys h = ap (λ (zs : List (Bool × List ℕ)). drop 1 zs) h
