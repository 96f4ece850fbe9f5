-- Symbolic links by the parts of a key, and what an index finds.
use Rattle.std.proofs.Common.{◌≡◌, ℕ, Bool, true, false, ◌&&◌, ◌||◌, List, [], ◌∷◌, ◌++◌, take, Option, Some, None, refl, ap, ◌∙◌, arith}
use Rattle.std.proofs.lemmas.Bool.{and_parts}
use Rattle.std.specs.Prelude.{is_none}
use Rattle.std.specs.List.{list_any, list_all}
use Rattle.sarif_diff.specs.declared.section.Section.{Section}
use Rattle.sarif_diff.specs.declared.section.Span.{Span}
use Rattle.sarif_change.specs.Parts.{pieces_of}
use Rattle.sarif_change.specs.Internal.Files.{found_at}
use Rattle.sarif_change.specs.Internal.Index.{IsIndex, tree_files, sought_parts, is_found, is_ending, is_link_named}
use Rattle.sarif_change.specs.Internal.Keys.{joined, has_no_slash}
use Rattle.sarif_change.specs.declared.file.ChangedFile.{ChangedFile}
use Rattle.sarif_change.proofs.JoinedMore.{pieces_joined}

abbrev pub linked : Option (List ChangedFile) → Option Span → List ℕ → Bool
linked links lines part = list_any (found_at (part ++ 47 ∷ []) lines) (tree_files links)

any_no : {X : Type 0} (xs : List X) → false ≡ list_any (λ x. false) xs
any_no [] = refl
any_no (x ∷ xs) = any_no xs

pub none_linked : (links : Option (List ChangedFile)) (lines : Option Span) (pieces : List (List ℕ)) → is_none links ≡ true
    → false ≡ list_any (λ part. list_any (found_at (part ++ 47 ∷ []) lines) (tree_files links)) pieces
none_linked None lines pieces h = any_no pieces
none_linked (Some files) lines pieces h = grind arith

-- ---- what an index finds

one_clean : (parts : List (List ℕ)) → list_all has_no_slash parts ≡ true → list_all has_no_slash (take 1 parts) ≡ true
one_clean [] h = refl
one_clean (p ∷ ps) h = ap (λ b. b && true) (and_parts _ _ h).0

sought_clean : (absolute : Bool) (parts : List (List ℕ)) → list_all has_no_slash parts ≡ true → list_all has_no_slash (sought_parts (absolute, parts)) ≡ true
sought_clean true parts h = one_clean parts h
sought_clean false parts h = h

links_found : (files links : Option (List ChangedFile)) (sections : List Section) (lines : Option Span) (parts : List (List ℕ)) → IsIndex files links sections
    → list_all has_no_slash parts ≡ true → list_any (linked links lines) parts ≡ list_any (λ part. list_any (is_link_named part lines) sections) parts
links_found files links sections lines [] index h = refl
links_found files links sections lines (p ∷ ps) index h =
    let both = and_parts _ _ h in
    rw (index.links p lines both.0, links_found files links sections lines ps index both.1) refl

pub path_found : (files links : Option (List ChangedFile)) (sections : List Section) (lines : Option Span) (absolute : Bool)
    (parts : List (List ℕ)) (key sought : List ℕ)
    → IsIndex files links sections → list_all has_no_slash parts ≡ true → key ≡ joined parts → sought ≡ joined (sought_parts (absolute, parts))
    → (list_any (found_at sought lines) (tree_files files) || list_any (linked links lines) (pieces_of key)) ≡ is_found sections lines (absolute, parts)
path_found files links sections lines absolute parts key sought index clean is looked =
    ap (λ k. list_any (found_at k lines) (tree_files files) || list_any (linked links lines) (pieces_of key)) looked
    ∙ (ap (λ b. b || list_any (linked links lines) (pieces_of key)) (index.files (sought_parts (absolute, parts)) lines (sought_clean absolute parts clean))
    ∙ ap (λ b. list_any (is_ending (sought_parts (absolute, parts)) lines) sections || b)
    (ap (λ k. list_any (linked links lines) (pieces_of k)) is ∙ (ap (λ ps. list_any (linked links lines) ps) (pieces_joined parts clean)
    ∙ links_found files links sections lines parts index clean)))
