-- Changed lines that are found, and what is found of paths.
use Rattle.std.proofs.Common.{◌≡◌, ◌<◌, ◌≤◌, ◌+◌, ℕ, Bool, true, false, ◌&&◌, ◌||◌, List, [], ◌∷◌, ◌++◌, length, map, drop, get_or, Option, None, refl, sym, ap, ◌∙◌, arith}
use Rattle.std.proofs.lemmas.Bool.{and_parts}
use Rattle.std.proofs.lemmas.List.{drop_all}
use Rattle.std.proofs.lemmas.List.Folds.{list_any-append}
use Rattle.std.specs.Borrow.{Bor}
use Rattle.std.specs.Prelude.{is_none}
use Rattle.std.specs.List.{list_any, list_all}
use Rattle.sarif_diff.specs.declared.section.Section.{Section}
use Rattle.sarif_diff.specs.declared.section.Span.{Span}
use Rattle.sarif_change.specs.Uri.{Path}
use Rattle.sarif_change.specs.Internal.Files.{any_changed, changed_at, found_at}
use Rattle.sarif_change.specs.Internal.Index.{is_found, is_linked, tree_files}
use Rattle.sarif_change.specs.Internal.Keys.{alike, joined, opens, has_no_slash}
use Rattle.sarif_change.specs.Internal.Sought.{seen, keyed}
use Rattle.sarif_change.specs.Internal.Trees.{IsShared}
use Rattle.sarif_change.specs.declared.file.ChangedFile.{ChangedFile}
use Rattle.sarif_change.specs.declared.file.SharedPart.{SharedPart}
use Rattle.sarif_change.specs.declared.uri.SoughtPath.{SoughtPath}
use Rattle.sarif_change.proofs.LinksMore as links_more
use Rattle.sarif_change.proofs.OnceMore.{bytes, first_left}
use Rattle.sarif_change.proofs.PathsMore.{first_is, rest_is}
use Rattle.sarif_change.proofs.TreeMore.{found_in_all}

abbrev pub Found : Type 0
Found = List (Bor (Bool × List Span))

pub or_none : (a : Bool) → a ≡ (a || false)
or_none true = refl
or_none false = refl

pub or_three : (a b c : Bool) → ((a || b) || c) ≡ (a || (b || c))
or_three true b c = refl
or_three false b c = refl

pub not_added : (found : Found) (is_sought : Bool) (changed : Bool × List Span) → is_sought ≡ false
    → (lines : Option Span) → any_changed lines found ≡ (any_changed lines found || (is_sought && changed_at lines changed))
not_added found is_sought changed h lines = rw h (or_none (any_changed lines found))

pub one_added : (found : Found) (is_sought : Bool) (changed : Bor (Bool × List Span)) → is_sought ≡ true
    → (lines : Option Span) → any_changed lines (found ++ changed ∷ []) ≡ (any_changed lines found || (is_sought && changed_at lines changed.now))
one_added found is_sought changed h lines =
    rw h (list_any-append (λ (c : Bor (Bool × List Span)). changed_at lines c.now) found (changed ∷ [])
    ∙ ap (λ b. any_changed lines found || b) (sym (or_none (changed_at lines changed.now))))

-- ---- the files of a tree

pub same_file : (old new : Found) (file : ChangedFile) (key : List ℕ) (is_sought : Bool) → is_sought ≡ alike file.key.items key
    → ((lines : Option Span) → any_changed lines new ≡ (any_changed lines old || (is_sought && changed_at lines file.changed)))
    → (lines : Option Span) → any_changed lines new ≡ (any_changed lines old || list_any (found_at key lines) (file ∷ []))
same_file old new file key is_sought is pushed lines =
    pushed lines
    ∙ ap (λ b. any_changed lines old || b)
    (ap (λ b. b && changed_at lines file.changed) is ∙ or_none (alike file.key.items key && changed_at lines file.changed))

pub both_sides : (old middle new : Found) (left right : List ChangedFile) (key : List ℕ)
    → ((lines : Option Span) → any_changed lines middle ≡ (any_changed lines old || list_any (found_at key lines) left))
    → ((lines : Option Span) → any_changed lines new ≡ (any_changed lines middle || list_any (found_at key lines) right))
    → (lines : Option Span) → any_changed lines new ≡ (any_changed lines old || list_any (found_at key lines) (left ++ right))
both_sides old middle new left right key first second lines =
    second lines
    ∙ (ap (λ b. b || list_any (found_at key lines) right) (first lines)
    ∙ (or_three (any_changed lines old) (list_any (found_at key lines) left) (list_any (found_at key lines) right)
    ∙ ap (λ b. any_changed lines old || b) (sym (list_any-append (found_at key lines) left right))))

pub all_added : (old new : Found) (files : List ChangedFile) (shared : SharedPart) (key : List ℕ) → IsShared shared files
    → opens shared.beginning.items key ≡ true
    → ((lines : Option Span) → any_changed lines new ≡ (any_changed lines old || (true && changed_at lines shared.changed)))
    → (lines : Option Span) → any_changed lines new ≡ (any_changed lines old || list_any (found_at key lines) files)
all_added old new files shared key right opened pushed lines =
    pushed lines
    ∙ ap (λ b. any_changed lines old || b)
    (right.changed lines ∙ sym (found_in_all files shared.beginning.items key lines right.beginning opened))

pub none_added : (found : Found) (tree : Option (List ChangedFile)) (key : List ℕ) → tree ≡ None
    → (lines : Option Span) → any_changed lines found ≡ (any_changed lines found || list_any (found_at key lines) (tree_files tree))
none_added found tree key h lines = rw h (or_none (any_changed lines found))

-- ---- symbolic links

module _ (links : Option (List ChangedFile)) (found : Found) where
  pub none_linked : (pieces : List (List ℕ)) → is_none links ≡ true
      → (lines : Option Span) → any_changed lines found ≡ (any_changed lines found || list_any (is_linked links lines) pieces)
  none_linked pieces h lines =
      or_none (any_changed lines found) ∙ ap (λ b. any_changed lines found || b) (links_more.none_linked links lines pieces h)

  pub part_after : (new : Found) (parts : List (Bor (List ℕ))) (n : ℕ) (part : Bor (List ℕ)) (whole : Option Span → Bool)
      → n < length parts → part ≡ get_or parts n part
      → ((lines : Option Span) → any_changed lines new ≡ (any_changed lines found || is_linked links lines part.now))
      → ((lines : Option Span) → (any_changed lines found || list_any (is_linked links lines) (bytes (drop n parts))) ≡ whole lines)
      → (lines : Option Span) → (any_changed lines new || list_any (is_linked links lines) (bytes (drop (n + 1) parts))) ≡ whole lines
  part_after new parts n part whole within is pushed held lines =
      let rest = list_any (is_linked links lines) (bytes (drop (n + 1) parts)) in
      ap (λ b. b || rest) (pushed lines)
      ∙ (or_three (any_changed lines found) (is_linked links lines part.now) rest
      ∙ (ap (λ l. any_changed lines found || list_any (is_linked links lines) (bytes l)) (sym (first_left parts n part within is)) ∙ held lines))

  pub parts_end : (parts : List (Bor (List ℕ))) (n : ℕ) (whole : Option Span → Bool) → length parts ≤ n
      → ((lines : Option Span) → (any_changed lines found || list_any (is_linked links lines) (bytes (drop n parts))) ≡ whole lines)
      → (lines : Option Span) → any_changed lines found ≡ whole lines
  parts_end parts n whole past held lines =
      or_none (any_changed lines found)
      ∙ (ap (λ l. any_changed lines found || list_any (is_linked links lines) (bytes l)) (sym (drop_all n parts past)) ∙ held lines)

-- ---- paths, one by one

pub no_paths : (found : Found) (sections : List Section) (lines : Option Span) (sought : List Path) → [] ≡ map keyed sought
    → any_changed lines found ≡ (any_changed lines found || list_any (is_found sections lines) sought)
no_paths found sections lines [] h = or_none (any_changed lines found)
no_paths found sections lines (p ∷ ps) h = absurd (omega (arith, ap (λ (xs : List (Bool × List ℕ)). length xs) h))

pub path_after : (sections : List Section) (lines : Option Span) (first : SoughtPath) (rest : List SoughtPath) (old middle new : Bool)
    → ((parts : List (List ℕ)) → list_all has_no_slash parts ≡ true → first.key.items ≡ joined parts
    → middle ≡ (old || is_found sections lines (first.absolute, parts)))
    → ((sought : List Path) → list_all (λ (path : Path). list_all has_no_slash path.1) sought ≡ true → map seen rest ≡ map keyed sought
    → new ≡ (middle || list_any (is_found sections lines) sought))
    → (sought : List Path) → list_all (λ (path : Path). list_all has_no_slash path.1) sought ≡ true → seen first ∷ map seen rest ≡ map keyed sought
    → new ≡ (old || list_any (is_found sections lines) sought)
path_after sections lines first rest old middle new one others [] clean same =
    absurd (omega (arith, ap (λ (xs : List (Bool × List ℕ)). length xs) same))
path_after sections lines first rest old middle new one others (p ∷ ps) clean same =
    let both = and_parts _ _ clean in
    let this : seen first ≡ keyed p = first_is (seen first) (keyed p) (map seen rest) (map keyed ps) same in
    let here : middle ≡ (old || is_found sections lines p) =
    one p.1 both.0 (ap (λ (x : Bool × List ℕ). x.1) this)
    ∙ ap (λ (a : Bool). old || is_found sections lines (a, p.1)) (ap (λ (x : Bool × List ℕ). x.0) this) in
    others ps both.1 (rest_is (seen first) (keyed p) (map seen rest) (map keyed ps) same)
    ∙ (ap (λ b. b || list_any (is_found sections lines) ps) here
    ∙ or_three old (is_found sections lines p) (list_any (is_found sections lines) ps))
