-- The groups of a list have its rows, file by file: each group has some rows of one file, and no more than a group may have.
use Rattle.std.proofs.Common.{◌≡◌, ◌≤◌, ◌+◌, ℕ, zero, suc, Bool, List, [], ◌∷◌, ◌++◌, length, take, drop, flat_map, refl, ap, ◌∙◌, arith}
use Rattle.std.specs.List.{filter, count_by}
use Rattle.std.proofs.lemmas.Grind.{flat_map-append}
use Rattle.std.proofs.lemmas.List.{take-append-drop, length-drop}
use Rattle.sarif_findings.specs.declared.finding.Finding.{Finding}
use Rattle.sarif_page.specs.HtmlRows.{Group, most_grouped, group_after, groups_after, file_groups, groups_of, grouped_rows, files_of, by_file, is_in}
use Rattle.sarif_page.proofs.RowsByFile.{once_by_file}

whole_after : (n before all : ℕ) (rs : List Finding) → length rs ≤ n → grouped_rows (groups_after n before all rs) ≡ rs
unfolding group_after
whole_after zero before all [] h = refl
whole_after zero before all (r ∷ rs) h = absurd (omega (arith, h))
whole_after (suc n) before all [] h = refl
whole_after (suc n) before all (r ∷ rs) h =
    ap (λ l. take most_grouped (r ∷ rs) ++ l)
    (whole_after n (before + length (take most_grouped (r ∷ rs))) all (drop most_grouped (r ∷ rs)) (omega (arith, length-drop most_grouped (r ∷ rs), h)))
    ∙ take-append-drop most_grouped (r ∷ rs)

rows_of_files : (fs : List Finding) (files : List (List ℕ))
    → grouped_rows (flat_map (λ file. file_groups (filter (is_in file) fs)) files) ≡ flat_map (λ file. filter (is_in file) fs) files
rows_of_files fs [] = refl
rows_of_files fs (file ∷ files) =
    let rows = filter (is_in file) fs in
    let later = flat_map (λ q. file_groups (filter (is_in q) fs)) files in
    flat_map-append (λ (g : Group). g.rows) (file_groups rows) later
    ∙ ap (λ l. l ++ grouped_rows later) (whole_after (length rows) 0 (length rows) rows (omega arith))
    ∙ ap (λ l. rows ++ l) (rows_of_files fs files)

pub groups_have_rows : (rows : List Finding) → grouped_rows (groups_of rows) ≡ by_file rows
groups_have_rows rows = rows_of_files rows (files_of rows)

pub groups_have_each_once : (rows : List Finding) (p : Finding → Bool) → count_by p (grouped_rows (groups_of rows)) ≡ count_by p rows
groups_have_each_once rows p = ap (count_by p) (groups_have_rows rows) ∙ once_by_file p rows
