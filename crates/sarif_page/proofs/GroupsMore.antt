-- The rows of a file in groups, one group more.
use Rattle.std.proofs.Common.{◌≡◌, ◌≤◌, ◌+◌, ℕ, zero, suc, Some, None, List, [], ◌∷◌, ◌++◌, length, take, drop, flat_map, unwrap_or, if◌then◌else◌, refl, sym, ap, ◌∙◌, append-nil, append_assoc, arith}
use Rattle.std.specs.List.{filter}
use Rattle.std.specs.Borrow.{Bor}
use Rattle.std.proofs.lemmas.List.{length-map, length-drop, take-map, take_all, drop-map, map-append}
use Rattle.sarif_findings.specs.declared.finding.Finding.{Finding}
use Rattle.sarif_page.specs.declared.by_file.Grouped.{Grouped}
use Rattle.sarif_page.specs.declared.groups.Group.{Group as Made}
use Rattle.sarif_page.specs.HtmlRows.{Group, most_grouped, group_after, groups_after, file_groups, groups_of, files_of, by_file, is_in}
use Rattle.sarif_page.specs.Internal.ByFile.{findings_in, has_file, group_of, IsGrouped}
use Rattle.sarif_page.specs.Internal.Groups.{group_in, groups_by, groups_in}
use Rattle.sarif_page.proofs.FilesMore.{at_least, here}
use Rattle.sarif_page.proofs.RowsByFile.{length_by_file}

-- more room for groups than there are rows changes nothing
enough : (n m before all : ℕ) (rs : List Finding) → length rs ≤ n → length rs ≤ m → groups_after n before all rs ≡ groups_after m before all rs
enough zero zero before all rs h g = refl
enough zero (suc m) before all [] h g = refl
enough zero (suc m) before all (r ∷ rs) h g = absurd (omega (arith, h))
enough (suc n) zero before all [] h g = refl
enough (suc n) zero before all (r ∷ rs) h g = absurd (omega (arith, g))
enough (suc n) (suc m) before all [] h g = refl
enough (suc n) (suc m) before all (r ∷ rs) h g =
    let few : length (drop most_grouped (r ∷ rs)) ≤ length rs = omega (arith, length-drop most_grouped (r ∷ rs)) in
    ap (λ l. group_after before all (r ∷ rs) ∷ l)
    (enough n m (before + length (take most_grouped (r ∷ rs))) all (drop most_grouped (r ∷ rs)) (omega (arith, few, h)) (omega (arith, few, g)))

-- one group and the next ones
next_group : (before all : ℕ) (rs : List Finding) → 1 ≤ length rs
    → groups_after (length rs) before all rs
    ≡ group_after before all rs
    ∷ groups_after (length (drop most_grouped rs)) (before + length (take most_grouped rs)) all (drop most_grouped rs)
next_group before all [] h = absurd (omega (arith, h))
next_group before all (r ∷ rs) h =
    let few : length (drop most_grouped (r ∷ rs)) ≤ length rs = omega (arith, length-drop most_grouped (r ∷ rs)) in
    ap (λ l. group_after before all (r ∷ rs) ∷ l)
    (enough (length rs) (length (drop most_grouped (r ∷ rs))) (before + length (take most_grouped (r ∷ rs))) all (drop most_grouped (r ∷ rs)) few (omega arith))

pub made : ℕ → ℕ → ℕ → List Finding → Group
made first last all rows = record { first = first; last = last; all = all; rows = rows }

-- the group that the code makes of the first of these references
pub made_group : (before all : ℕ) (rest : List (Bor Finding))
    → made (before + 1) (before + length (take most_grouped rest)) all (findings_in (take most_grouped rest)) ≡ group_after before all (findings_in rest)
unfolding group_after made
made_group before all rest =
    let rows : findings_in (take most_grouped rest) ≡ take most_grouped (findings_in rest) = sym (take-map (λ f. f.now) most_grouped rest) in
    ap (λ n. made (before + 1) (before + n) all (findings_in (take most_grouped rest))) (sym (length-map (take most_grouped rest) (λ f. f.now)))
    ∙ ap (λ l. made (before + 1) (before + length l) all l) rows

pub group_pushed : (before all : ℕ) (rest : List (Bor Finding)) (sofar whole : List Group) (g : Group) → 1 ≤ length rest
    → g ≡ group_after before all (findings_in rest)
    → sofar ++ groups_after (length (findings_in rest)) before all (findings_in rest) ≡ whole
    → (sofar ++ g ∷ []) ++ groups_after (length (findings_in (drop most_grouped rest))) (before + length (take most_grouped rest)) all (findings_in (drop most_grouped rest))
    ≡ whole
group_pushed before all rest sofar whole g some is so_far =
    let fs = findings_in rest in
    let later : drop most_grouped fs ≡ findings_in (drop most_grouped rest) = drop-map (λ f. f.now) most_grouped rest in
    let first : length (take most_grouped fs) ≡ length (take most_grouped rest) =
    ap length (take-map (λ f. f.now) most_grouped rest) ∙ length-map (take most_grouped rest) (λ f. f.now) in
    let next : groups_after (length fs) before all fs
    ≡ group_after before all fs ∷ groups_after (length (drop most_grouped fs)) (before + length (take most_grouped fs)) all (drop most_grouped fs) =
    next_group before all fs (omega (arith, some, length-map rest (λ f. f.now))) in
    append_assoc sofar (g ∷ []) (groups_after (length (findings_in (drop most_grouped rest))) (before + length (take most_grouped rest)) all (findings_in (drop most_grouped rest)))
    ∙ ap (λ x. sofar ++ x ∷ groups_after (length (findings_in (drop most_grouped rest))) (before + length (take most_grouped rest)) all (findings_in (drop most_grouped rest))) is
    ∙ ap (λ l. sofar ++ group_after before all fs ∷ groups_after (length l) (before + length (take most_grouped rest)) all l) (sym later)
    ∙ ap (λ n. sofar ++ group_after before all fs ∷ groups_after (length (drop most_grouped fs)) (before + n) all (drop most_grouped fs)) (sym first)
    ∙ ap (λ l. sofar ++ l) (sym next) ∙ so_far

-- the group that the code makes is the defined one
seen_group : (before all last : ℕ) (rest first : List (Bor Finding)) (m : Made) → first ≡ take most_grouped rest → last ≡ before + length first
    → m.first ≡ before + 1 → m.last ≡ last → m.all ≡ all → m.rows.now ≡ first → group_in m ≡ group_after before all (findings_in rest)
unfolding made
seen_group before all last rest first m is sum e_first e_last e_all e_rows =
    ap (λ n. made n m.last m.all (findings_in m.rows.now)) e_first
    ∙ ap (λ n. made (before + 1) n m.all (findings_in m.rows.now)) (e_last ∙ sum ∙ ap (λ l. before + length l) is)
    ∙ ap (λ n. made (before + 1) (before + length (take most_grouped rest)) n (findings_in m.rows.now)) e_all
    ∙ ap (λ l. made (before + 1) (before + length (take most_grouped rest)) all (findings_in l)) (e_rows ∙ is)
    ∙ made_group before all rest

-- one group more of a file
pub file_step : (before all last : ℕ) (rest first later : List (Bor Finding)) (old new : List Made) (m : Made) (whole : List Group)
    → 1 ≤ length rest → first ≡ take most_grouped rest → later ≡ drop most_grouped rest → last ≡ before + length first
    → m.first ≡ before + 1 → m.last ≡ last → m.all ≡ all → m.rows.now ≡ first → new ≡ old ++ m ∷ []
    → groups_in old ++ groups_after (length (findings_in rest)) before all (findings_in rest) ≡ whole
    → groups_in new ++ groups_after (length (findings_in later)) last all (findings_in later) ≡ whole
file_step before all last rest first later old new m whole some is later_is sum e_first e_last e_all e_rows pushed held =
    ap (λ l. groups_in l ++ groups_after (length (findings_in later)) last all (findings_in later)) pushed
    ∙ ap (λ l. l ++ groups_after (length (findings_in later)) last all (findings_in later)) (map-append group_in old (m ∷ []))
    ∙ ap (λ l. (groups_in old ++ group_in m ∷ []) ++ groups_after (length (findings_in l)) last all (findings_in l)) later_is
    ∙ ap (λ n. (groups_in old ++ group_in m ∷ []) ++ groups_after (length (findings_in (drop most_grouped rest))) n all (findings_in (drop most_grouped rest)))
    (sum ∙ ap (λ l. before + length l) is)
    ∙ group_pushed before all rest (groups_in old) whole (group_in m) some (seen_group before all last rest first m is sum e_first e_last e_all e_rows) held

-- the groups of some of these files, in order
groups_some : (fs : List Finding) (before files : List (List ℕ))
    → flat_map (λ file. file_groups (unwrap_or (if has_file (before ++ files) file then Some (filter (is_in file) fs) else None) [])) files
    ≡ flat_map (λ file. file_groups (filter (is_in file) fs)) files
groups_some fs before [] = refl
groups_some fs before (file ∷ files) =
    ap (λ b. file_groups (unwrap_or (if b then Some (filter (is_in file) fs) else None) [])
    ++ flat_map (λ q. file_groups (unwrap_or (if has_file (before ++ (file ∷ files)) q then Some (filter (is_in q) fs) else None) [])) files)
    (here fs before files file)
    ∙ ap (λ t. file_groups (filter (is_in file) fs) ++ t)
    (ap (λ l. flat_map (λ q. file_groups (unwrap_or (if has_file l q then Some (filter (is_in q) fs) else None) [])) files) (sym (append_assoc before (file ∷ []) files))
    ∙ groups_some fs (before ++ file ∷ []) files)

-- there are no more files than rows
few_files : (fs : List Finding) → length (files_of fs) ≤ length fs
few_files fs =
    let least : length (files_of fs) ≤ length (by_file fs) = at_least fs [] (files_of fs) [] (append-nil (files_of fs)) in
    let same : length (by_file fs) ≡ length fs = length_by_file fs in
    omega (arith, least, same)

-- the groups of a table are those of the rows
pub groups_all : (most : ℕ) (fs : List Finding) (grouped : Grouped) → length fs ≤ most → IsGrouped most fs grouped → groups_by grouped ≡ groups_of fs
groups_all most fs grouped enough h =
    let whole : take most (files_of fs) ≡ files_of fs = take_all most (files_of fs) (omega (arith, few_files fs, enough)) in
    let same : groups_by grouped ≡ flat_map (λ file. file_groups (unwrap_or (group_of most fs file) [])) (take most (files_of fs)) =
    λ j. flat_map (λ file. file_groups (unwrap_or (h.1 file j) [])) (h.0 j) in
    same
    ∙ ap (λ l. flat_map (λ file. file_groups (unwrap_or (if has_file l file then Some (filter (is_in file) fs) else None) [])) l) whole
    ∙ groups_some fs [] (files_of fs)
