-- The rows of a page: hits before others, and in each of the two lists by file. The rows of a file are in groups.
use Rattle.std.specs.Prelude.{ℕ, zero, suc, ◌+◌, ◌-◌, Bool, not, List, [], ◌∷◌, ◌++◌, length, take, drop, bytes_eq, flat_map, unwrap_or, Option, ◌==◌, if◌then◌else◌}
use Rattle.std.specs.List.{count_by, filter}
use Rattle.sarif_findings.specs.declared.finding.Finding.{Finding}
use Rattle.sarif_shown.specs.Listed.{hits_among, others_among}
use Rattle.sarif_shown.specs.Stopping.{stops}
use Rattle.sarif_shown.specs.declared.stopping.Stopping.TheVariants.{MarkedHit}
use Rattle.sarif_page.specs.HtmlRules.{Rule, rules_of, shown_rules}

-- the path of a finding; the empty string if there is no path, since no path is empty
abbrev pub file_of : Finding → List ℕ
file_of f = unwrap_or f.path []

abbrev pub is_in : List ℕ → Finding → Bool
is_in file f = bytes_eq file (file_of f)

-- each file once, in the order of first appearance
abbrev pub files_of : List Finding → List (List ℕ)
files_of [] = []
files_of (f ∷ fs) = file_of f ∷ filter (λ file. not (is_in file f)) (files_of fs)

-- the findings of each file together, in their order
abbrev pub by_file : List Finding → List Finding
by_file fs = flat_map (λ file. filter (is_in file) fs) (files_of fs)

-- the most rows of a page
abbrev pub most_rows : ℕ
most_rows = 10000

-- the rows of the first list
unfoldable pub hit_rows : List Finding → List Finding
hit_rows findings = take most_rows (by_file (hits_among findings))

-- the rows of the second list, if the first leaves room for them
unfoldable pub other_rows : List Finding → List Finding
other_rows findings =
    take (most_rows - length (hit_rows findings)) (by_file (others_among findings))

-- all rows
abbrev pub page_rows : List Finding → List Finding
page_rows findings = hit_rows findings ++ other_rows findings

-- the results of the first list that there is
abbrev pub first_list : List Finding → List Finding
first_list findings =
    if length (hits_among findings) == 0 then others_among findings else hits_among findings

-- the rows of the two lists, how many hits and other results there are, with a row or not, and the rules of the first
-- list
pub record Tables : Type 0 where
  pub hits : List Finding
  pub others : List Finding
  pub all_hits : ℕ
  pub all_others : ℕ
  -- how many hits are of conditions that fail
  pub marked : ℕ
  pub rules : List Rule
  pub all_rules : ℕ
  -- the template by which places are linked, if they are
  pub link : Option (List ℕ)

abbrev pub tables_of : Option (List ℕ) → List Finding → Tables
tables_of link findings = record {
  hits = hit_rows findings;
  others = other_rows findings;
  all_hits = length (hits_among findings);
  all_others = length (others_among findings);
  marked = count_by (λ f. stops MarkedHit f.impact) findings;
  rules = shown_rules (first_list findings);
  all_rules = length (rules_of (first_list findings));
  link = link;
}

-- how many of this number of results have no row, if these have one
abbrev pub without_row : ℕ → List Finding → ℕ
without_row all rows = all - length rows

-- ---- the groups

-- the most rows of a group
abbrev pub most_grouped : ℕ
most_grouped = 50

-- some rows of a file
pub record Group : Type 0 where
  -- the numbers of the first and of the last of them among the file's rows, from 1
  pub first : ℕ
  pub last : ℕ
  -- how many rows the file has
  pub all : ℕ
  pub rows : List Finding

-- the first of these rows as a group: the file has `all` rows, and `before` of them are before these
unfoldable pub group_after : ℕ → ℕ → List Finding → Group
group_after before all rows = record {
  first = before + 1;
  last = before + length (take most_grouped rows);
  all = all;
  rows = take most_grouped rows;
}

-- these last rows of a file in groups, at most `most` groups
abbrev pub groups_after : ℕ → ℕ → ℕ → List Finding → List Group
groups_after zero before all rows = []
groups_after (suc most) before all [] = []
groups_after (suc most) before all (f ∷ fs) =
    group_after before all (f ∷ fs)
    ∷ groups_after most (before + length (take most_grouped (f ∷ fs))) all (drop most_grouped (f ∷ fs))

-- all rows of a file in groups: there are no more groups than rows
abbrev pub file_groups : List Finding → List Group
file_groups rows = groups_after (length rows) 0 (length rows) rows

-- the groups of each file, in the order of the files
abbrev pub groups_of : List Finding → List Group
groups_of rows = flat_map (λ file. file_groups (filter (is_in file) rows)) (files_of rows)

-- the rows of these groups
abbrev pub grouped_rows : List Group → List Finding
grouped_rows groups = flat_map (λ g. g.rows) groups
