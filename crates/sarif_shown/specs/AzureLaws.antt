-- Properties of the report for Azure Pipelines, for any strings of a log.
use Rattle.std.specs.Prelude.{◌≡◌, ℕ, ◌+◌, Bool, true, false, not, ◌||◌, ◌==◌, List, [], ◌∷◌, ◌++◌, Option, Some, None, codes, length, flat_map, encode_utf8_all, if◌then◌else◌}
use Rattle.std.specs.List.{AllByRecursion}
use Rattle.sarif_findings.specs.declared.finding.Finding.{Finding}
use Rattle.sarif_links.specs.Address.{has_two_signs}
use Rattle.sarif_findings.specs.ShownLaws.{are_seen}

-- ---- lines

-- visible characters, no two adjacent `#`, and no end of a line
pub record IsWithinLine (text : List ℕ) : Type 0 where
  pub characters : List ℕ
  pub bytes : encode_utf8_all characters ≡ text
  pub seen : are_seen characters ≡ true
  pub signs : has_two_signs false characters ≡ false

-- a line with this after the beginning of a command, which has the only two adjacent `#`
abbrev pub issue_line : List ℕ → List ℕ
issue_line text = codes "##vso[task.logissue type=" ++ (text ++ codes "\n")

-- the text consists of this many commands, each in a line
pub record AreIssues (count : ℕ) (text : List ℕ) : Type 0 where
  pub ends : List (List ℕ)
  pub number : length ends ≡ count
  pub lines : flat_map issue_line ends ≡ text
  pub within : AllByRecursion IsWithinLine ends

-- ---- properties

-- whether a character neither ends a property nor the properties
abbrev pub is_within_property : ℕ → Bool
is_within_property b = not (b == 59 || b == 93)

-- how many properties a reader finds in a line: each ends with a `;`, and all of them at the first `]`
abbrev pub properties_read : List ℕ → ℕ
properties_read [] = 0
properties_read (b ∷ bs) =
    if b == 93 then 0 else (if b == 59 then properties_read bs + 1 else properties_read bs)

abbrev pub one_if_some : {X : Type 0} → Option X → ℕ
one_if_some None = 0
one_if_some (Some x) = 1

abbrev pub one_if_any : List ℕ → ℕ
one_if_any [] = 0
one_if_any (b ∷ bs) = 1

-- how many a result has: the type, and what it has of path, line, column and rule
abbrev pub properties_of : Finding → ℕ
properties_of finding =
    1 + (one_if_some finding.path + (one_if_some finding.line
    + (one_if_some finding.column + one_if_any finding.rule)))
