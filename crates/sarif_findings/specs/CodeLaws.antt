-- Properties of the code of a result, for any snippets of a log.
use Rattle.std.specs.Prelude.{◌≡◌, ℕ, ◌+◌, ◌<◌, ◌≤◌, ◌==◌, Bool, true, false, not, List, [], ◌∷◌, length, reverse, Option, IfSome, chars, option_map}
use Rattle.std.specs.List.{AllByRecursion, list_any}
use Rattle.sarif_findings.specs.declared.code.Code.{Code}
use Rattle.sarif_findings.specs.declared.finding.Finding.{Finding}
use Rattle.sarif_findings.specs.Code.{most_lines, most_of_line}
use Rattle.sarif_findings.specs.CodeRows.{is_filled}
use Rattle.sarif_findings.specs.ShownLaws.{are_seen}

-- at most 121 characters; none is a control character or hides or steers, so none is a line feed
abbrev pub IsSeenLine : List ℕ → Type 0
IsSeenLine line = (length (chars line) ≤ most_of_line + 1) × (are_seen (chars line) ≡ true)

-- whether the first of these lines is not empty
abbrev pub begins_filled : List (List ℕ) → Bool
begins_filled [] = false
begins_filled (line ∷ lines) = is_filled line

-- whether a line begins with another character than a space
abbrev pub begins_without_space : List ℕ → Bool
begins_without_space [] = false
begins_without_space (b ∷ bs) = not (b == 32)

-- whether a code with these numbers has that number at its hit line
abbrev pub HasNumber : Option ℕ → Option ℕ → Option ℕ → Type 0
HasNumber n first_number hit_line =
    IfSome hit_line (λ hit. option_map (λ first. first + hit) first_number ≡ n)

-- the code of a result on line n: some lines, but few and short ones. The first and the last are not empty, and one
-- begins without a space. The hit line is one of them, and has the number of the result's line
pub record IsCode (n : Option ℕ) (code : Code) : Type 0 where
  pub few : length code.lines ≤ most_lines
  pub seen : AllByRecursion IsSeenLine code.lines
  pub first : begins_filled code.lines ≡ true
  pub last : begins_filled (reverse code.lines) ≡ true
  pub outdented : list_any begins_without_space code.lines ≡ true
  pub within : IfSome code.hit_line (λ hit. hit < length code.lines)
  pub number : HasNumber n code.first_number code.hit_line

-- the code of a finding, if it has one
abbrev pub HasCode : Finding → Type 0
HasCode finding = IfSome finding.code (IsCode finding.line)
