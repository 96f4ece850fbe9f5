-- A finding: what a report says about a result, and its place as a report writes it.
use Rattle.std.specs.Prelude.{ℕ, Bool, false, ◌==◌, List, [], ◌∷◌, ◌++◌, Option, Some, None, codes, if◌then◌else◌}
use Rattle.std.specs.Fmt.{decimal}
use Rattle.sarif_findings.specs.declared.finding.Finding.{Finding}

-- whether the first character that is not a space is a colon
abbrev pub begins_with_colon : List ℕ → Bool
begins_with_colon [] = false
begins_with_colon (b ∷ bs) = if b == 32 then begins_with_colon bs else b == 58

-- no place begins with a colon
abbrev pub place_path : List ℕ → List ℕ
place_path path = if begins_with_colon path then codes "./" ++ path else path

-- a colon and the number, if there is a number
abbrev pub numbered : Option ℕ → List ℕ
numbered None = []
numbered (Some n) = codes ":" ++ decimal n

-- the path, the line and the column, as many of these as there are, or `-`
abbrev pub place : Option (List ℕ) → Option ℕ → Option ℕ → List ℕ
place None line column = codes "-"
place (Some path) line column = place_path path ++ (numbered line ++ numbered column)

abbrev pub spot_text : Finding → List ℕ
spot_text finding = place finding.path finding.line finding.column
