-- The list of the unused entries of a suppression file.
use Rattle.std.specs.Prelude.{ℕ, ◌+◌, Bool, List, [], ◌∷◌, ◌++◌, chars, codes, decimal, if◌then◌else◌}
use Rattle.serde_json.specs.Data.{Data}
use Rattle.serde_json.specs.Written.{compact_text}
use Rattle.sarif_findings.specs.Shown.{shown}
use Rattle.sarif_model.specs.declared.record.Record.{Record}
use Rattle.sarif_entries.specs.declared.entry.Entry.{Entry}
use Rattle.sarif_entries.specs.File.{File}
use Rattle.sarif_entries.specs.Matching.{is_expired}
use Rattle.sarif_suppress.specs.Suppressing.{is_unused}

-- why an entry is unused
abbrev pub reason_of : Bool → List ℕ
reason_of expired = if expired then codes "expired" else codes "unmatched"

-- what comes before the text of entry n
abbrev pub head_of : ℕ → Bool → List ℕ
head_of n expired =
    codes "entry " ++ (decimal n ++ (codes ": " ++ (reason_of expired ++ codes ": ")))

-- the line of entry n: why it is unused, and its text as it is shown
abbrev pub line_of : ℕ → Bool → Data → List ℕ
line_of n expired d = head_of n expired ++ (shown (chars (compact_text d)) ++ 10 ∷ [])

-- the lines of the unused ones of these entries, the first with number n; they were read from these values
abbrev pub lines_from : File → List Record → ℕ → List Entry → List Data → List ℕ
lines_from file rs n [] ds = []
lines_from file rs n (e ∷ es) [] = []
lines_from file rs n (e ∷ es) (d ∷ ds) =
    (if is_unused file rs e then line_of n (is_expired file.today e) d else [])
    ++ lines_from file rs (n + 1) es ds

-- a line for each unused entry, in file order
abbrev pub unused_text : File → List Record → List Data → List ℕ
unused_text file rs ds = lines_from file rs 0 file.entries ds
