-- The row of a baseline state in the table of counts.
use Rattle.std.specs.Prelude.{ℕ, Bool, false, List, ◌++◌, codes}
use Rattle.std.specs.Fmt.{decimal}
use Rattle.sarif_model.specs.declared.kinds.Level.{Level}
use Rattle.sarif_model.specs.declared.kinds.Level.TheVariants.{NoLevel, Note, Warning, Error}
use Rattle.sarif_counts.specs.Summary.{suppressed_of}
use Rattle.sarif_shown.specs.declared.count_row.CountRow.{CountRow}

-- a state's active results by level, and its suppressed ones
abbrev pub numbers_of : (Level → Bool → ℕ) → CountRow
numbers_of numbers = record {
  error = numbers Error false;
  warning = numbers Warning false;
  note = numbers Note false;
  none = numbers NoLevel false;
  suppressed = suppressed_of numbers;
}

abbrev pub row_begin : List ℕ → ℕ → ℕ → List ℕ
row_begin name error warning =
    codes "| " ++ (name ++ (codes " | " ++ (decimal error
    ++ (codes " | " ++ (decimal warning ++ codes " | ")))))

abbrev pub row_end : ℕ → ℕ → ℕ → List ℕ
row_end note none suppressed =
    decimal note ++ (codes " | " ++ (decimal none
    ++ (codes " | " ++ (decimal suppressed ++ codes " |\n"))))

-- | STATE | ERROR | WARNING | NOTE | NONE | SUPPRESSED |
abbrev pub row_of : List ℕ → CountRow → List ℕ
row_of name row = row_begin name row.error row.warning ++ row_end row.note row.none row.suppressed
