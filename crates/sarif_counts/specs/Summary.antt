-- The table of counts that is printed after a merge: this project's own format.
use Rattle.std.specs.Prelude.{ℕ, ◌+◌, ◌-◌, List, [], ◌∷◌, ◌++◌, length, replicate, Bool, true, false, codes}
use Rattle.std.specs.Fmt.{decimal}
use Rattle.sarif_model.specs.declared.kinds.Level.{Level}
use Rattle.sarif_model.specs.declared.kinds.Level.TheVariants.{NoLevel, Note, Warning, Error}
use Rattle.sarif_model.specs.declared.kinds.State.{State}
use Rattle.sarif_model.specs.declared.kinds.State.TheVariants.{New, Unchanged, Updated, Absent}
use Rattle.sarif_model.specs.State.{state_name}
use Rattle.sarif_options.specs.declared.policy.Policy.{Policy}
use Rattle.sarif_counts.specs.declared.gate_verdict.Verdict.{Verdict}
use Rattle.sarif_counts.specs.Hits.{Count, hits_of, verdict_of, verdict_name}

abbrev pub newline : List ℕ
newline = 10 ∷ []

-- a string padded to a number of columns, aligned left or right
abbrev pub left_in : ℕ → List ℕ → List ℕ
left_in width text = text ++ replicate (width - length text) 32

unfoldable pub right_in : ℕ → List ℕ → List ℕ
right_in width text = replicate (width - length text) 32 ++ text

abbrev pub heading : List ℕ
heading = codes "state           error    warning       note       none suppressed" ++ newline

abbrev pub name_column : State → List ℕ
name_column state = left_in 10 (state_name state)

abbrev pub number_column : ℕ → List ℕ
number_column n = right_in 11 (decimal n)

-- all suppressed results of a state, of any level
abbrev pub suppressed_of : (Level → Bool → ℕ) → ℕ
suppressed_of numbers =
    numbers Error true + numbers Warning true + numbers Note true + numbers NoLevel true

-- a state's active results by falling level, and its suppressed ones
abbrev pub row_of : List ℕ → (Level → Bool → ℕ) → List ℕ
row_of name numbers =
    name ++ (number_column (numbers Error false)
    ++ (number_column (numbers Warning false)
    ++ (number_column (numbers Note false)
    ++ (number_column (numbers NoLevel false)
    ++ (number_column (suppressed_of numbers) ++ newline)))))

abbrev pub gate_line : Verdict → ℕ → ℕ → List ℕ
gate_line verdict hits max =
    codes "gate: " ++ (verdict_name verdict
    ++ (codes ", hits " ++ (decimal hits ++ (codes ", max " ++ (decimal max ++ newline)))))

-- six lines: a heading, the four states, and the gate
abbrev pub summary_of : Count → Policy → List ℕ
summary_of count policy =
    heading ++ (row_of (name_column New) (count New)
    ++ (row_of (name_column Unchanged) (count Unchanged)
    ++ (row_of (name_column Updated) (count Updated)
    ++ (row_of (name_column Absent) (count Absent)
    ++ gate_line (verdict_of count policy) (hits_of count policy) policy.max))))
