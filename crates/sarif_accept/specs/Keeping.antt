-- Which entries stay in a new suppression file.
use Rattle.std.specs.Prelude.{ℕ, Bool, true, false, not, ◌&&◌, ◌||◌, List, [], ◌∷◌, Option}
use Rattle.sarif_model.specs.declared.record.Record.{Record}
use Rattle.sarif_entries.specs.declared.entry.Entry.{Entry}
use Rattle.sarif_entries.specs.File.{File}
use Rattle.sarif_entries.specs.declared.condition.ConditionKind.TheVariants as kinds
use Rattle.sarif_entries.specs.Condition.{text_in}
use Rattle.sarif_entries.specs.Matching.{is_expired}
use Rattle.sarif_suppress.specs.Suppressing.{is_unused}

-- whether the tool that an entry names was heard, if it names one
abbrev pub Heard : Type 0
Heard = Option (List ℕ) → Bool

-- an entry is dropped by pruning if it expired, or if it matches no current result although its tool was heard
abbrev pub goes : Heard → File → List Record → Entry → Bool
goes heard file rs e =
    is_expired file.today e || (is_unused file rs e && heard (text_in kinds.Tool e.conditions))

abbrev pub is_kept : Bool → Heard → File → List Record → Entry → Bool
is_kept prune heard file rs e = not (prune && goes heard file rs e)

-- the marked elements of a list
abbrev pub chosen : {A : Type 0} → List Bool → List A → List A
chosen [] xs = []
chosen (mark ∷ marks) [] = []
chosen (true ∷ marks) (x ∷ xs) = x ∷ chosen marks xs
chosen (false ∷ marks) (x ∷ xs) = chosen marks xs
