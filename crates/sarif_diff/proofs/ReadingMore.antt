-- A diff, line by line, as a loop reads it.
use Rattle.std.proofs.Common.{◌≡◌, ℕ, ◌+◌, List, ◌∷◌, length, Option, Ok, Err, refl, if◌then◌else◌}
use Rattle.sarif_diff.specs.Lines.{lines_of}
use Rattle.sarif_diff.specs.Reading.{change_from, next_line, ended, change, adds}
use Rattle.sarif_diff.specs.declared.draft.SectionDraft.{SectionDraft}
use Rattle.sarif_diff.specs.declared.fault.DiffFault.{DiffFault}
use Rattle.sarif_diff.specs.declared.reading.Reading.{Reading}
use Rattle.sarif_diff.proofs.PiecesMore.{none_left}

module _ (number added : ℕ) (r : Reading) (draft : Option SectionDraft) (rest line after : List ℕ) where
  pub goes : (next : Reading) (left : Option SectionDraft) → lines_of rest ≡ line ∷ lines_of after
      → next_line (record { number = number; bytes = line; rest = lines_of after }) r draft ≡ Ok (next, left)
      → change_from (number + 1) (if adds draft line then added + 1 else added) next left (lines_of after) ≡ change_from number added r draft (lines_of rest)
  unfolding change_from
  goes next left cut read = rw (cut, read) refl

  pub stops : (fault : DiffFault) → lines_of rest ≡ line ∷ lines_of after
      → next_line (record { number = number; bytes = line; rest = lines_of after }) r draft ≡ Err fault
      → change_from number added r draft (lines_of rest) ≡ Err fault
  unfolding change_from
  stops fault cut read = rw (cut, read) refl

module _ (number added : ℕ) (r : Reading) (draft : Option SectionDraft) (rest : List ℕ) where
  pub at_end : (next : Reading) → length rest ≡ 0 → ended number r draft ≡ Ok next
      → change_from number added r draft (lines_of rest) ≡ change added next
  unfolding change_from
  at_end next none last = rw (none_left 10 rest none, last) refl

  pub at_end_stops : (fault : DiffFault) → length rest ≡ 0 → ended number r draft ≡ Err fault
      → change_from number added r draft (lines_of rest) ≡ Err fault
  unfolding change_from
  at_end_stops fault none last = rw (none_left 10 rest none, last) refl
