-- The files of a change by their keys.
use Rattle.std.specs.Prelude.{ℕ, Bool, true, ◌&&◌, ◌||◌, List, Option, Some, None}
use Rattle.std.specs.Borrow.{Bor}
use Rattle.std.specs.List.{list_any}
use Rattle.sarif_diff.specs.declared.section.Span.{Span}
use Rattle.sarif_change.specs.Meeting.{touches}
use Rattle.sarif_change.specs.Internal.Keys.{alike}
use Rattle.sarif_change.specs.declared.file.ChangedFile.{ChangedFile}

-- whether one of these lines changed, as `changes` says it of a section; whether the file is changed whole, and its spans
abbrev pub changed_at : Option Span → Bool × List Span → Bool
changed_at None changed = true
changed_at (Some lines) changed = changed.0 || list_any (touches lines) changed.1

-- whether a file may be the one that is looked for, and changes one of these lines
abbrev pub found_at : List ℕ → Option Span → ChangedFile → Bool
found_at key lines file = alike file.key.items key && changed_at lines file.changed

-- whether one of these changed at these lines
abbrev pub any_changed : Option Span → List (Bor (Bool × List Span)) → Bool
any_changed lines found = list_any (λ changed. changed_at lines changed.now) found
