-- Properties of shown strings, for any string of a log.
use Rattle.std.specs.Prelude.{ℕ, Bool, not, List}
use Rattle.std.specs.List.{list_all}
use Rattle.sarif_findings.specs.Shown.{is_concealed}

abbrev pub is_seen : ℕ → Bool
is_seen c = not (is_concealed c)

-- whether no character of these is a control character, or hides or steers
abbrev pub are_seen : List ℕ → Bool
are_seen cs = list_all is_seen cs
