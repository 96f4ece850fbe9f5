use Rattle.std.specs.Prelude.{ℕ, Bool, nat_le, List, Option, Some, None, codes, bytes_eq, if◌then◌else◌}
use Rattle.sarif_model.specs.declared.kinds.Level.{Level}
use Rattle.sarif_model.specs.declared.kinds.Level.TheVariants.{NoLevel, Note, Warning, Error}

-- the text of each (SARIF 2.1.0, "level property")
abbrev pub level_name : Level → List ℕ
level_name NoLevel = codes "none"
level_name Note = codes "note"
level_name Warning = codes "warning"
level_name Error = codes "error"

-- the one whose text this is, if there is one
abbrev pub level_named : List ℕ → Option Level
level_named text =
    if bytes_eq text (level_name NoLevel) then Some NoLevel else (
    if bytes_eq text (level_name Note) then Some Note else (
    if bytes_eq text (level_name Warning) then Some Warning else (
    if bytes_eq text (level_name Error) then Some Error else (
    None))))

-- levels rise from none to error (SARIF 2.1.0, "level property")
abbrev pub severity : Level → ℕ
severity NoLevel = 0
severity Note = 1
severity Warning = 2
severity Error = 3

abbrev pub is_at_least : Level → Level → Bool
is_at_least least level = nat_le (severity least) (severity level)
