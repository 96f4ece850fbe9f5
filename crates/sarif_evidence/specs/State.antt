-- The state of a result, given its match in the baseline (SARIF 2.1.0, "baselineState property").
use Rattle.std.specs.Prelude.{◌≡◌, ℕ, Bool, Option, Some, None, ◌&&◌, ◌==◌, if◌then◌else◌}
use Rattle.sarif_model.specs.declared.record.Record.{Record}
use Rattle.sarif_model.specs.declared.kinds.Kind.{Kind}
use Rattle.sarif_model.specs.declared.kinds.Kind.TheVariants.{Pass, Undecided, Informational, NotApplicable, Review, Fail}
use Rattle.sarif_model.specs.Level.{severity}
use Rattle.sarif_model.specs.declared.kinds.State.{State}
use Rattle.sarif_model.specs.declared.kinds.State.TheVariants.{New, Unchanged, Updated}
use Rattle.sarif_evidence.specs.EqualParts.{place_eq, message_eq}

-- the number of each kind, in the order of their declaration
abbrev pub kind_number : Kind → ℕ
kind_number Pass = 0
kind_number Undecided = 1
kind_number Informational = 2
kind_number NotApplicable = 3
kind_number Review = 4
kind_number Fail = 5

-- whether kind, effective level, message and place are equal
abbrev pub is_unchanged : Record → Record → Bool
is_unchanged current partner =
    (kind_number current.kind == kind_number partner.kind)
    && ((severity current.level == severity partner.level)
    && (message_eq current.message partner.message && place_eq current.place partner.place))

-- the state of a current result with this match in version 2
abbrev pub state_of : Record → Option Record → State
state_of current None = New
state_of current (Some partner) = if is_unchanged current partner then Unchanged else Updated

-- kind, effective level, message and place are equal
pub record IsUnchanged (current partner : Record) : Type 0 where
  pub kind : current.kind ≡ partner.kind
  pub level : current.level ≡ partner.level
  pub message : current.message ≡ partner.message
  pub place : current.place ≡ partner.place
