-- Which current results become known, said by what each one is.
use Rattle.std.specs.Prelude.{◌≡◌, ◌⊎◌, Bool, true, false}
use Rattle.sarif_model.specs.declared.record.Record.{Record}
use Rattle.sarif_model.specs.declared.kinds.State.TheVariants.{New}
use Rattle.sarif_options.specs.declared.policy.Policy.{Policy}
use Rattle.sarif_entries.specs.File.{File}
use Rattle.sarif_suppress.specs.Suppressing.{is_suppressed, lasting}
use Rattle.sarif_known.specs.Selected.{would_hit}
use Rattle.sarif_known.specs.declared.standing.Standing.{Standing}

-- suppressed, but only by entries that have an expiry date
pub record IsSuppressedForNow (file : File) (r : Record) : Type 0 where
  pub now : is_suppressed file r ≡ true
  pub later : is_suppressed (lasting file) r ≡ false

-- new results aren't adopted, and this one, which is new or doubtful, is suppressed, or is or would be a hit
pub record IsNewAndStops (file : File) (policy : Policy) (adopt : Bool) (r : Record)
    (standing : Standing) : Type 0 where
  pub adopted : adopt ≡ false
  pub fresh : (standing.state ≡ New) ⊎ (standing.doubtful ≡ true)
  pub stops : (is_suppressed file r ≡ true) ⊎ (would_hit policy r standing ≡ true)

-- the result doesn't become known
abbrev pub StaysOut : File → Policy → Bool → Record → Standing → Type 0
StaysOut file policy adopt r standing =
    IsSuppressedForNow file r ⊎ IsNewAndStops file policy adopt r standing
