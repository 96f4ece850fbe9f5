-- What a written result adds to the counts of its log.
use Rattle.std.proofs.Common.{◌≡◌, Bool, ◌&&◌, Option, Some, refl, ap, ◌∙◌}
use Rattle.std.specs.Prelude.{codes, bytes_eq, option_and_then}
use Rattle.serde_json.specs.Data.{Data, string}
use Rattle.serde_json.specs.Find.{get, as_str}
use Rattle.sarif_model.specs.declared.kinds.Level.{Level}
use Rattle.sarif_model.specs.declared.kinds.Level.TheVariants.{NoLevel, Note, Warning, Error}
use Rattle.sarif_model.specs.declared.kinds.State.{State}
use Rattle.sarif_model.specs.declared.kinds.State.TheVariants.{New, Unchanged, Updated, Absent}
use Rattle.sarif_model.specs.Level.{level_name}
use Rattle.sarif_model.specs.State.{state_name}
use Rattle.sarif_counts.specs.Counts.{same_state}
use Rattle.sarif_counts.specs.Tally.{same_level, same_side}
use Rattle.sarif_model.specs.Run.{is_text}
use Rattle.sarif_counts.specs.CountOf.{carries, suppresses, suppressions_in}

-- two states have one text where they are one
pub same_state_name : (s t : State) → bytes_eq (state_name s) (state_name t) ≡ same_state s t
same_state_name New New = refl
same_state_name New Unchanged = refl
same_state_name New Updated = refl
same_state_name New Absent = refl
same_state_name Unchanged New = refl
same_state_name Unchanged Unchanged = refl
same_state_name Unchanged Updated = refl
same_state_name Unchanged Absent = refl
same_state_name Updated New = refl
same_state_name Updated Unchanged = refl
same_state_name Updated Updated = refl
same_state_name Updated Absent = refl
same_state_name Absent New = refl
same_state_name Absent Unchanged = refl
same_state_name Absent Updated = refl
same_state_name Absent Absent = refl

-- two levels have one text where they are one
pub same_level_name : (l k : Level) → bytes_eq (level_name l) (level_name k) ≡ same_level l k
same_level_name NoLevel NoLevel = refl
same_level_name NoLevel Note = refl
same_level_name NoLevel Warning = refl
same_level_name NoLevel Error = refl
same_level_name Note NoLevel = refl
same_level_name Note Note = refl
same_level_name Note Warning = refl
same_level_name Note Error = refl
same_level_name Warning NoLevel = refl
same_level_name Warning Note = refl
same_level_name Warning Warning = refl
same_level_name Warning Error = refl
same_level_name Error NoLevel = refl
same_level_name Error Note = refl
same_level_name Error Warning = refl
same_level_name Error Error = refl

-- a result that is written with this state and level counts under these, and by its own suppressions
pub carries-written : (s state : State) (l level : Level) (b : Bool) (d : Data)
    → get (codes "baselineState") d ≡ Some (string (state_name state))
    → get (codes "level") d ≡ Some (string (level_name level))
    → carries s l b d ≡ (same_state s state && (same_level l level && same_side b (suppresses (suppressions_in d))))
carries-written s state l level b d state_is level_is =
    let as_text : Option Data → Bool = λ o. is_text (state_name s) (option_and_then as_str o) in
    let as_level : Option Data → Bool = λ o. is_text (level_name l) (option_and_then as_str o) in
    let first = ap as_text state_is ∙ same_state_name s state in
    let second = ap as_level level_is ∙ same_level_name l level in
    let side = same_side b (suppresses (suppressions_in d)) in
    ap (λ t. t && (as_level (get (codes "level") d) && side)) first
    ∙ ap (λ t. same_state s state && (t && side)) second
