-- What is found in a result as it is written: its level, its state, and whether it is suppressed.
use Rattle.std.proofs.Common.{◌≡◌, not, Some, refl, ap, ◌∙◌}
use Rattle.std.specs.Prelude.{option_and_then}
use Rattle.serde_json.specs.Data.{object, Items, Members}
use Rattle.serde_json.specs.Find.{as_str}
use Rattle.sarif_model.specs.declared.kinds.Level.{Level}
use Rattle.sarif_model.specs.declared.kinds.Level.TheVariants.{NoLevel, Note, Warning, Error}
use Rattle.sarif_model.specs.declared.kinds.State.{State}
use Rattle.sarif_model.specs.declared.kinds.State.TheVariants.{New, Unchanged, Updated, Absent}
use Rattle.sarif_model.specs.Level.{level_name, level_named}
use Rattle.sarif_model.specs.State.{state_name, state_named}
use Rattle.sarif_counts.specs.CountOf.{items_in, suppresses}
use Rattle.sarif_findings.specs.Reported.{is_active, level_in, state_in}
use Rattle.sarif_results.specs.Annotated.{annotated_members}
use Rattle.sarif_results.proofs.AnnotatedResult.{level_found, list_found, state_found}

level_back : (level : Level) → level_named (level_name level) ≡ Some level
level_back NoLevel = refl
level_back Note = refl
level_back Warning = refl
level_back Error = refl

state_back : (state : State) → state_named (state_name state) ≡ Some state
state_back New = refl
state_back Unchanged = refl
state_back Updated = refl
state_back Absent = refl

module _ (level : Level) (state : State) (list : Items) (ms : Members) where
  pub level_told : level_in (object (annotated_members level state list ms)) ≡ Some level
  level_told = ap (λ o. option_and_then level_named (option_and_then as_str o)) (level_found level state list ms) ∙ level_back level

  pub state_told : state_in (object (annotated_members level state list ms)) ≡ Some state
  state_told = ap (λ o. option_and_then state_named (option_and_then as_str o)) (state_found level state list ms) ∙ state_back state

  pub active_told : is_active (object (annotated_members level state list ms)) ≡ not (suppresses list)
  active_told = ap (λ o. not (suppresses (items_in o))) (list_found level state list ms)
