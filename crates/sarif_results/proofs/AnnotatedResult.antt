-- What is found in an annotated result.
use Rattle.std.proofs.Common.{◌≡◌, Bool, Some, ◌&&◌, codes, ap, ◌∙◌}
use Rattle.serde_json.specs.Data.{string, array, object, Items, Members, put}
use Rattle.serde_json.specs.Find.{get_member}
use Rattle.serde_json.proofs.Views.{get_member-put, get_member-put_other}
use Rattle.sarif_model.specs.declared.kinds.Level.{Level}
use Rattle.sarif_model.specs.declared.kinds.State.{State}
use Rattle.sarif_model.specs.Level.{level_name}
use Rattle.sarif_model.specs.State.{state_name}
use Rattle.sarif_results.specs.Annotated.{annotated_members}
use Rattle.sarif_counts.specs.Counts.{same_state}
use Rattle.sarif_counts.specs.CountOf.{carries, items_in, suppresses}
use Rattle.sarif_counts.specs.Tally.{same_level, same_side}
use Rattle.sarif_counts.proofs.Carried.{carries-written}

pub state_found : (level : Level) (state : State) (list : Items) (ms : Members)
    → get_member (codes "baselineState") (annotated_members level state list ms) ≡ Some (string (state_name state))
state_found level state list ms =
    get_member-put (codes "baselineState") (string (state_name state))
    (put (codes "level") (string (level_name level)) (put (codes "suppressions") (array list) ms))

pub level_found : (level : Level) (state : State) (list : Items) (ms : Members)
    → get_member (codes "level") (annotated_members level state list ms) ≡ Some (string (level_name level))
level_found level state list ms =
    get_member-put_other (codes "level") (codes "baselineState") (string (state_name state))
    (put (codes "level") (string (level_name level)) (put (codes "suppressions") (array list) ms)) (λ e. cc)
    ∙ get_member-put (codes "level") (string (level_name level)) (put (codes "suppressions") (array list) ms)

pub list_found : (level : Level) (state : State) (list : Items) (ms : Members)
    → get_member (codes "suppressions") (annotated_members level state list ms) ≡ Some (array list)
list_found level state list ms =
    get_member-put_other (codes "suppressions") (codes "baselineState") (string (state_name state))
    (put (codes "level") (string (level_name level)) (put (codes "suppressions") (array list) ms)) (λ e. cc)
    ∙ get_member-put_other (codes "suppressions") (codes "level") (string (level_name level)) (put (codes "suppressions") (array list) ms) (λ e. cc)
    ∙ get_member-put (codes "suppressions") (array list) ms

pub carries-annotated : (s state : State) (l level : Level) (b : Bool) (list : Items) (ms : Members)
    → carries s l b (object (annotated_members level state list ms)) ≡ (same_state s state && (same_level l level && same_side b (suppresses list)))
carries-annotated s state l level b list ms =
    carries-written s state l level b (object (annotated_members level state list ms)) (state_found level state list ms) (level_found level state list ms)
    ∙ ap (λ o. same_state s state && (same_level l level && same_side b (suppresses (items_in o)))) (list_found level state list ms)
