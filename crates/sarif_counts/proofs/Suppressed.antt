-- Whether a list of suppressions suppresses, if there is one.
use Rattle.std.proofs.Common.{◌≡◌, ◌==◌, Bool, false, List, [], ◌∷◌, map, length, refl, sym, ◌∙◌, true≢false}
use Rattle.serde_json.specs.declared.value.Value.{Value}
use Rattle.serde_json.specs.View.{view, items_of}
use Rattle.sarif_counts.specs.CountOf.{suppresses, all_accepted}

pub suppresses-not_empty : (vs : List Value) (b : Bool) → b ≡ false → b ≡ (length vs == 0)
    → all_accepted (items_of (map view vs)) ≡ suppresses (items_of (map view vs))
suppresses-not_empty [] b is empty = absurd (true≢false (sym empty ∙ is))
suppresses-not_empty (v ∷ vs) b is empty = refl
