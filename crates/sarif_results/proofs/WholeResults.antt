-- A result of a run that holds no number with a fraction holds none.
use Rattle.std.proofs.Common.{◌≡◌, ℕ, zero, suc, false, List, [], ◌∷◌, get_or, refl}
use Rattle.std.proofs.lemmas.Bool.{or_parts}
use Rattle.std.specs.List.{list_any}
use Rattle.serde_json.specs.Data.{Data, null}
use Rattle.serde_json.specs.Written.{has_float}
use Rattle.sarif_model.specs.Run.{results_of, result_at}
use Rattle.sarif_results.proofs.WholeMembers.{results_whole}

one_of : (ds : List Data) (i : ℕ) → list_any has_float ds ≡ false → has_float (get_or ds i null) ≡ false
one_of [] zero none = refl
one_of [] (suc i) none = refl
one_of (d ∷ ds) zero none = (or_parts (has_float d) (list_any has_float ds) none).0
one_of (d ∷ ds) (suc i) none = one_of ds i (or_parts (has_float d) (list_any has_float ds) none).1

pub result_whole : (run : Data) (seq : ℕ) → has_float run ≡ false → has_float (result_at run seq) ≡ false
result_whole run seq whole = one_of (results_of run) seq (results_whole run whole)
