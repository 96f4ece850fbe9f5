-- The parts of runs.
use Rattle.std.proofs.Common.{◌≡◌, ℕ, true, false, List, [], ◌∷◌, ◌++◌, Option, Some, None, map, length, codes, is_some, option_map, refl, ap}
use Rattle.std.specs.List.{AllByRecursion}
use Rattle.json_parts.specs.Without.{without}
use Rattle.serde_json.specs.Data.{Data, null, boolean, number, string, array, object, Items}
use Rattle.serde_json.specs.View.{members_view}
use Rattle.serde_json.specs.Written.{has_float}
use Rattle.sarif_read.specs.Internal.Bare.{bare as beside_results}
use Rattle.sarif_model.specs.Members.{elements}
use Rattle.sarif_model.specs.Run.{elements_or_none, results_array, results_of}
use Rattle.sarif_runs.specs.declared.opened.OpenedRun.{OpenedRun}
use Rattle.sarif_runs.specs.Internal.Opened.{placed_of}
use Rattle.sarif_log.specs.declared.run_parts.RunParts.{RunParts}
use Rattle.sarif_results.specs.Drafts.{members_in}
use Rattle.sarif_log.specs.Internal.Texts.{own_count, ArePartsOf, IsWholeRun}
use Rattle.sarif_log.specs.MergedRuns.{bare}
use Rattle.sarif_results.proofs.WholeMembers.{without_whole}
use Rattle.sarif_runs.specs.Judging.{run_values}

-- a run without its results holds no number with a fraction, where the run holds none
pub beside_whole : (run : Data) → has_float run ≡ false → has_float (beside_results run) ≡ false
beside_whole null whole = refl
beside_whole (boolean b) whole = refl
beside_whole (number n) whole = whole
beside_whole (string s) whole = refl
beside_whole (array ds) whole = whole
beside_whole (object ms) whole = without_whole (codes "results") ms whole

pub beside_members : (run : Data) → without (codes "baselineGuid") (members_in (beside_results run)) ≡ bare (members_in run)
beside_members null = refl
beside_members (boolean b) = refl
beside_members (number n) = refl
beside_members (string s) = refl
beside_members (array ds) = refl
beside_members (object ms) = refl

pub some_counted : (run : Data) (n : ℕ) → true ≡ is_some (results_array run) → n ≡ length (results_of run) → Some n ≡ own_count run
some_counted run n there count = listed (results_array run) n there count where
  listed : (found : Option Items) (n : ℕ) → true ≡ is_some found → n ≡ length (elements_or_none found) → Some n ≡ option_map (λ ds. length (elements ds)) found
  listed None n there count = cc
  listed (Some ds) n there count = ap Some count

pub none_counted : (run : Data) → false ≡ is_some (results_array run) → None ≡ own_count run
none_counted run gone = listed (results_array run) gone where
  listed : (found : Option Items) → false ≡ is_some found → None ≡ option_map (λ ds. length (elements ds)) found
  listed None gone = refl
  listed (Some ds) gone = cc

-- one run more
pub parts_more : (count : Data → Option ℕ) (all : List RunParts) (runs : List Data) (p : RunParts) (run : Data)
    → ArePartsOf count all runs → members_view p.members.entries ≡ bare (members_in run) → p.results ≡ count run
    → ArePartsOf count (all ++ p ∷ []) (runs ++ run ∷ [])
parts_more count [] [] p run are members results = (members, results, tt)
parts_more count [] (r ∷ runs) p run are members results = absurd are
parts_more count (q ∷ all) [] p run are members results = absurd are
parts_more count (q ∷ all) (r ∷ runs) p run are members results = (are.0, are.1, parts_more count all runs p run are.2 members results)

pub whole_more : (all : List RunParts) (p : RunParts) → AllByRecursion IsWholeRun all → IsWholeRun p → AllByRecursion IsWholeRun (all ++ p ∷ [])
whole_more [] p are is = (is, tt)
whole_more (q ∷ all) p are is = (are.0, whole_more all p are.1 is)

pub data_more : (rs : List OpenedRun) (r : OpenedRun) → run_values (map placed_of rs) ++ (placed_of r).run ∷ [] ≡ run_values (map placed_of (rs ++ r ∷ []))
data_more [] r = refl
data_more (q ∷ rs) r = ap (λ ds. (placed_of q).run ∷ ds) (data_more rs r)
