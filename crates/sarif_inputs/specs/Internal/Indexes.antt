-- The indexes of the sources of a merge.
use Rattle.std.specs.Prelude.{◌≡◌, ◌≤◌, ℕ, List, ◌++◌, map, length, Result}
use Rattle.json.specs.Token.{Token}
use Rattle.json_parts.specs.declared.indexing.IndexFault.{IndexFault}
use Rattle.sarif_inputs.specs.Internal.Together.{AreIndexed}
use Rattle.json_parts.specs.Mark.{without_mark}
use Rattle.sarif_model.specs.Limits.{most_sources}

-- indexes are those of this many logs, followed by those of the baselines
pub record AreIndexesOf (logs baselines : List (List ℕ))
    (indexes : List (Result (List Token) IndexFault)) (first : ℕ) : Type 0 where
  pub count : length logs ≡ first
  pub few_logs : length logs ≤ most_sources
  pub few_baselines : length baselines ≤ most_sources
  pub indexed : AreIndexed (map without_mark (logs ++ baselines)) indexes
