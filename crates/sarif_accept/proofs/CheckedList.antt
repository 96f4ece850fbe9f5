use Rattle.std.proofs.Common.{◌≡◌, List, Option, Some, None}
use Rattle.std.specs.Prelude.{Ok}
use Rattle.serde_json.specs.Data.{Data, Items}
use Rattle.sarif_model.specs.Run.{elements_or_none}
use Rattle.sarif_entries.specs.File.{list_or}

-- the list that is checked is the one that is read
pub checked_list : (o : Option Items) (ds : List Data) → list_or o ≡ Ok ds → elements_or_none o ≡ ds
checked_list None ds is = let never : ⊥ = cc in absurd never
checked_list (Some items) ds is = cc
