-- JSON is lost if a prefix of it is too long.
use Rattle.std.proofs.Common.{◌≡◌, List, ◌++◌, length, inl, inr, ◌<◌}
use Rattle.json.specs.Layout.{pretty}
use Rattle.json.specs.Token.{Token}
use Rattle.sarif_model.specs.declared.merge_fault.MergeFault.{MergeFault}
use Rattle.sarif_model.specs.Limits.{most_bytes}
use Rattle.sarif_known.specs.KnownLog.{too_long, IsLost}
use Rattle.sarif_known.proofs.Lengths.{longer}

-- if the first tokens are too long as JSON, all tokens are
pub front_lost : (front rest whole : List Token) (fault : MergeFault) → front ++ rest ≡ whole → fault ≡ too_long
    → most_bytes < length (pretty front) → IsLost (pretty whole) fault
front_lost front rest whole fault is why long = inr (why, longer most_bytes front rest whole is long)

-- if the JSON of the first tokens is lost, all of it is
pub part_lost : (front rest whole : List Token) (fault : MergeFault) → front ++ rest ≡ whole → IsLost (pretty front) fault → IsLost (pretty whole) fault
part_lost front rest whole fault is (inl memory) = inl memory
part_lost front rest whole fault is (inr lost) = inr (lost.0, longer most_bytes front rest whole is lost.1)
