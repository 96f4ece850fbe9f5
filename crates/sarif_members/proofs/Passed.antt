-- A member that a pass comes to is read.
use Rattle.std.proofs.Common.{ℕ, List, Option, Some, None, option_map}
use Rattle.std.specs.Prelude.{IfSome}
use Rattle.std.specs.Borrow.{Bor}
use Rattle.json.specs.Token.{Token}
use Rattle.serde_json.specs.Data.{Members}
use Rattle.json_parts.specs.Indexed.{IsReadable}
use Rattle.json_parts.proofs.Walks.{StandsNamed}

pub readable_view : (n : ℕ) (ms : Members) (new : List Token) (r : Option (Bor (List ℕ) × List Token))
    → StandsNamed n ms (option_map (λ m. (m.0.now, m.1)) r) new → IfSome r (λ m. IsReadable m.1)
readable_view n ms new None h = tt
readable_view n ms new (Some m) h = h.0
