use Rattle.std.proofs.Common.{◌≡◌, map, drop}
use Rattle.sarif_request.specs.Listing.{states_listed, with_named}
use Rattle.sarif_request.proofs.listing.states_of.Given as goal

-- the states so far, with the names that are left, are those of the list
abbrev pub invariant-loop-name : goal.invariant-loop-name
invariant-loop-name l = with_named l.states (map (λ name. name.now) (drop l.name-index l.name-items)) ≡ states_listed l.text
