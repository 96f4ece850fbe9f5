use Rattle.std.proofs.Common.{◌≡◌, map, option_map, take}
use Rattle.sarif_match.specs.Partners.{from_end}
use Rattle.sarif_match.proofs.matching.turned.Given as goal

abbrev pub invariant-loop-partner : goal.invariant-loop-partner
invariant-loop-partner l = l.turned_partners.items ≡ map (option_map (from_end l.count)) (take l.partner-index l.partners)
