use Rattle.std.proofs.Common.{rules, arith, ◌≤◌, ◌||◌, length}
use Rattle.std.proofs.lemmas.Grind.{common_steps}
use Rattle.std.specs.List.{list_any}
use Rattle.sarif_change.specs.Internal.Files.{any_changed}
use Rattle.sarif_change.specs.Internal.Index.{is_linked}
use Rattle.sarif_change.proofs.AnyChanged.{parts_end}
use Rattle.sarif_change.proofs.OnceMore.{bytes}
use Rattle.sarif_change.proofs.changed.find_each_link.Goals as goal

pub returns : goal.returns
returns c =
    let past : length c.args.parts.now ≤ c.loop-part.part-index = first_of (search rules, grind (arith, common_steps)) in
    parts_end c.args.links.now c.loop-part.found.items c.args.parts.now c.loop-part.part-index
    (λ lines. any_changed lines c.args.found.now.items || list_any (is_linked c.args.links.now lines) (bytes c.args.parts.now))
    past c.loop-part.invariant
