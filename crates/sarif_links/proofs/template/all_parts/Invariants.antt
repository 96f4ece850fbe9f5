use Rattle.std.proofs.Common.{◌≡◌, map, drop}
use Rattle.std.specs.List.{list_all}
use Rattle.sarif_links.specs.Template.{is_part}
use Rattle.sarif_links.proofs.template.all_parts.Given as goal

abbrev pub invariant-loop-part : goal.invariant-loop-part
invariant-loop-part l = list_all is_part (map (λ part. part.now) (drop l.part-index l.parts))
    ≡ list_all is_part (map (λ part. part.now) l.parts)
