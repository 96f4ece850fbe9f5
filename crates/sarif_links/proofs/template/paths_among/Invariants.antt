use Rattle.std.proofs.Common.{◌≡◌, map, take}
use Rattle.std.specs.List.{count_by}
use Rattle.sarif_links.specs.Template.{is_path_part}
use Rattle.sarif_links.proofs.template.paths_among.Given as goal

abbrev pub invariant-loop-part : goal.invariant-loop-part
invariant-loop-part l = l.count ≡ count_by is_path_part (map (λ part. part.now) (take l.part-index l.parts))
