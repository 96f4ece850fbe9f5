use Rattle.std.proofs.Common.{◌≡◌, ◌||◌, Option, map, drop}
use Rattle.std.specs.List.{list_any}
use Rattle.sarif_diff.specs.declared.section.Span.{Span}
use Rattle.sarif_change.specs.Internal.Files.{any_changed}
use Rattle.sarif_change.specs.Internal.Index.{is_linked}
use Rattle.sarif_change.proofs.changed.find_each_link.Given as goal

abbrev pub invariant-loop-part : goal.invariant-loop-part
invariant-loop-part l = (lines : Option Span)
    → (any_changed lines l.found.items || list_any (is_linked l.links lines) (map (λ part. part.now) (drop l.part-index l.parts)))
    ≡ (any_changed lines l.fn.found.items || list_any (is_linked l.links lines) (map (λ part. part.now) l.parts))
