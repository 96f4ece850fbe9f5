use Rattle.std.proofs.Common.{◌≡◌, ◌++◌, map, take, flat_map, string_bytes}
use Rattle.std.specs.Prelude.{unwrap_or}
use Rattle.sarif_links.specs.Template.{filled_part}
use Rattle.sarif_links.proofs.template.push_parts.Given as goal

abbrev pub invariant-loop-part : goal.invariant-loop-part
invariant-loop-part l = string_bytes l.text ≡ string_bytes l.initial.text
    ++ flat_map (filled_part l.path (unwrap_or l.line 1)) (map (λ part. part.now) (take l.part-index l.parts))
