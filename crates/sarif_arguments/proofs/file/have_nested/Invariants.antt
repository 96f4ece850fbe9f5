use Rattle.std.proofs.Common.{◌≡◌, drop, map}
use Rattle.std.specs.List.{list_any}
use Rattle.sarif_arguments.specs.File.{is_nested}
use Rattle.sarif_arguments.proofs.file.have_nested.Given as goal

-- none of the lines gone through begins with `@`
abbrev pub invariant-loop-line : goal.invariant-loop-line
invariant-loop-line l =
    list_any is_nested (map (λ line. line.now) (drop l.line-index l.lines)) ≡ list_any is_nested (map (λ line. line.now) l.lines)
