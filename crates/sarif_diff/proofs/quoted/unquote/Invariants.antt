use Rattle.std.proofs.Common.{◌≡◌, drop}
use Rattle.sarif_diff.specs.declared.quoted.Escape.TheVariants.{Outside}
use Rattle.sarif_diff.specs.Name.{IsLow, after_front, unquoted}
use Rattle.sarif_diff.proofs.quoted.unquote.Given as goal

abbrev pub invariant-loop-i : goal.invariant-loop-i
invariant-loop-i l =
    (after_front l.name (unquoted l.escape (drop l.i l.text)) ≡ unquoted Outside l.text) × IsLow l.escape
