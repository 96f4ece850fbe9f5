use Rattle.std.proofs.Common.{◌≡◌, IsUtf8, chars}
use Rattle.std.specs.Str.Iter.{chars_rest}
use denote.Shadow.{shadow}
use denote.Text.{Utf8}
use Rattle.sarif_findings.specs.PathOf.{after_here}
use Rattle.sarif_findings.proofs.path.after_here.Given as goal

abbrev pub invariant-loop-c : goal.invariant-loop-c
invariant-loop-c l =
    shadow (Utf8 l.left) × IsUtf8 (chars_rest l.rest) × (l.left ≡ chars_rest l.rest)
    × (after_here (chars (chars_rest l.rest)) ≡ after_here (chars l.fn.path))
