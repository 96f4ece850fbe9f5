use Rattle.std.proofs.Common.{◌≡◌, drop}
use Rattle.sarif_links.specs.Template.{has_slash_next}
use Rattle.sarif_links.proofs.template.has_slash_next.Given as goal

abbrev pub invariant-loop-byte : goal.invariant-loop-byte
invariant-loop-byte l = has_slash_next (drop l.byte-index l.bytes) ≡ has_slash_next l.bytes
