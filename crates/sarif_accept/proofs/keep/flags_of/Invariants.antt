use Rattle.std.proofs.Common.{◌≡◌, ◌++◌, drop}
use Rattle.sarif_accept.specs.Internal.Flags.{flags_by}
use Rattle.sarif_accept.specs.Heard.{heard_of}
use Rattle.sarif_accept.proofs.keep.flags_of.Given as goal

-- the flags of the entries so far, and then those of the rest
abbrev pub invariant-loop-number : goal.invariant-loop-number
invariant-loop-number g l =
    l.kept.items ++ flags_by l.today l.used l.prune (heard_of l.heard) l.number (drop l.number l.entries)
    ≡ flags_by l.today l.used l.prune (heard_of l.heard) 0 l.entries
