use Rattle.std.proofs.Common.{◌≡◌, ◌++◌, map, drop, string_bytes}
use Rattle.sarif_accept.specs.Internal.Flags.{lines_by}
use Rattle.sarif_accept.proofs.Flags.{node_value}
use Rattle.sarif_accept.proofs.unused.lines_of.Given as goal

-- the lines of the entries so far, and then those of the rest
abbrev pub invariant-loop-number : goal.invariant-loop-number
invariant-loop-number l =
    string_bytes l.text ++ lines_by l.today l.used l.number (drop l.number l.entries) (map node_value (drop l.number l.nodes))
    ≡ lines_by l.today l.used 0 l.entries (map node_value l.nodes)
