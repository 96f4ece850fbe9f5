use Rattle.std.proofs.Common.{◌≡◌, ◌≤◌, ◌+◌, map, drop}
use Rattle.json.specs.Tape.{node_token}
use Rattle.json_parts.proofs.Scanned.{scan}
use Rattle.json_parts.proofs.readable.is_readable.Given as goal

abbrev pub invariant-loop-token : goal.invariant-loop-token
invariant-loop-token l = record {
  levels : l.levels ≤ l.fn.depth + l.token-index;
  same : scan l.fn.depth (map node_token l.tokens) ≡ scan l.levels (map node_token (drop l.token-index l.tokens));
}
