use Rattle.std.proofs.Common.{◌≡◌, ◌≤◌, ◌++◌, drop, flat_map, string_bytes}
use Rattle.std.specs.List.{slice_range}
use Rattle.std.specs.Str.{IsCharBoundary}
use Rattle.sarif_shown.specs.Internal.EscapedBytes.{escaped_byte}
use Rattle.sarif_shown.proofs.escaping.Escaping.push_replaced.Given as goal

abbrev pub invariant-loop-i : goal.invariant-loop-i
invariant-loop-i l = record {
  front : l.added ≤ l.i;
  cut : IsCharBoundary l.fn.plain l.added;
  written : string_bytes l.text ++ (slice_range l.fn.plain l.added l.i ++ flat_map (escaped_byte l.fn.self) (drop l.i l.fn.plain))
      ≡ string_bytes l.fn.text ++ flat_map (escaped_byte l.fn.self) l.fn.plain;
}
