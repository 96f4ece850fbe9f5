use Rattle.std.proofs.Common.{◌≡◌, ◌≤◌, drop, None}
use Rattle.std.specs.Option.{ForSome}
use Rattle.sarif_diff.specs.Header.{last_line, number_from}
use Rattle.sarif_diff.proofs.header.number.Given as goal

abbrev pub invariant-loop-i : goal.invariant-loop-i
invariant-loop-i l =
    (number_from l.so_far (drop l.i l.text) ≡ number_from None l.text) × ForSome l.so_far (λ n. n ≤ last_line)
