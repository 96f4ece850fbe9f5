-- The hits that the gate of a merge checks.
use Rattle.std.specs.Prelude.{ℕ, ◌+◌, length}
use Rattle.sarif_accept.specs.Adding.{is_hit, may_hit}
use Rattle.sarif_accept.specs.Choosing.{passing}
use Rattle.sarif_upkeep.specs.Merge.{records_shown, states_shown, Merge}
use Rattle.sarif_upkeep.specs.Renewed.{absent_stay}

-- how many hits there are among the current results that aren't hidden, and without a change also among absent results
abbrev pub hits_looked_at : Merge → ℕ
hits_looked_at m =
    length (passing (is_hit (may_hit m.policy) m.file) (records_shown m) (states_shown m))
    + absent_stay m
