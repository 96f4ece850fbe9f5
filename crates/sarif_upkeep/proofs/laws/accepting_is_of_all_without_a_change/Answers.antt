use Rattle.std.proofs.Common.{◌+◌, length, ap, ◌∙◌}
use Rattle.std.specs.Prelude.{option_map, unwrap_or}
use Rattle.sarif_counts.specs.Hits.{count_if}
use Rattle.sarif_accept.specs.Adding.{may_hit}
use Rattle.sarif_accept.specs.Choosing.{accepted_by, added_by, alike_among, others_among}
use Rattle.sarif_upkeep.specs.Merge.{marks_by, shown_by}
use Rattle.sarif_upkeep.specs.Renewed.{absent_by, absent_hits, alike_in, current_stay, entries_added, how_of, staying_among}
use Rattle.sarif_upkeep.proofs.laws.accepting_is_of_all_without_a_change.Goals as goal

pub returns-clause-accepted : goal.returns-clause-accepted
returns-clause-accepted c = λ m none.
    ap (λ h. accepted_by (marks_by h m.chosen) (may_hit m.policy) m.file (shown_by h m.records) (shown_by h m.states)) none

pub returns-clause-added : goal.returns-clause-added
returns-clause-added c = λ m renewal none.
    ap (λ h. added_by (how_of m renewal) (marks_by h m.chosen) (may_hit m.policy) m.file (shown_by h m.records) (shown_by h m.states)) none

pub returns-clause-alike : goal.returns-clause-alike
returns-clause-alike c = λ m renewal marks none.
    ap (λ h. length (alike_among (may_hit m.policy) m.file (entries_added m renewal) marks (shown_by h m.records) (shown_by h m.states))) none

pub returns-clause-alike_told : goal.returns-clause-alike_told
returns-clause-alike_told c = λ m renewal none.
    ap (λ h. option_map (λ marks. count_if renewal.accept (alike_in m renewal marks)) (marks_by h m.chosen)) none

pub returns-clause-stay : goal.returns-clause-stay
returns-clause-stay c = λ m renewal none absent.
    ap (λ o. current_stay m renewal (marks_by m.hidden m.chosen)
    + unwrap_or o (absent_by m.hidden (absent_hits (may_hit m.policy) m.file m.known m.taken))) absent
    ∙ ap (λ h. current_stay m renewal (marks_by h m.chosen) + absent_by h (absent_hits (may_hit m.policy) m.file m.known m.taken)) none

pub returns-clause-all : goal.returns-clause-all
returns-clause-all c = λ m renewal none.
    ap (λ h. staying_among (may_hit m.policy) m.file (shown_by h m.records) (shown_by h m.states)) none

pub returns-clause-marked : goal.returns-clause-marked
returns-clause-marked c = λ m renewal marks none.
    ap (λ h. length (others_among (may_hit m.policy) m.file (entries_added m renewal) marks (shown_by h m.records) (shown_by h m.states))) none
