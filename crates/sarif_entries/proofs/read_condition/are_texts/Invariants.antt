use Rattle.std.proofs.Common.{◌≡◌}
use Rattle.serde_json.specs.View.{members_view}
use Rattle.sarif_entries.specs.Entries.{are_texts}
use Rattle.sarif_entries.proofs.read_condition.are_texts.Given as goal

-- the members so far are strings or null
abbrev pub invariant-loop-value : goal.invariant-loop-value
invariant-loop-value l =
    are_texts (members_view l.value-iterator) ≡ are_texts (members_view l.members.entries)
