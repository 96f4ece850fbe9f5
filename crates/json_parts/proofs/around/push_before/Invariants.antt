use Rattle.std.proofs.Common.{◌≡◌, ◌++◌, false, length, string_bytes}
use Rattle.serde_json.specs.View.{members_view}
use Rattle.serde_json.specs.Written.{members_have_float}
use Rattle.json_parts.specs.Internal.Around.{texts_before, members_after}
use Rattle.json_parts.proofs.around.push_before.Given as goal

abbrev pub invariant-loop-alloc : goal.invariant-loop-alloc
invariant-loop-alloc l = record {
  whole : members_have_float (members_view l.members.entries) ≡ false;
  added : string_bytes l.text ++ texts_before l.name (members_view l.members.entries)
      ≡ string_bytes l.initial.text ++ texts_before l.name (members_view l.initial.members.entries);
  left : members_after l.name (members_view l.members.entries) ≡ members_after l.name (members_view l.initial.members.entries);
}

abbrev pub decreases-loop-alloc : goal.decreases-loop-alloc
decreases-loop-alloc l = length l.members.entries
