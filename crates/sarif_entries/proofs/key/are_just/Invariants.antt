use Rattle.std.proofs.Common.{◌≡◌, ◌≤◌, map, drop, length}
use Rattle.serde_json.specs.View.{members_view}
use Rattle.sarif_entries.specs.Object.{are_just}
use Rattle.sarif_entries.proofs.key.are_just.Given as goal

-- the members so far are the strings before the remaining ones
abbrev pub invariant-loop-name : goal.invariant-loop-name
invariant-loop-name l = record {
  within : l.at ≤ length l.texts;
  told : are_just (map (λ p. (p.0.now, p.1.now)) (drop l.at l.texts)) (members_view l.name-iterator)
      ≡ are_just (map (λ p. (p.0.now, p.1.now)) l.texts) (members_view l.members.entries);
}
