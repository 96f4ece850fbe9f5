use Rattle.std.proofs.Common.{◌≡◌, ◌++◌, drop}
use Rattle.sarif_entries.proofs.message_keys.add_all.Given as goal

-- the strings so far, and then those that are left
abbrev pub invariant-loop-text : goal.invariant-loop-text
invariant-loop-text l = l.key ++ drop l.text-index l.texts ≡ l.fn.key ++ l.texts
