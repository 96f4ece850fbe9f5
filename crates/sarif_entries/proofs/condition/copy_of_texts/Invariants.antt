use Rattle.std.proofs.Common.{◌≡◌, ◌++◌, drop}
use Rattle.sarif_entries.proofs.condition.copy_of_texts.Given as goal

-- those so far, and then those that are left
abbrev pub invariant-loop-text : goal.invariant-loop-text
invariant-loop-text l = l.copy ++ drop l.text-index l.texts ≡ l.texts
