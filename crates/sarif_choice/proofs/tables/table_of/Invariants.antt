use Rattle.std.proofs.Common.{take}
use Rattle.sarif_choice.specs.Internal.Tables.{HasTexts}
use Rattle.sarif_choice.proofs.tables.table_of.Given as goal

-- the strings so far
abbrev pub invariant-loop-text : goal.invariant-loop-text
invariant-loop-text l = HasTexts l.table (take l.text-index l.texts)
