use Rattle.std.proofs.Common.{◌≡◌, drop}
use Rattle.sarif_diff.specs.Words.{first_word}
use Rattle.sarif_diff.proofs.words.first_word.Given as goal

abbrev pub invariant-loop-word : goal.invariant-loop-word
invariant-loop-word l = first_word (drop l.word-index l.words) l.line ≡ first_word l.words l.line
