use Rattle.std.proofs.Common.{◌≡◌, ◌++◌, drop, string_bytes}
use Rattle.sarif_page.specs.HtmlWords.{joined}
use Rattle.sarif_page.proofs.html_words.join_states.Given as goal

abbrev pub invariant-loop-number : goal.invariant-loop-number
invariant-loop-number l = string_bytes l.text ++ joined (drop l.number l.states) ≡ joined l.states
