use Rattle.std.proofs.Common.{◌≡◌, ◌++◌, false, drop, string_bytes}
use Rattle.sarif_log.specs.Internal.Texts.{joined, texts_of}
use Rattle.sarif_log.proofs.results_text.push_results.Given as goal

abbrev pub invariant-loop-at : goal.invariant-loop-at
invariant-loop-at l =
    string_bytes l.text ++ joined l.later (texts_of (drop l.at l.drafts) (drop l.at l.states))
    ≡ string_bytes l.initial.text ++ joined false (texts_of l.drafts l.states)
