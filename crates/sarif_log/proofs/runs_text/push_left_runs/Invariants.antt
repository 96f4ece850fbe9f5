use Rattle.std.proofs.Common.{◌≡◌, ◌++◌, length, string_bytes}
use Rattle.std.specs.List.{AllByRecursion}
use Rattle.sarif_log.specs.Internal.Texts.{counts_in_parts, joined, left_texts, IsWholeRun}
use Rattle.sarif_log.proofs.runs_text.push_left_runs.Given as goal

abbrev pub invariant-loop-parts : goal.invariant-loop-parts
invariant-loop-parts l = record {
  whole : AllByRecursion IsWholeRun l.parts-iterator.rest.items;
  drafts : length l.drafts ≡ counts_in_parts l.parts-iterator.rest.items;
  states : length l.states ≡ length l.drafts;
  told : string_bytes l.text ++ joined l.later (left_texts l.parts-iterator.rest.items l.drafts l.states)
      ≡ string_bytes l.initial.text ++ joined l.initial.later (left_texts l.fn.runs.items l.initial.drafts l.initial.states);
}
