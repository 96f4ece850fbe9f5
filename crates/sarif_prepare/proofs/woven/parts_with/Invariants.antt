use Rattle.std.proofs.Common.{◌≡◌, ◌+◌, ◌++◌, map, length, drop}
use Rattle.std.specs.List.{AllByRecursion}
use Rattle.serde_json.specs.View.{members_view}
use Rattle.sarif_log.specs.Internal.Texts.{IsWholeRun}
use Rattle.sarif_log.specs.MergedRuns.{bare}
use Rattle.sarif_results.specs.Drafts.{members_in}
use Rattle.sarif_runs.specs.Internal.Opened.{placed_of}
use Rattle.sarif_prepare.proofs.woven.parts_with.Given as goal

abbrev pub invariant-loop-run : goal.invariant-loop-run
invariant-loop-run l = record {
  counted : l.number + length l.run-iterator.rest.items ≡ length l.counts;
  members : map (λ p. members_view p.members.entries) l.all.items ++ map (λ run. bare (members_in (placed_of run).run)) l.run-iterator.rest.items
      ≡ map (λ run. bare (members_in (placed_of run).run)) l.fn.runs.items;
  results : map (λ p. p.results) l.all.items ++ drop l.number l.counts ≡ l.counts;
  whole : AllByRecursion IsWholeRun l.all.items;
}
