use Rattle.std.proofs.Common.{rules, ◌≡◌, ◌<◌, ◌+◌, ◌++◌, ◌∷◌, [], None, map, drop, length, sym, ap, ◌∙◌, subst, append_assoc, append-nil, arith}
use Rattle.std.proofs.lemmas.List.{drop_all, drop_more, map-append, nil_from_length}
use Rattle.std.specs.List.{AllByRecursion}
use Rattle.serde_json.specs.View.{members_view}
use Rattle.sarif_log.specs.Internal.Texts.{IsWholeRun}
use Rattle.sarif_log.specs.MergedRuns.{bare}
use Rattle.sarif_log.specs.declared.run_parts.RunParts.{RunParts}
use Rattle.sarif_results.specs.Drafts.{members_in}
use Rattle.sarif_runs.specs.declared.opened.OpenedRun.{OpenedRun}
use Rattle.sarif_runs.specs.Internal.Opened.{placed_of}
use Rattle.sarif_prepare.proofs.RunPartsOf.{whole_more}
use Rattle.sarif_prepare.proofs.woven.parts_with.Goals as goal

pub loop-run-preserved : goal.loop-run-preserved
loop-run-preserved c =
    let l = c.loop-run in
    let run = c.in-Some.run' in
    let counts = c.args.counts.now in
    let left = c.next.new.self.rest.items in
    let step : l.run-iterator.rest.items ≡ run ∷ left = search rules in
    let many = ap length step in
    let counted = l.invariant.counted in
    let below : l.number < length counts = omega (arith, many, counted) in
    let parts = c.run_with.result in
    let made = c.run_with.ensures in
    let pushed : c.push.new.self.items ≡ l.all.items ++ parts ∷ [] = search rules in
    let shown = λ (p : RunParts). members_view p.members.entries in
    let own = λ (r : OpenedRun). bare (members_in (placed_of r).run) in
    let number = λ (p : RunParts). p.results in
    let later = drop (l.number + 1) counts in
    record {
      counted = omega (arith, many, counted);
      members =
          ap (λ ps. map shown ps ++ map own left) pushed
          ∙ ap (λ ms. ms ++ map own left) (map-append shown l.all.items (parts ∷ []))
          ∙ append_assoc (map shown l.all.items) (shown parts ∷ []) (map own left)
          ∙ ap (λ m. map shown l.all.items ++ (m ∷ map own left)) made.members
          ∙ sym (ap (λ rs. map shown l.all.items ++ map own rs) step)
          ∙ l.invariant.members;
      results =
          ap (λ ps. map number ps ++ later) pushed
          ∙ ap (λ ns. ns ++ later) (map-append number l.all.items (parts ∷ []))
          ∙ append_assoc (map number l.all.items) (number parts ∷ []) later
          ∙ ap (λ n. map number l.all.items ++ (n ∷ later)) (made.results ∙ c.count_at.ensures)
          ∙ ap (λ ns. map number l.all.items ++ ns) (sym (drop_more counts l.number None below))
          ∙ l.invariant.results;
      whole = subst (AllByRecursion IsWholeRun) (sym pushed) (whole_more l.all.items parts l.invariant.whole made.whole);
    }

pub returns-clause-members : goal.returns-clause-members
returns-clause-members c =
    let l = c.loop-run in
    let own = λ (r : OpenedRun). bare (members_in (placed_of r).run) in
    let shown = map (λ (p : RunParts). members_view p.members.entries) l.all.items in
    let none : l.run-iterator.rest.items ≡ [] = nil_from_length l.run-iterator.rest.items (search (rules, c.in-None.ensures.steps)) in
    sym (append-nil shown) ∙ sym (ap (λ rs. shown ++ map own rs) none) ∙ l.invariant.members

pub returns-clause-results : goal.returns-clause-results
returns-clause-results c =
    let l = c.loop-run in
    let counts = c.args.counts.now in
    let none : l.run-iterator.rest.items ≡ [] = nil_from_length l.run-iterator.rest.items (search (rules, c.in-None.ensures.steps)) in
    let count = ap length none in
    let counted = l.invariant.counted in
    let end : drop l.number counts ≡ [] = drop_all l.number counts (omega (arith, count, counted)) in
    sym (append-nil (map (λ (p : RunParts). p.results) l.all.items))
    ∙ ap (λ ns. map (λ (p : RunParts). p.results) l.all.items ++ ns) (sym end) ∙ l.invariant.results
