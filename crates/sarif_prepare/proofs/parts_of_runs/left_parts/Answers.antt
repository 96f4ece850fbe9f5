use Rattle.std.proofs.Common.{rules, ◌≡◌, ◌<◌, ◌+◌, ◌++◌, ◌∷◌, [], Some, map, take, drop, get_or, length, sym, ap, ◌∙◌, subst, append_assoc, append-nil, add-one, arith}
use Rattle.std.specs.Prelude.{slice_index}
use Rattle.std.proofs.Math.Seq.{drop-cons}
use Rattle.std.proofs.lemmas.List.{length-append, length-drop, nil_from_length}
use Rattle.std.specs.List.{AllByRecursion}
use Rattle.sarif_model.specs.Run.{results_of}
use Rattle.sarif_runs.specs.Internal.Opened.{placed_of}
use Rattle.sarif_log.specs.Internal.Texts.{present_results, IsWholeRun}
use Rattle.sarif_model.specs.Run.{present}
use Rattle.sarif_prepare.specs.Internal.LeftParts.{left_count, present_counts, AreLeftParts}
use Rattle.sarif_runs.specs.Judging.{run_values}
use Rattle.sarif_prepare.proofs.RunPartsOf.{whole_more}
use Rattle.sarif_prepare.proofs.parts_of_runs.left_parts.Goals as goal

pub loop-run-preserved : goal.loop-run-preserved
loop-run-preserved c =
    let l = c.loop-run in
    let run = c.in-Some.run' in
    let left = c.next.new.self.rest.items in
    let placed = placed_of run in
    let others = map placed_of left in
    let step : l.run-iterator.rest.items ≡ run ∷ left = search rules in
    let counts = c.args.counts.now in
    let found = slice_index counts l.number in
    let parts = c.run_with.result in
    let n = length (present (results_of placed.run)) in
    let counted : drop l.number counts ≡ n ∷ present_counts others = l.invariant.counts ∙ ap (λ rs. present_counts (map placed_of rs)) step in
    let below : l.number < length counts = let long = ap length counted in omega (arith, long, length-drop l.number counts) in
    let first = sym (drop-cons counts l.number 0 below) ∙ counted in
    let count : found ≡ n = ap (λ ns. get_or ns 0 0) first in
    let all : length l.taken.now ≡ n + length (present_results (run_values others)) =
    l.invariant.taken ∙ ap (λ rs. length (present_results (run_values (map placed_of rs)))) step
    ∙ length-append (present (results_of placed.run)) (present_results (run_values others)) in
    let these = c.split_at.ensures.front ∙ ap (λ m. take m l.taken.now) count in
    let later = c.split_at.ensures.back ∙ ap (λ m. drop m l.taken.now) count in
    let results = c.run_with.ensures.results ∙ ap Some (c.count_left.ensures.count ∙ ap left_count these) in
    let pushed : c.push.new.self.items ≡ l.all.items ++ parts ∷ [] = search rules in record {
      counts = rw add-one (ap (drop 1) first);
      taken = ap length later ∙ (let rest = length-drop n l.taken.now in omega (arith, rest, all));
      whole = subst (AllByRecursion IsWholeRun) (sym pushed) (whole_more l.all.items parts l.invariant.whole c.run_with.ensures.whole);
      parts = λ more are.
          subst (λ ps. AreLeftParts (ps ++ more) c.args.taken.now (run_values (map placed_of c.args.runs.items))) (sym pushed)
          (subst (λ ps. AreLeftParts ps c.args.taken.now (run_values (map placed_of c.args.runs.items))) (sym (append_assoc l.all.items (parts ∷ []) more))
          (l.invariant.parts (parts ∷ more)
          (subst (λ rs. AreLeftParts (parts ∷ more) l.taken.now (run_values (map placed_of rs))) (sym step)
          (c.run_with.ensures.members, results, subst (λ ts. AreLeftParts more ts (run_values others)) later are))));
    }

pub returns-clause-parts : goal.returns-clause-parts
returns-clause-parts c =
    let l = c.loop-run in
    let none : l.run-iterator.rest.items ≡ [] = nil_from_length l.run-iterator.rest.items (search (rules, c.in-None.ensures.steps)) in
    subst (λ ps. AreLeftParts ps c.args.taken.now (run_values (map placed_of c.args.runs.items))) (append-nil l.all.items)
    (l.invariant.parts [] (subst (λ rs. AreLeftParts [] l.taken.now (run_values (map placed_of rs))) (sym none) tt))
