use Rattle.std.specs.List.{list_any}
use Rattle.serde_json.specs.Written.{has_float}
use Rattle.std.proofs.Common.{false, subst, rules, ◌≡◌, ℕ, List, ◌++◌, [], ◌∷◌, map, sym, ap, ◌∙◌, append_assoc, arith}
use Rattle.std.proofs.lemmas.Grind.{common_steps}
use Rattle.std.proofs.lemmas.List.{map-append}
use Rattle.sarif_read.specs.Internal.Indexed.{run_of}
use Rattle.sarif_runs.specs.Placed.{Placed}
use Rattle.sarif_inputs.specs.Inputs.{placed_from, run_options}
use Rattle.sarif_inputs.specs.Internal.ReadRun.{placed_read}
use Rattle.sarif_inputs.proofs.SourceRuns.{placed_more, whole_at}
use Rattle.sarif_inputs.proofs.sources.place_runs.Goals as goal

pub loop-run-preserved : goal.loop-run-preserved
loop-run-preserved c =
    let source = c.args.source in
    let run = c.in-Some.run' in
    let vs = c.loop-run.yielded in
    let before = map placed_read c.args.all.now.items in
    let found = c.new-read.result in
    let one : ℕ → List Placed = λ n. record { source = source; number = n; options = run_options c.args.checks.now source; run = run_of run } ∷ [] in
    let rest : c.loop-run.run-iterator.rest.items ≡ run ∷ c.next.new.self.rest.items = search rules in
    record {
      parts = grind (arith, common_steps, rest);
      number = grind (arith, common_steps);
      placed =
          ap (map placed_read) c.in_ok-push.ensures.items
          ∙ map-append placed_read c.loop-run.all.items (found ∷ [])
          ∙ ap (λ p. map placed_read c.loop-run.all.items ++ p ∷ []) c.new-read.ensures.placed
          ∙ ap
          (λ o. map placed_read c.loop-run.all.items
          ++ record { source = source; number = c.loop-run.number; options = o; run = run_of run } ∷ []) c.run_options.ensures
          ∙ ap (λ ps. ps ++ one c.loop-run.number) c.loop-run.invariant.placed
          ∙ append_assoc before (placed_from c.args.checks.now source 0 (map run_of vs)) (one c.loop-run.number)
          ∙ ap (λ n. before ++ (placed_from c.args.checks.now source 0 (map run_of vs) ++ one n)) c.loop-run.invariant.number
          ∙ ap (λ ps. before ++ ps) (sym (placed_more c.args.checks.now source vs run));
    }

pub new-read-requires : goal.new-read-requires
new-read-requires c =
    let run = c.in-Some.run' in
    let later = c.next.new.self.rest.items in
    let vs = c.loop-run.yielded in
    let rest : c.loop-run.run-iterator.rest.items ≡ run ∷ later = search rules in
    let all : c.args.runs.items ≡ vs ++ run ∷ later = c.loop-run.invariant.parts ∙ ap (λ rs. vs ++ rs) rest in
    record { whole = whole_at vs run later (subst (λ rs. list_any has_float (map run_of rs) ≡ false) all c.requires.whole) }
