use Rattle.std.proofs.Common.{rules, ◌≡◌, ◌++◌, ◌∷◌, [], sym, ap, ◌∙◌, subst, append_assoc}
use Rattle.std.proofs.lemmas.Slice.Zip.{all_zipped_more}
use Rattle.std.specs.Prelude.{Ok}
use Rattle.sarif_share.specs.Sharing.{GivesEach}
use Rattle.sarif_share.proofs.sharing.jobs_in_turn.Goals as goal

pub loop-job-preserved : goal.loop-job-preserved
loop-job-preserved g c =
    let l = c.loop-job in
    let f = c.args.one.now in
    let job = c.in-Some.job in
    let made = c.in_ok-one.field-0 in
    let left = c.next.new.self.rest.items in
    let step : l.job-iterator.rest.items ≡ job ∷ left = search rules in
    let here : g.F.Fn.post f (job, tt) (Ok made) = search rules in
    let pushed : c.push.new.self.items ≡ l.made.items ++ made ∷ [] = search rules in (
      l.invariant.0 ∙ ap (λ js. l.yielded ++ js) step ∙ sym (append_assoc l.yielded (job ∷ []) left),
      subst (λ us. GivesEach g.F.Fn f (l.yielded ++ job ∷ []) us) (sym pushed)
          (all_zipped_more (λ j u. g.F.Fn.post f (j, tt) (Ok u)) l.yielded l.made.items job made l.invariant.1 here),
    )
