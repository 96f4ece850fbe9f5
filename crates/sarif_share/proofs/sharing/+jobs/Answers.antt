use Rattle.std.proofs.Common.{◌/◌}
use Rattle.std.proofs.lemmas.Result.{IfOk-at_ok}
use Rattle.std.specs.Prelude.{Ok}
use Rattle.sarif_share.specs.Sharing.{GivesEach}
use Rattle.sarif_share.proofs.Sharings.{cut_zipped}
use Rattle.sarif_share.proofs.sharing.+jobs.Goals as goal

pub returns : goal.returns
returns g t c =
    let one = c.args.one.now in
    let cut = c.in_ok-later.ensures in
    let low = c.split_off.new.self.items in
    let high = c.in_ok-later.later.items in
    cut_zipped (λ j u. g.F.Fn.post one (j, tt) (Ok u)) (c.len-2.result / 2) c.args.jobs.items low high c.in_ok-made.made.items c.in_ok-rest.rest.items _
    cut.items cut.tail c.in_ok-append.ensures.items
    (IfOk-at_ok (λ v. GivesEach g.F.Fn one low v.items) c.in_ok-made.was c.join-first.ensures.first)
    (IfOk-at_ok (λ v. GivesEach g.F.Fn one high v.items) c.in_ok-rest.was c.join-first.ensures.second)
