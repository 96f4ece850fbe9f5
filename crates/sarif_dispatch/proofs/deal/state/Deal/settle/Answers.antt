use Rattle.std.proofs.Common.{◌∷◌, ◌++◌, [], length, min, sym, ap, ◌∙◌, subst, arith, length-append}
use Rattle.std.specs.Prelude.{slice_get}
use Rattle.sarif_dispatch.specs.declared.deal.rule.HandView.{HandView}
use Rattle.sarif_dispatch.specs.Claims.{times, total, once_below, Learns}
use Rattle.sarif_dispatch.specs.Hands.{IsSeatOf, drawn_by}
use Rattle.sarif_dispatch.proofs.DealSteps.{counts}
use Rattle.sarif_dispatch.proofs.HandSums.{all_drawn, all_marked}
use Rattle.sarif_dispatch.proofs.Places.{elem, slice_get_last}
use Rattle.sarif_dispatch.proofs.deal.state.Deal.settle.Goals as goal

pub load-word-requires : goal.load-word-requires
load-word-requires c = (c.take_back.ensures.all.0.table, c.args.self.word, counts c.args.self.claims.shared.key _ _ _)

-- the last hand is one of this deal
last_of : (c : goal.After-drop-self) → IsSeatOf c.args.self.claims c.in-Some.last.seat
last_of c = c.requires.each (length c.pop.new.self.items) c.in-Some.last
    (ap (λ l. slice_get l (length c.pop.new.self.items)) c.in-Some.ensures.items ∙ slice_get_last c.pop.new.self.items c.in-Some.last)

pub returns-clause-drawn : goal.returns-clause-drawn
returns-clause-drawn c = λ run.
    let rest = c.pop.new.self.items in
    let last = c.in-Some.last in
    let F : HandView → Type 0 = λ w. Learns w c.load-word.result in
    let learns = subst F c.take_back.ensures.view c.load-word.ensures.2.1 in
    let of = last_of c in
    let hands = of.hands in
    let runs = of.runs in
    let count = c.requires.count in
    let len = ap length c.in-Some.ensures.items in
    ap (total (λ h. times run (drawn_by h))) c.in-Some.ensures.items
    ∙ all_drawn rest last c.load-word.result learns (omega (arith, length-append rest (last ∷ []))) run
    ∙ ap (once_below run) (ap (min c.load-word.result) (runs ∙ c.args.self.runs_are) ∙ sym c.min.ensures)

pub returns-clause-marked : goal.returns-clause-marked
returns-clause-marked c = λ i hand at marked.
    let rest = c.pop.new.self.items in
    let last = c.in-Some.last in
    let F : HandView → Type 0 = λ w. Learns w c.load-word.result in
    let learns = subst F c.take_back.ensures.view c.load-word.ensures.2.1 in
    let runs = (last_of c).runs ∙ c.args.self.runs_are in
    let le = all_marked rest last c.load-word.result learns i hand
    (elem (rest ++ last ∷ []) i hand (ap (λ l. slice_get l i) (sym c.in-Some.ensures.items) ∙ at)) marked in
    omega (arith, c.min.ensures)
