use Rattle.std.proofs.Common.{◌≡◌, ◌++◌, List, ℕ, true, map, sym, ap, ◌∙◌, append-nil}
use Rattle.std.specs.List.{enumerate_from}
use Rattle.sarif_collect.specs.Numbers.{counts_up}
use Rattle.sarif_collect.proofs.Numbering.{list_of}
use Rattle.sarif_collect.proofs.numbered.Numbered.into_list.Goals as goal

pub returns-clause-ok : goal.returns-clause-ok
returns-clause-ok g c = let n = c.self.inside in let loop = c.loop-body in
    let whole : counts_up 0 c.requires.0 (enumerate_from 0 n.row.items ++ n.early.entries) ≡ true =
    ap (counts_up 0 c.requires.0) c.self.view_is ∙ c.requires.1 in
    let read : loop.row.items ≡ n.row.items ++ map (λ e. e.1) n.early.entries =
    sym (append-nil loop.row.items)
    ∙ ap (λ (l : List (ℕ × g.row.T.Denot)). loop.row.items ++ map (λ e. e.1) l) (sym c.in-None.ensures.steps.0) ∙ loop.invariant.2
    ∙ (λ i. c.reserve.ensures.items i ++ map (λ e. e.1) (c.into_iter-body-iterator.ensures.into_iter_gives.0 i)) in
    sym c.self.view_is ∙ list_of c.requires.0 n.row.items n.early.entries whole ∙ ap (enumerate_from 0) (sym read)
