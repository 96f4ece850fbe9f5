use Rattle.std.proofs.Common.{rules, arith, ◌≡◌, ◌∙◌, ◌++◌, length, sym, ap}
use Rattle.std.proofs.lemmas.Grind.{common_steps}
use Rattle.std.proofs.lemmas.List.{append-nil}
use Rattle.sarif_diff.proofs.PiecesMore.{none_left}
use Rattle.sarif_change.proofs.OnceMore.{bytes}
use Rattle.sarif_change.proofs.once.list_parts.Goals as goal

pub returns : goal.returns
returns c =
    let none : length c.loop-rest.rest.now ≡ 0 = first_of (search rules, grind (arith, common_steps)) in
    sym (append-nil (bytes c.loop-rest.parts.items))
    ∙ (ap (λ l. bytes c.loop-rest.parts.items ++ l) (sym (none_left 47 c.loop-rest.rest.now none)) ∙ c.loop-rest.invariant)
