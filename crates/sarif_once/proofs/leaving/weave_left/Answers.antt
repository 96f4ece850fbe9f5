use Rattle.std.proofs.Common.{length, sym, ap, ◌∙◌}
use Rattle.sarif_once.specs.Once.{woven}
use Rattle.sarif_read.specs.Unmarked.{unmarked}
use Rattle.sarif_once.proofs.WovenLists.{woven_left}
use Rattle.sarif_once.proofs.leaving.weave_left.Goals as goal

pub drop_taken-requires : goal.drop_taken-requires
drop_taken-requires c = ap length (c.deref.ensures.value ∙ c.in_ok-taken_copies.ensures) ∙ sym c.requires.copied

pub returns-clause-drafts : goal.returns-clause-drafts
returns-clause-drafts c = λ all long found copied.
    let marks = c.args.marks.now in
    let taken = c.args.taken.now in
    let copies = c.deref-2.ensures.value ∙ c.in_ok-copies.ensures in
    let left =
    c.in_ok-copied.ensures
    ∙ ap (λ ts. unmarked ts c.args.copied.items) (c.deref.ensures.value ∙ c.in_ok-taken_copies.ensures)
    ∙ ap (unmarked _) copied in
    c.in_ok-drafts.ensures
    ∙ ap (λ ms. woven ms c.args.found.items c.in_ok-copied.copied.items) copies
    ∙ ap (λ xs. woven (unmarked taken marks) xs c.in_ok-copied.copied.items) found
    ∙ ap (woven (unmarked taken marks) _) left
    ∙ woven_left taken marks all c.requires.taken long
