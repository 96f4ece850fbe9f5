use Rattle.std.proofs.Common.{length, sym, ap, ◌∙◌, arith}
use Rattle.std.proofs.lemmas.Bool.{true≢false}
use Rattle.std.proofs.lemmas.List.{length_push}
use Rattle.std.specs.Option.{is_some}
use Rattle.sarif_collect.specs.Numbers.{has_number, all_from}
use Rattle.sarif_collect.proofs.Numbering.{absent, insert_next, insert_past_row, all_from_next, all_from-insert}
use Rattle.sarif_collect.proofs.numbered.Numbered.insert.Goals as goal

pub unreachable-requires : goal.unreachable-requires
unreachable-requires g c = let n = c.self.inside in let k = c.args.seq in
    let none = absent k n.row.items n.early.entries (ap (has_number k) c.self.view_is ∙ c.requires) in
    true≢false (ap is_some (sym c.in-Ok-Some.field-0-is ∙ c.in-Ok-Some.ensures.old) ∙ none.1)

pub invariant_of-self-then-seq-len : goal.invariant_of-self-then-seq-len
invariant_of-self-then-seq-len g c = let n = c.self.inside in let k = c.args.seq in
    let none = absent k n.row.items n.early.entries (ap (has_number k) c.self.view_is ∙ c.requires) in
    rw c.in_default.ensures.items
    (ap (λ m. all_from m n.early.entries) (omega (arith, length_push n.row.items c.args.body))
    ∙ all_from_next k n.early.entries (ap (λ m. all_from m n.early.entries) (omega arith) ∙ c.self.invariant) none.1)

pub returns-then-seq-len-clause-ok : goal.returns-then-seq-len-clause-ok
returns-then-seq-len-clause-ok g c = let n = c.self.inside in let k = c.args.seq in
    let none = absent k n.row.items n.early.entries (ap (has_number k) c.self.view_is ∙ c.requires) in
    rw (c.in_default.ensures.items, ← c.self.view_is)
    (sym
    (insert_next k c.args.body n.row.items n.early.entries (omega arith)
    (ap (λ m. all_from m n.early.entries) (omega arith) ∙ c.self.invariant) none.1))

pub invariant_of-self-in-Ok-None : goal.invariant_of-self-in-Ok-None
invariant_of-self-in-Ok-None g c = let n = c.self.inside in let k = c.args.seq in
    let none = absent k n.row.items n.early.entries (ap (has_number k) c.self.view_is ∙ c.requires) in
    rw c.in-Ok-None.ensures.entries (all_from-insert (length n.row.items) k c.args.body n.early.entries none.0 c.self.invariant)

pub returns-in-Ok-None-clause-ok : goal.returns-in-Ok-None-clause-ok
returns-in-Ok-None-clause-ok g c = let n = c.self.inside in let k = c.args.seq in
    let none = absent k n.row.items n.early.entries (ap (has_number k) c.self.view_is ∙ c.requires) in
    rw (c.in-Ok-None.ensures.entries, ← c.self.view_is) (sym (insert_past_row 0 k c.args.body n.row.items n.early.entries (omega (arith, none.0))))
