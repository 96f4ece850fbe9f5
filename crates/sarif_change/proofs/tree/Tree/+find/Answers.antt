use Rattle.std.proofs.Common.{rules, ◌≡◌, ◌∙◌, ◌++◌, ◌||◌, List, Option, ap, subst, sym, true, false}
use Rattle.std.specs.List.{list_any}
use Rattle.sarif_diff.specs.declared.section.Span.{Span}
use Rattle.sarif_change.specs.Internal.Keys.{opens}
use Rattle.sarif_change.specs.Internal.Files.{any_changed, found_at}
use Rattle.sarif_change.specs.Internal.Trees.{files_in, IsRight}
use Rattle.sarif_change.specs.declared.file.ChangedFile.{ChangedFile}
use Rattle.sarif_change.specs.declared.tree.Node.TheVariants.{Two}
use Rattle.sarif_change.proofs.AnyChanged.{all_added, or_none}
use Rattle.sarif_change.proofs.tree.Tree.+find.Goals as goal

pub returns-then-opens : goal.returns-then-opens
returns-then-opens t c =
    let files = c.in-Two.left.value ++ c.in-Two.right.value in
    let right : IsRight (Two c.in-Two.left c.in-Two.shared c.in-Two.right) = rw c.in-Two.is at c.self.invariant in
    let now : files ≡ c.args.self.now = ap files_in (sym c.in-Two.is) ∙ c.self.view_is in
    let opened : opens c.in-Two.shared.beginning.items c.args.key.now ≡ true =
    ap (λ b. opens b c.args.key.now) (sym c.deref-in-Two.ensures.value) ∙ (sym c.opens.ensures ∙ c.if-opens.true) in
    subst
    (λ (fs : List ChangedFile). (lines : Option Span) → any_changed lines c.push_if-then-opens.new.found.items
    ≡ (any_changed lines c.args.found.now.items || list_any (found_at c.args.key.now lines) fs)) now
    (all_added c.args.found.now.items c.push_if-then-opens.new.found.items files c.in-Two.shared c.args.key.now right.2 opened
    c.in_ok-push_if-in-Two.ensures)

pub returns-then-rules_out : goal.returns-then-rules_out
returns-then-rules_out t c lines =
    let files = c.in-Two.left.value ++ c.in-Two.right.value in
    let right : IsRight (Two c.in-Two.left c.in-Two.shared c.in-Two.right) = rw c.in-Two.is at c.self.invariant in
    let now : files ≡ c.args.self.now = ap files_in (sym c.in-Two.is) ∙ c.self.view_is in
    let beyond : opens c.in-Two.shared.beginning.items c.args.key.now ≡ false =
    ap (λ b. opens b c.args.key.now) (sym c.deref-in-Two.ensures.value) ∙ (sym c.opens.ensures ∙ c.if-opens.false) in
    let none : list_any (found_at c.args.key.now lines) files ≡ false =
    c.rules_out.ensures c.if-rules_out.true beyond files right.2 lines in
    subst
    (λ (fs : List ChangedFile). any_changed lines c.args.found.now.items
    ≡ (any_changed lines c.args.found.now.items || list_any (found_at c.args.key.now lines) fs)) now
    (or_none (any_changed lines c.args.found.now.items)
    ∙ ap (λ b. any_changed lines c.args.found.now.items || b) (sym none))
