use Rattle.std.proofs.Common.{◌≡◌, ◌++◌, true, ap, sym, ◌∙◌, string_bytes, append-nil, arith}
use Rattle.std.specs.List.{list_any}
use Rattle.sarif_page.specs.HtmlIndex.{group_link}
use Rattle.sarif_page.specs.HtmlRules.{is_alike}
use Rattle.sarif_page.specs.Internal.ByFile.{findings_in}
use Rattle.sarif_page.proofs.IndexMore.{linked_here, linked_none}
use Rattle.sarif_page.proofs.html_index.push_first_link.Goals as goal

pub returns-then-has_alike : goal.returns-then-has_alike
returns-then-has_alike c =
    let g = c.group-item.result in
    let found : list_any (is_alike c.args.finding.now) (findings_in g.rows.now) ≡ true = sym c.has_alike.ensures ∙ c.if-has_alike.true in
    c.in_ok-push_group_link.ensures
    ∙ ap (λ t. t ++ group_link c.loop-group.number (findings_in g.rows.now)) c.loop-group.invariant.same
    ∙ ap (λ l. string_bytes c.args.text.now ++ l)
    (linked_here c.args.finding.now c.loop-group.number c.args.groups.now c.loop-group.group-index g _ c.loop-group-test.true c.group-item.is found c.loop-group.invariant.told)

pub returns : goal.returns
returns c =
    c.loop-group.invariant.same
    ∙ sym (append-nil (string_bytes c.args.text.now))
    ∙ ap (λ l. string_bytes c.args.text.now ++ l)
    (linked_none c.args.finding.now c.loop-group.number c.args.groups.now c.loop-group.group-index _ (omega (arith, c.loop-group-test.false)) c.loop-group.invariant.told)
