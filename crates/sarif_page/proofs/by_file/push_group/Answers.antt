use Rattle.std.proofs.Common.{rules, ◌≡◌, ◌++◌, [], Some, take, ap, sym, ◌∙◌, unwrap_or, bytes_eq}
use Rattle.std.specs.HashMap.{get_by}
use Rattle.sarif_page.specs.Internal.ByFile.{findings_in, group_in}
use Rattle.sarif_page.proofs.by_file.push_group.Goals as goal

pub returns-clause-rows : goal.returns-clause-rows
returns-clause-rows c =
    let file = c.args.file.now in
    let rows = c.args.rows.now.items in
    let found : get_by (λ k. bytes_eq file k.now) c.args.groups.now ≡ Some c.in-Some.group.now = search rules in
    c.in_ok-push_first.ensures.rows
    ∙ ap (λ l. take c.args.most (findings_in rows ++ findings_in l)) c.deref.ensures.value
    ∙ ap (λ o. take c.args.most (findings_in rows ++ unwrap_or (group_in o) [])) (sym found)
