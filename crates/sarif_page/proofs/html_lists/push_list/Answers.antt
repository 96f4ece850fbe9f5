use Rattle.std.proofs.Common.{◌≡◌, take, drop, ap, sym, ◌∙◌, append_assoc}
use Rattle.std.proofs.lemmas.List.{take-map, drop-map}
use Rattle.sarif_page.specs.HtmlGroups.{list_html, most_groups}
use Rattle.sarif_page.specs.Internal.Groups.{group_in, groups_in}
use Rattle.sarif_page.proofs.html_lists.push_list.Goals as goal

pub returns : goal.returns
unfolding list_html
returns c =
    let gs = c.args.groups.now in
    let first : groups_in c.first_groups.result.now ≡ take most_groups (groups_in gs) =
    ap groups_in c.first_groups.ensures ∙ sym (take-map group_in most_groups gs) in
    let later : groups_in c.later_groups.result.now ≡ drop most_groups (groups_in gs) =
    ap groups_in c.later_groups.ensures ∙ sym (drop-map group_in most_groups gs) in
    rw (c.in_ok-push_more_groups.ensures, c.in_ok-push_groups.ensures, first, later) (simp append_assoc)
