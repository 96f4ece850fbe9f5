use Rattle.std.proofs.Common.{◌≡◌, ◌++◌, ℕ, List, codes, ap, ◌∙◌, option_map, string_bytes, append_assoc}
use Rattle.sarif_page.specs.HtmlGroups.{groups_from, more_begin, more_of}
use Rattle.sarif_page.specs.HtmlRows.{grouped_rows}
use Rattle.sarif_page.specs.Internal.ByFile.{findings_in}
use Rattle.sarif_page.specs.Internal.Groups.{groups_in}
use Rattle.sarif_page.proofs.html_lists.push_more.Goals as goal

in_turn : (old a b end : List ℕ) → ((old ++ a) ++ b) ++ end ≡ old ++ (a ++ (b ++ end))
in_turn old a b end = append_assoc (old ++ a) b end ∙ append_assoc old a (b ++ end)

pub returns : goal.returns
unfolding more_of
returns c =
    let old = string_bytes c.args.text.now in
    let link = option_map (λ link. link.now) c.args.link in
    let groups = groups_in c.args.groups.now in
    let begin : string_bytes c.in_ok-begin.begin ≡ more_begin (grouped_rows groups) =
    c.in_ok-begin.ensures ∙ ap (λ l. more_begin (findings_in l)) c.deref.ensures.value ∙ ap more_begin c.in_ok-rows.ensures in
    let first : string_bytes c.push_str.new.self ≡ old ++ more_begin (grouped_rows groups) =
    c.in_ok-push_str.ensures.bytes ∙ ap (λ t. old ++ t) (c.as_str.ensures.value ∙ begin) in
    c.in_ok-push_str-2.ensures.bytes
    ∙ ap (λ t. t ++ codes "</details>\n") (c.in_ok-push_groups.ensures ∙ ap (λ t. t ++ groups_from link 0 c.args.number groups) first)
    ∙ in_turn old (more_begin (grouped_rows groups)) (groups_from link 0 c.args.number groups) (codes "</details>\n")
