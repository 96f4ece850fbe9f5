-- The link of a rule to its first group.
use Rattle.std.proofs.Common.{◌≡◌, ◌<◌, ◌≤◌, ◌+◌, ℕ, true, List, [], ◌∷◌, length, drop, get_or, if◌then◌else◌, sym, ap, ◌∙◌}
use Rattle.std.specs.List.{list_any}
use Rattle.std.proofs.lemmas.List.{drop_more, drop_all}
use Rattle.sarif_findings.specs.declared.finding.Finding.{Finding}
use Rattle.sarif_page.specs.declared.groups.Group.{Group as Made}
use Rattle.sarif_page.specs.HtmlIndex.{first_link, group_link}
use Rattle.sarif_page.specs.HtmlRules.{is_alike}
use Rattle.sarif_page.specs.Internal.ByFile.{findings_in}
use Rattle.sarif_page.specs.Internal.Groups.{groups_in}

-- the group at hand has a row of the rule
pub linked_here : (f : Finding) (n : ℕ) (gs : List Made) (i : ℕ) (g : Made) (whole : List ℕ) → i < length gs → g ≡ get_or gs i g
    → list_any (is_alike f) (findings_in g.rows.now) ≡ true → first_link f n (groups_in (drop i gs)) ≡ whole → group_link n (findings_in g.rows.now) ≡ whole
linked_here f n gs i g whole within is found told =
    let rest : drop i gs ≡ g ∷ drop (i + 1) gs = drop_more gs i g within ∙ ap (λ x. x ∷ drop (i + 1) gs) (sym is) in
    sym (ap (λ b. if b then group_link n (findings_in g.rows.now) else first_link f (n + 1) (groups_in (drop (i + 1) gs))) found)
    ∙ ap (λ l. first_link f n (groups_in l)) (sym rest) ∙ told

-- no group has one
pub linked_none : (f : Finding) (n : ℕ) (gs : List Made) (i : ℕ) (whole : List ℕ) → length gs ≤ i → first_link f n (groups_in (drop i gs)) ≡ whole → [] ≡ whole
linked_none f n gs i whole past told = ap (λ l. first_link f n (groups_in l)) (sym (drop_all i gs past)) ∙ told
