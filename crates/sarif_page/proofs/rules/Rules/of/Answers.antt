use Rattle.std.proofs.Common.{◌≡◌, ◌+◌, ◌<◌, ◌^◌, ◌++◌, ◌∷◌, [], length, take, ap, sym, subst, ◌∙◌, arith}
use Rattle.std.specs.List.{filter}
use Rattle.std.proofs.lemmas.List.{length-map, length-take}
use Rattle.std.proofs.lemmas.List.Elements.{filter-append}
use Rattle.std.proofs.lemmas.List.Sums.{count_by-le-length, length-filter}
use Rattle.sarif_page.specs.HtmlRules.{has_rule}
use Rattle.sarif_page.specs.Internal.ByFile.{findings_in}
use Rattle.sarif_page.specs.Internal.Rules.{IsTally}
use Rattle.sarif_page.proofs.FilesMore.{refs_more}
use Rattle.sarif_page.proofs.rules.Rules.of.Goals as goal

pub loop-finding-preserved : goal.loop-finding-preserved
loop-finding-preserved c =
    let fs = c.args.findings.now in
    let i = c.loop-finding.finding-index in
    let item = c.finding-item.result in
    let seen = findings_in (take i fs) in
    let whole : filter has_rule (findings_in (take (i + 1) fs)) ≡ filter has_rule seen ++ filter has_rule (item.now ∷ []) =
    ap (filter has_rule) (refs_more fs i item c.loop-finding-test.true c.finding-item.is) ∙ filter-append has_rule seen (item.now ∷ []) in
    let few : length (filter has_rule seen) < 2 ^ 63 =
    omega (
      arith,
      length-filter has_rule seen,
      count_by-le-length has_rule seen,
      length-map (take i fs) (λ f. f.now),
      length-take i fs,
      c.loop-finding-test.true,
    ) in
    subst (λ l. IsTally l c.add.new.self) (sym whole) (c.in_ok-add.ensures (filter has_rule seen) few c.loop-finding.invariant)
