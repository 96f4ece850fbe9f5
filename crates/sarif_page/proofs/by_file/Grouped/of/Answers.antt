use Rattle.std.proofs.Common.{take, sym, subst, arith}
use Rattle.std.proofs.lemmas.List.{take_all}
use Rattle.sarif_page.specs.Internal.ByFile.{findings_in, IsGrouped}
use Rattle.sarif_page.proofs.FilesMore.{none_grouped, refs_more}
use Rattle.sarif_page.proofs.by_file.Grouped.of.Goals as goal

pub loop-finding-init : goal.loop-finding-init
loop-finding-init c =
    none_grouped c.args.most (record { files = c.new.result; groups = c.with_hasher.result }) c.new.ensures.items c.with_hasher.ensures.len

pub loop-finding-preserved : goal.loop-finding-preserved
loop-finding-preserved c =
    let i = c.loop-finding.finding-index in
    let seen = findings_in (take i c.args.findings.now) in
    let item = c.finding-item.result in
    subst (λ l. IsGrouped c.args.most l c.add.new.self) (sym (refs_more c.args.findings.now i item c.loop-finding-test.true c.finding-item.is))
    (c.in_ok-add.ensures seen c.loop-finding.invariant)

pub returns : goal.returns
returns c =
    subst (λ l. IsGrouped c.args.most (findings_in l) c.loop-finding.grouped)
    (take_all c.loop-finding.finding-index c.args.findings.now (omega arith)) c.loop-finding.invariant
