use Rattle.std.proofs.Common.{◌≡◌, ◌≤◌, ◌++◌, ◌∷◌, [], length, take, ap, sym, ◌∙◌, append_assoc, arith}
use Rattle.std.proofs.lemmas.List.{length-map, map-append, take_all}
use Rattle.sarif_page.specs.Internal.ByFile.{findings_in}
use Rattle.sarif_page.proofs.FilesMore.{cut_full, refs_more}
use Rattle.sarif_page.proofs.by_file.push_first.Goals as goal

pub returns-then-len-most-clause-rows : goal.returns-then-len-most-clause-rows
returns-then-len-most-clause-rows c =
    let rows = c.loop-finding.rows.items in
    let full : length (findings_in rows) ≡ c.args.most = omega (arith, length-map rows (λ f. f.now)) in
    cut_full c.args.most (findings_in rows) (findings_in c.args.rows.now.items) c.args.group.now c.loop-finding.finding-index full c.loop-finding.invariant.rows

pub loop-finding-preserved : goal.loop-finding-preserved
loop-finding-preserved c =
    let rows = c.loop-finding.rows.items in
    let old = findings_in c.args.rows.now.items in
    let item = c.finding-item.result in
    let i = c.loop-finding.finding-index in
    record {
      rows =
          ap findings_in c.in_ok-push.ensures.items ∙ map-append (λ f. f.now) rows (item ∷ [])
          ∙ ap (λ l. l ++ item.now ∷ []) c.loop-finding.invariant.rows
          ∙ append_assoc old (findings_in (take i c.args.group.now)) (item.now ∷ [])
          ∙ ap (λ l. old ++ l) (sym (refs_more c.args.group.now i item c.loop-finding-test.true c.finding-item.is));
      room = omega arith;
    }

pub returns-clause-rows : goal.returns-clause-rows
returns-clause-rows c =
    let rows = c.loop-finding.rows.items in
    let old = findings_in c.args.rows.now.items in
    let whole : findings_in rows ≡ old ++ findings_in c.args.group.now =
    c.loop-finding.invariant.rows ∙ ap (λ l. old ++ findings_in l) (take_all c.loop-finding.finding-index c.args.group.now (omega arith)) in
    let small : length (findings_in rows) ≤ c.args.most = omega (arith, length-map rows (λ f. f.now), c.loop-finding.invariant.room) in
    sym (take_all c.args.most (findings_in rows) small) ∙ ap (take c.args.most) whole
