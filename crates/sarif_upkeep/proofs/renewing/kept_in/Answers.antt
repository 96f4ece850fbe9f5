use Rattle.std.proofs.Common.{◌≡◌, length, map, sym, ap, ◌∙◌}
use Rattle.std.proofs.lemmas.List.{length-map}
use Rattle.std.proofs.lemmas.Result.{IfOk-weaker}
use Rattle.sarif_results.specs.Drafts.{applied_of}
use Rattle.sarif_accept.specs.Heard.{heard_of}
use Rattle.sarif_accept.specs.Keeping.{is_kept}
use Rattle.sarif_heard.specs.Heard.{heard, tool_run}
use Rattle.sarif_upkeep.specs.Renewed.{kept_in}
use Rattle.sarif_upkeep.proofs.renewing.kept_in.Goals as goal

pub returns-clause-kept : goal.returns-clause-kept
returns-clause-kept c = λ m is.
    let file = c.args.matched.now.file.now in
    let prune = c.args.renewal.now.prune in
    let drafts = is.current.drafts ∙ ap (λ f. map (applied_of f) m.records) (sym is.file) in
    let heard_is = c.in_ok-heard.ensures ∙ ap (map tool_run) is.current.runs in
    IfOk-weaker c.kept_entries.result _ (λ kept. kept.items ≡ kept_in m c.args.renewal.now)
    (λ kept found. found ∙ ap (λ h. map (is_kept prune (heard_of h) file m.records) file.entries) heard_is
    ∙ ap (λ f. map (is_kept prune (heard m.runs) f m.records) f.entries) is.file)
    (c.kept_entries.ensures m.records (c.in_ok-marks.ensures m.records drafts))

pub returns-clause-count : goal.returns-clause-count
returns-clause-count c =
    let m = c.requires.0 in
    let is = c.requires.1 in
    let file = c.args.matched.now.file.now in
    let drafts = is.current.drafts ∙ ap (λ f. map (applied_of f) m.records) (sym is.file) in
    IfOk-weaker c.kept_entries.result _ (λ kept. length kept.items ≡ length file.entries)
    (λ kept found. ap length found ∙ length-map file.entries (is_kept c.args.renewal.now.prune (heard_of c.in_ok-heard.heard) file m.records))
    (c.kept_entries.ensures m.records (c.in_ok-marks.ensures m.records drafts))
