use Rattle.std.proofs.Common.{map, length, sym, ap, ◌∙◌, subst}
use Rattle.std.specs.Prelude.{is_none}
use Rattle.std.specs.List.{flat_map, list_all}
use Rattle.sarif_log.proofs.Limits.{all_admitted_long, records_unadmitted}
use Rattle.sarif_model.specs.Run.{results_of}
use Rattle.sarif_prepare.specs.Internal.Limiting.{AreDraftsOf}
use Rattle.sarif_prepare.proofs.CopyDrafts.{as_many}
use Rattle.sarif_prepare.proofs.LimitedLogs.{again_are, known_records, records_many, spots_many, within}
use Rattle.sarif_prepare.proofs.Limits.{changes_made, drafts_put, none_of_all}
use Rattle.sarif_prepare.proofs.limiting.changes_of_all.Goals as goal
use Rattle.sarif_results.specs.Internal.Judged.{placed_in}
use Rattle.sarif_runs.specs.Internal.Opened.{placed_of}
use Rattle.sarif_runs.specs.Internal.Spots.{spots_from}
use Rattle.sarif_runs.specs.Judging.{records_of, run_values}
use Rattle.sarif_suppress.specs.Limited.{all_admitted}

pub returns-then-have_no_limit : goal.returns-then-have_no_limit
returns-then-have_no_limit c =
    let ps = placed_in c.args.judged.now in
    let none = sym (c.have_no_limit.ensures ∙ ap (list_all (λ e. is_none e.limit)) c.entries.ensures) ∙ c.if-have_no_limit.true in
    none_of_all c.args.file.now (records_of ps) (flat_map results_of (run_values ps)) _ c.new.ensures.items c.new-then-have_no_limit.ensures.items none
    (records_unadmitted ps)

pub list_drafts-requires-clause-within : goal.list_drafts-requires-clause-within
list_drafts-requires-clause-within c =
    let spots = c.deref-5.ensures.value ∙ c.in_ok-spots.ensures ∙ ap (λ rs. spots_from 0 (map placed_of rs)) c.deref-3.ensures.value in
    within c.args.file.now c.args.judged.now c.requires c.deref-4.result.now c.deref-5.result.now c.deref-4.ensures.value spots

pub list_drafts-requires-clause-records : goal.list_drafts-requires-clause-records
list_drafts-requires-clause-records c =
    let file = c.args.file.now in
    let judged = c.args.judged.now in
    let records = known_records file judged c.requires c.deref.result.now c.in_ok-records.records.items c.deref.ensures.value c.in_ok-records.ensures in
    let spots = c.deref-5.ensures.value ∙ c.in_ok-spots.ensures ∙ ap (λ rs. spots_from 0 (map placed_of rs)) c.deref-3.ensures.value in
    ap length c.deref-6.ensures.value ∙ records_many file judged c.requires c.in_ok-records.records.items c.deref-5.result.now records spots

pub list_drafts-requires-clause-lists : goal.list_drafts-requires-clause-lists
list_drafts-requires-clause-lists c =
    let file = c.args.file.now in
    let judged = c.args.judged.now in
    let rs = records_of (placed_in judged) in
    let records = c.in_ok-records.records.items in
    let known = known_records file judged c.requires c.deref.result.now records c.deref.ensures.value c.in_ok-records.ensures in
    let admitted = c.in_ok-admitted.ensures ∙ ap (all_admitted file) (ap (map (λ r. r.now)) c.deref-2.ensures.value ∙ known) in
    let spots = c.deref-5.ensures.value ∙ c.in_ok-spots.ensures ∙ ap (λ qs. spots_from 0 (map placed_of qs)) c.deref-3.ensures.value in
    ap length (c.deref-7.ensures.value ∙ admitted) ∙ all_admitted_long file rs ∙ sym (spots_many file judged c.requires) ∙ sym (ap length spots)

pub returns : goal.returns
returns c =
    let file = c.args.file.now in
    let judged = c.args.judged.now in
    let ps = placed_in judged in
    let rs = records_of ps in
    let ds = flat_map results_of (run_values ps) in
    let records = c.in_ok-records.records.items in
    let known = known_records file judged c.requires c.deref.result.now records c.deref.ensures.value c.in_ok-records.ensures in
    let admitted = c.in_ok-admitted.ensures ∙ ap (all_admitted file) (ap (map (λ r. r.now)) c.deref-2.ensures.value ∙ known) in
    let spots = c.deref-5.ensures.value ∙ c.in_ok-spots.ensures ∙ ap (λ qs. spots_from 0 (map placed_of qs)) c.deref-3.ensures.value in
    let again =
    again_are file judged c.requires c.deref-4.result.now c.deref-5.result.now c.deref-6.result.now c.deref-7.result.now (all_admitted file rs)
    c.in_ok-drafts.drafts.items c.in_ok-drafts.ensures c.deref-4.ensures.value spots (ap (map (λ r. r.now)) c.deref-6.ensures.value ∙ known)
    (c.deref-7.ensures.value ∙ admitted) in
    let many = as_many file ps c.requires.faultless c.requires.sources in
    changes_made file rs (all_admitted file rs) ds _ admitted
    (subst (AreDraftsOf file rs (all_admitted file rs) ds) (sym again)
    (drafts_put file rs (all_admitted file rs) ds (records_unadmitted ps) (all_admitted_long file rs) many))
    (all_admitted_long file rs)
