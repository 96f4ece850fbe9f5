use Rattle.std.proofs.Common.{[], map, length, sym, ap, ◌∙◌, subst}
use Rattle.std.specs.Prelude.{is_none}
use Rattle.std.specs.List.{flat_map, list_all}
use Rattle.sarif_copies.specs.Copies.{copies_of, numbers_of, spread}
use Rattle.sarif_log.proofs.Limits.{records_unadmitted}
use Rattle.sarif_model.specs.Run.{results_of}
use Rattle.sarif_once.specs.Once.{marked, without_copies}
use Rattle.sarif_once.proofs.Marks.{marked_each}
use Rattle.sarif_prepare.specs.Internal.Limiting.{drafts_of, put_drafts, AreDraftsOf}
use Rattle.sarif_prepare.specs.Once.{admitted_once}
use Rattle.sarif_prepare.proofs.CopyDrafts.{as_many, found_changes}
use Rattle.sarif_prepare.proofs.LimitedLogs.{again_are, copies_many, found_records, known_records, records_many, spots_many, within}
use Rattle.sarif_prepare.proofs.Limits.{again_long, drafts_of_copies, drafts_put, none_of_all, none_of_copies, once_long}
use Rattle.sarif_prepare.proofs.limiting.changes_once.Goals as goal
use Rattle.sarif_read.specs.Unmarked.{unmarked}
use Rattle.sarif_results.specs.Internal.Judged.{placed_in}
use Rattle.sarif_runs.specs.Internal.Opened.{placed_of}
use Rattle.sarif_runs.specs.Internal.Spots.{spots_from}
use Rattle.sarif_runs.specs.Judging.{records_of, run_values}
use Rattle.sarif_suppress.specs.Limited.{all_admitted}

pub returns-then-have_no_limit : goal.returns-then-have_no_limit
returns-then-have_no_limit c =
    let file = c.args.file.now in
    let ps = placed_in c.args.judged.now in
    let rs = records_of ps in
    let found = without_copies ps in
    let none = sym (c.have_no_limit.ensures ∙ ap (list_all (λ e. is_none e.limit)) c.entries.ensures) ∙ c.if-have_no_limit.true in
    record {
      findings =
          none_of_all file (records_of found) (flat_map results_of (run_values found)) _ c.new.ensures.items c.new-then-have_no_limit.ensures.items none
          (records_unadmitted found);
      copies =
          none_of_copies file (copies_of rs) rs (flat_map results_of (run_values ps)) _ c.new-then-have_no_limit-2.ensures.items none (records_unadmitted ps);
    }

pub list_findings-requires : goal.list_findings-requires
list_findings-requires c =
    let file = c.args.file.now in
    let judged = c.args.judged.now in
    let all = c.in_ok-all.all.items in
    let known = known_records file judged c.requires.judged c.deref-2.result.now all c.deref-2.ensures.value c.in_ok-all.ensures in
    copies_many file judged c.requires.judged all c.deref-3.result.now known (c.deref-3.ensures.value ∙ c.requires.copies)

pub list_drafts-requires-clause-within : goal.list_drafts-requires-clause-within
list_drafts-requires-clause-within c =
    let spots = c.deref-9.ensures.value ∙ c.in_ok-spots.ensures ∙ ap (λ rs. spots_from 0 (map placed_of rs)) c.deref-7.ensures.value in
    within c.args.file.now c.args.judged.now c.requires.judged c.deref-8.result.now c.deref-9.result.now c.deref-8.ensures.value spots

pub list_drafts-requires-clause-records : goal.list_drafts-requires-clause-records
list_drafts-requires-clause-records c =
    let file = c.args.file.now in
    let judged = c.args.judged.now in
    let records = known_records file judged c.requires.judged c.deref.result.now c.in_ok-records.records.items c.deref.ensures.value c.in_ok-records.ensures in
    let spots = c.deref-9.ensures.value ∙ c.in_ok-spots.ensures ∙ ap (λ rs. spots_from 0 (map placed_of rs)) c.deref-7.ensures.value in
    ap length c.deref-10.ensures.value ∙ records_many file judged c.requires.judged c.in_ok-records.records.items c.deref-9.result.now records spots

pub list_drafts-requires-clause-lists : goal.list_drafts-requires-clause-lists
list_drafts-requires-clause-lists c =
    let file = c.args.file.now in
    let judged = c.args.judged.now in
    let rs = records_of (placed_in judged) in
    let all = c.in_ok-all.all.items in
    let all_known = known_records file judged c.requires.judged c.deref-2.result.now all c.deref-2.ensures.value c.in_ok-all.ensures in
    let found =
    found_records file judged c.requires.judged all c.in_ok-found.found.items all_known
    (c.in_ok-found.ensures ∙ ap (λ ms. unmarked ms all) (c.deref-3.ensures.value ∙ c.requires.copies)) in
    let admitted = c.in_ok-admitted.ensures ∙ ap (all_admitted file) (ap (map (λ r. r.now)) c.deref-4.ensures.value ∙ found) in
    let lists =
    c.in_ok-lists.ensures ∙ ap (λ ns. spread [] ns c.deref-6.result.now) (c.deref-5.ensures.value ∙ c.requires.numbers)
    ∙ ap (spread [] (numbers_of rs)) (c.deref-6.ensures.value ∙ admitted) in
    let spots = c.deref-9.ensures.value ∙ c.in_ok-spots.ensures ∙ ap (λ qs. spots_from 0 (map placed_of qs)) c.deref-7.ensures.value in
    ap length (c.deref-11.ensures.value ∙ lists) ∙ once_long file rs ∙ sym (spots_many file judged c.requires.judged) ∙ sym (ap length spots)

pub split_drafts-requires : goal.split_drafts-requires
split_drafts-requires c =
    let file = c.args.file.now in
    let judged = c.args.judged.now in
    let ps = placed_in judged in
    let rs = records_of ps in
    let ds = flat_map results_of (run_values ps) in
    let all = c.in_ok-all.all.items in
    let records = c.in_ok-records.records.items in
    let known = known_records file judged c.requires.judged c.deref.result.now records c.deref.ensures.value c.in_ok-records.ensures in
    let all_known = known_records file judged c.requires.judged c.deref-2.result.now all c.deref-2.ensures.value c.in_ok-all.ensures in
    let found =
    found_records file judged c.requires.judged all c.in_ok-found.found.items all_known
    (c.in_ok-found.ensures ∙ ap (λ ms. unmarked ms all) (c.deref-3.ensures.value ∙ c.requires.copies)) in
    let admitted = c.in_ok-admitted.ensures ∙ ap (all_admitted file) (ap (map (λ r. r.now)) c.deref-4.ensures.value ∙ found) in
    let lists =
    c.in_ok-lists.ensures ∙ ap (λ ns. spread [] ns c.deref-6.result.now) (c.deref-5.ensures.value ∙ c.requires.numbers)
    ∙ ap (spread [] (numbers_of rs)) (c.deref-6.ensures.value ∙ admitted) in
    let spots = c.deref-9.ensures.value ∙ c.in_ok-spots.ensures ∙ ap (λ qs. spots_from 0 (map placed_of qs)) c.deref-7.ensures.value in
    let again =
    again_are file judged c.requires.judged c.deref-8.result.now c.deref-9.result.now c.deref-10.result.now c.deref-11.result.now (admitted_once file rs)
    c.in_ok-drafts.drafts.items c.in_ok-drafts.ensures c.deref-8.ensures.value spots (ap (map (λ r. r.now)) c.deref-10.ensures.value ∙ known)
    (c.deref-11.ensures.value ∙ lists) in
    let many = as_many file ps c.requires.judged.faultless c.requires.judged.sources in
    ap length again ∙ again_long file rs (admitted_once file rs) ds (once_long file rs) many ∙ sym (marked_each rs)
    ∙ sym (ap length (c.deref-12.ensures.value ∙ c.requires.copies))

pub returns : goal.returns
returns c =
    let file = c.args.file.now in
    let judged = c.args.judged.now in
    let ps = placed_in judged in
    let rs = records_of ps in
    let ds = flat_map results_of (run_values ps) in
    let all = c.in_ok-all.all.items in
    let records = c.in_ok-records.records.items in
    let known = known_records file judged c.requires.judged c.deref.result.now records c.deref.ensures.value c.in_ok-records.ensures in
    let all_known = known_records file judged c.requires.judged c.deref-2.result.now all c.deref-2.ensures.value c.in_ok-all.ensures in
    let found =
    found_records file judged c.requires.judged all c.in_ok-found.found.items all_known
    (c.in_ok-found.ensures ∙ ap (λ ms. unmarked ms all) (c.deref-3.ensures.value ∙ c.requires.copies)) in
    let admitted = c.in_ok-admitted.ensures ∙ ap (all_admitted file) (ap (map (λ r. r.now)) c.deref-4.ensures.value ∙ found) in
    let lists =
    c.in_ok-lists.ensures ∙ ap (λ ns. spread [] ns c.deref-6.result.now) (c.deref-5.ensures.value ∙ c.requires.numbers)
    ∙ ap (spread [] (numbers_of rs)) (c.deref-6.ensures.value ∙ admitted) in
    let spots = c.deref-9.ensures.value ∙ c.in_ok-spots.ensures ∙ ap (λ qs. spots_from 0 (map placed_of qs)) c.deref-7.ensures.value in
    let again =
    again_are file judged c.requires.judged c.deref-8.result.now c.deref-9.result.now c.deref-10.result.now c.deref-11.result.now (admitted_once file rs)
    c.in_ok-drafts.drafts.items c.in_ok-drafts.ensures c.deref-8.ensures.value spots (ap (map (λ r. r.now)) c.deref-10.ensures.value ∙ known)
    (c.deref-11.ensures.value ∙ lists) in
    let many = as_many file ps c.requires.judged.faultless c.requires.judged.sources in
    let is =
    subst (AreDraftsOf file rs (admitted_once file rs) ds) (sym again)
    (drafts_put file rs (admitted_once file rs) ds (records_unadmitted ps) (once_long file rs) many) in
    let copies = c.deref-12.ensures.value ∙ c.requires.copies in
    let made = c.in_ok-drafts.drafts.items in
    record {
      findings =
          found_changes file ps c.requires.judged.faultless c.requires.judged.sources _ made admitted
          (c.in_ok-findings.ensures.findings ∙ ap (λ ms. unmarked ms made) copies) is;
      copies =
          ap (put_drafts (marked (copies_of rs) (drafts_of file rs ds))) (c.in_ok-findings.ensures.copies ∙ ap (λ ms. marked ms made) copies)
          ∙ drafts_of_copies file (copies_of rs) rs (admitted_once file rs) ds made is;
    }
