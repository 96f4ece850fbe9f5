use Rattle.std.proofs.Common.{◌≡◌, inl, inr, ℕ, List, Some, ap, arith, nat_eq, refl, subst, sym, ◌∙◌, ◌+◌}
use Rattle.std.specs.Io.KnownBytes.{Appends}
use Rattle.std.specs.Prelude.{option_map}
use Rattle.sarif_counts.specs.declared.life.Life.{Life}
use Rattle.sarif_inputs.specs.Faults.{faults_of}
use Rattle.sarif_merge.specs.Given.{given_by}
use Rattle.sarif_streams.proofs.ReadersRead.{were_read_quiet}
use Rattle.sarif_merge.specs.FromReaders.{IsMergedWith, IsTooLargeWith}
use Rattle.sarif_model.specs.FirstFault.{first}
use Rattle.sarif_request.specs.declared.wanted.RequestedOutput.{RequestedOutput}
use Rattle.sarif_streams.specs.declared.counted.Counted.{Counted}
use Rattle.sarif_streams.specs.Counted.{inner_of, RisesIf}
use Rattle.sarif_streams.specs.WereRead.{failures}
use Rattle.sarif_program.specs.Lost.{Held}
use Rattle.sarif_program.specs.Notes.{AreNoted}
use Rattle.sarif_program.specs.Reports.{report_for, reporting_for, texts_for}
use Rattle.sarif_program.specs.Writing.{writer_failures}
use Rattle.sarif_program.proofs.Quiet.{low_status, quiet_status, no_rise, refused_rise}
use Rattle.sarif_program.proofs.Lost.{lost_with, none_found}
use Rattle.sarif_program.proofs.Rising.{exactly, no_writer_has_fallen, none_rises}
use Rattle.sarif_program.proofs.SameFacts.{no_copies, no_lines}
use Rattle.sarif_program.proofs.run.run_request.Goals as goal

pub returns-in-Ok-clause-accepted : goal.returns-in-Ok-clause-accepted
returns-in-Ok-clause-accepted g c = λ low.
    let merged = c.in-Ok.merged in
    let request = c.args.request.now in
    let old = c.args.writers.now in
    let new = c.accept.new.writers in
    let same = c.as_slice.ensures.value in (
      merged,
      record {
        verdict = c.accept.ensures.status low;
        from = subst (λ (writers : List (RequestedOutput (Counted g.row.P.Denot))). IsMergedWith g.R.Read.remaining c.args.readers.now c.merge_for.new.readers
            request.options (reporting_for request writers) request.choice (Some request.upkeep) merged) same c.in-Ok.ensures.merged;
        log = c.accept.ensures.written low;
        reports = c.accept.ensures.reported low (report_for request merged)
            (subst (λ (writers : List (RequestedOutput (Counted g.row.P.Denot))). c.in-Ok.texts.reports.items
            ≡ texts_for writers (report_for request merged)) same c.in-Ok.ensures.reports);
        summary = subst (λ (text : List ℕ). Appends (g.S.Write.contents (inner_of old.say)) (g.S.Write.contents (inner_of new.say)) text)
            c.in-Ok.ensures.summary (c.accept.ensures.said low);
        noted = subst (λ (lines : List ℕ). AreNoted g.E.Write.contents lines c.args.complaints.now c.accept.new.complaints)
            c.in-Ok.ensures.lines (c.accept.ensures.noted low);
      },
    )

pub returns-in-Err-clause-accepted : goal.returns-in-Err-clause-accepted
returns-in-Err-clause-accepted g c = λ low. absurd (low_status c.in-Err.fault.cause c.refuse.result c.refuse.ensures.status low)

pub returns-in-Ok-clause-exactly : goal.returns-in-Ok-clause-exactly
returns-in-Ok-clause-exactly g c =
    let read = c.in-Ok.ensures.read_failed in
    let before = failures c.args.readers.now in
    let after = failures c.merge_for.new.readers in
    let rise : RisesIf (nat_eq c.accept.result 3) (before + writer_failures c.args.writers.now) (after + writer_failures c.accept.new.writers) =
    omega (arith, read, c.accept.ensures.failed) in
    exactly c.accept.result c.args.readers.now c.merge_for.new.readers c.args.writers.now c.accept.new.writers rise c.in-Ok.ensures.risen c.accept.ensures.risen

pub returns-in-Err-clause-failed : goal.returns-in-Err-clause-failed
returns-in-Err-clause-failed g c =
    let before = failures c.args.readers.now in
    let after = failures c.merge_for.new.readers in
    let written = writer_failures c.args.writers.now in
    subst (λ status. RisesIf (nat_eq status 3) (before + written) (after + written)) (sym c.refuse.ensures.status)
    (refused_rise c.in-Err.fault.cause before after written c.in-Err.ensures.unwritten c.in-Err.ensures.read_failed)

pub returns-in-Err-clause-exactly : goal.returns-in-Err-clause-exactly
returns-in-Err-clause-exactly g c =
    let before = failures c.args.readers.now in
    let after = failures c.merge_for.new.readers in
    let writers = c.args.writers.now in
    let rise = refused_rise c.in-Err.fault.cause before after (writer_failures writers) c.in-Err.ensures.unwritten c.in-Err.ensures.read_failed in
    exactly c.refuse.result c.args.readers.now c.merge_for.new.readers writers writers
    (subst (λ status. RisesIf (nat_eq status 3) (before + writer_failures writers) (after + writer_failures writers)) (sym c.refuse.ensures.status) rise)
    c.in-Err.ensures.risen (no_writer_has_fallen writers)

pub returns-in-Ok-clause-rejected : goal.returns-in-Ok-clause-rejected
returns-in-Ok-clause-rejected g c = λ which. elim which [
  | inl two ↦ absurd (c.accept.ensures.decided two)
  | inr more ↦ absurd (omega (arith, more, c.in-Ok.ensures.read_failed))
]

pub returns-in-Err-clause-rejected : goal.returns-in-Err-clause-rejected
returns-in-Err-clause-rejected g c = λ which. (
  c.in-Err.fault,
  record {
    refused = c.in-Err.ensures.refused;
    exits = c.refuse.ensures.status;
    said = c.refuse.ensures.told;
  },
)

pub returns-in-Err-clause-risen : goal.returns-in-Err-clause-risen
returns-in-Err-clause-risen g c = (c.in-Err.ensures.risen, no_writer_has_fallen c.args.writers.now)

pub returns-in-Ok-clause-lost : goal.returns-in-Ok-clause-lost
returns-in-Ok-clause-lost g c = λ rises.
    let merged = c.in-Ok.merged in
    let request = c.args.request.now in
    let old = c.args.writers.now in
    let new = c.accept.new.writers in
    let before = failures c.args.readers.now in
    let after = failures c.merge_for.new.readers in
    let rise : RisesIf (nat_eq c.accept.result 3) (before + writer_failures old) (after + writer_failures new) =
    omega (arith, c.in-Ok.ensures.read_failed, c.accept.ensures.failed) in
    let one = exactly c.accept.result c.args.readers.now c.merge_for.new.readers old new rise c.in-Ok.ensures.risen c.accept.ensures.risen in
    let same = c.as_slice.ensures.value in
    let texts =
    subst (λ (writers : List (RequestedOutput (Counted g.row.P.Denot))). c.in-Ok.texts.reports.items
    ≡ texts_for writers (report_for request merged)) same c.in-Ok.ensures.reports in
    let held : Held g.row.W.Denot g.row.S.Denot g.row.P.Denot g.row.E.Denot =
    record { log = g.W.Write.contents; report = g.P.Write.contents; summary = g.S.Write.contents; messages = g.E.Write.contents } in
    let said = c.accept.ensures.lost (one.1 (inr rises)) (report_for request merged) texts in (
      merged,
      subst (λ (writers : List (RequestedOutput (Counted g.row.P.Denot))). IsMergedWith g.R.Read.remaining c.args.readers.now c.merge_for.new.readers
          request.options (reporting_for request writers) request.choice (Some request.upkeep) merged) same c.in-Ok.ensures.merged,
      lost_with held merged.log (report_for request merged)
          old new c.args.complaints.now c.accept.new.complaints _ _ _ _ c.in-Ok.ensures.lines c.in-Ok.ensures.summary said,
    )

pub returns-in-Err-clause-lost : goal.returns-in-Err-clause-lost
returns-in-Err-clause-lost g c = λ rises. absurd (none_rises c.args.writers.now rises)

pub returns-in-Ok-clause-untouched : goal.returns-in-Ok-clause-untouched
returns-in-Ok-clause-untouched g c = λ which. elim which [
  | inl two ↦ absurd (c.accept.ensures.decided two)
  | inr more ↦ absurd (omega (arith, more, c.in-Ok.ensures.read_failed))
]

pub returns-in-Err-clause-untouched : goal.returns-in-Err-clause-untouched
returns-in-Err-clause-untouched g c = λ which. refl

pub returns-in-Ok-clause-quiet : goal.returns-in-Ok-clause-quiet
returns-in-Ok-clause-quiet g c = λ low. record {
  last = (c.accept.ensures.noted low).last;
  silent = λ unrenewed unknown counted plain.
      let is = c.in-Ok.ensures.merged.3.is in
      let inputs = given_by c.in-Ok.ensures.merged.0 c.args.request.now.options in
      let copies = no_copies inputs c.in-Ok.merged.copies c.in-Ok.ensures.merged.2.copies counted in
      let none = no_lines c.args.request.now c.in-Ok.merged (ap (λ (life : Life). life.suppressions) is ∙ ap (option_map _) unrenewed)
      (ap (λ (life : Life). life.known) is ∙ ap (option_map _) unknown) copies plain in
      (c.accept.ensures.noted low).none (c.in-Ok.ensures.lines ∙ none);
}

pub returns-in-Err-clause-quiet : goal.returns-in-Err-clause-quiet
returns-in-Err-clause-quiet g c = λ low. absurd (low_status c.in-Err.fault.cause c.refuse.result c.refuse.ensures.status low)

-- what was read has no errors, and nothing that was requested for later merges is too large
pub returns-in-Ok-clause-faulty : goal.returns-in-Ok-clause-faulty
returns-in-Ok-clause-faulty g c = λ were.
    let request = c.args.request.now in
    let from = c.in-Ok.ensures.merged in
    let same = c.sources_are_read_in_one_way.ensures _ _ were.0 from.0 were.1 were.2 from.1 in
    elim were.3 [
      | inl faulty ↦ absurd (faulty (ap (λ x. faults_of (given_by x request.options)) same ∙ from.2.faultless))
      | inr large ↦
          let is : IsTooLargeWith from.0 request.options request.choice (Some request.upkeep) large.0 =
          subst (λ x. IsTooLargeWith x request.options request.choice (Some request.upkeep) large.0) same large.1 in
          absurd (none_found large.0 (sym (ap first from.3.faultless) ∙ is))
    ]

pub returns-in-Err-clause-faulty : goal.returns-in-Err-clause-faulty
returns-in-Err-clause-faulty g c = λ were.
    let calm = were_read_quiet g.R.Read.remaining _ _ were.0 were.2 in
    c.refuse.ensures.status
    ∙ quiet_status c.in-Err.fault.cause (no_rise _ _ _ c.in-Err.ensures.read_failed calm) c.in-Err.ensures.unwritten
