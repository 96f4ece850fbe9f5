-- If no number of failed calls falls, their sum rises if and only if one of them does.
use Rattle.std.proofs.Common.{◌≡◌, ◌∙◌, ℕ, zero, suc, ◌+◌, ◌<◌, ◌≤◌, List, [], ◌∷◌, ◌⊎◌, inl, inr, nat_eq, length, set, get_or, refl, sym, ap, arith}
use Rattle.std.specs.Prelude.{◌↔◌}
use Rattle.std.proofs.lemmas.Bool.Decides.{nat_tests}
use Rattle.std.proofs.lemmas.List.Sums.{sum_by-cons}
use Rattle.sarif_request.specs.declared.wanted.RequestedOutput.{RequestedOutput}
use Rattle.sarif_streams.specs.declared.counted.Counted.{Counted}
use Rattle.sarif_streams.specs.declared.readers.Readers.{Readers}
use Rattle.sarif_streams.specs.Counted.{failed_calls, RisesIf}
use Rattle.sarif_streams.specs.Failing.{failed_calls_in, NoneFalls}
use Rattle.sarif_streams.specs.OptionalReader.{failed_calls_if}
use Rattle.sarif_streams.specs.WereRead.{failures, NoNumberFalls}
use Rattle.sarif_streams.proofs.ReadersRead.{none_has_fallen}
use Rattle.sarif_program.specs.Reports.{report_failures}
use Rattle.sarif_program.specs.Writing.{writer_failures, writers_in, NoWriterFalls, OneRises, ReaderRises, WriterRises}
use Rattle.sarif_program.specs.declared.writers.Writers.{Writers}

-- the numbers of the writers of reports don't fall where one of them got its text or failed
pub none_falls_to : {W : Type 0} (os ws : List (RequestedOutput (Counted W))) (i : ℕ) (d w : RequestedOutput (Counted W)) → i < length ws
    → NoneFalls (writers_in os) (writers_in ws) → failed_calls (get_or ws i d).to ≤ failed_calls w.to → NoneFalls (writers_in os) (writers_in (set ws i w))
none_falls_to [] [] i d w within none more = absurd (omega (arith, within))
none_falls_to [] (v ∷ ws) i d w within none more = absurd none
none_falls_to (o ∷ os) [] i d w within none more = absurd none
none_falls_to (o ∷ os) (v ∷ ws) zero d w within none more = (omega (arith, none.0, more), none.1)
none_falls_to (o ∷ os) (v ∷ ws) (suc i) d w within none more = (none.0, none_falls_to os ws i d w (omega (arith, within)) none.1 more)

-- nor do any at the beginning
pub no_writer_has_fallen : {W S P : Type 0} (writers : Writers W S P) → NoWriterFalls writers writers
no_writer_has_fallen writers = record { out = omega arith; reports = none_has_fallen (writers_in writers.reports.items); say = omega arith }

-- the sum over the reports is that over their writers
sum_to : {W : Type 0} (ws : List (RequestedOutput (Counted W))) → report_failures ws ≡ failed_calls_in (writers_in ws)
sum_to [] = refl
sum_to (w ∷ ws) =
    sum_by-cons (λ wanted. failed_calls wanted.to) w ws ∙ ap (λ n. failed_calls w.to + n) (sum_to ws)
    ∙ sym (sum_by-cons failed_calls w.to (writers_in ws))

none_less : {D : Type 0} (os ws : List (Counted D)) → NoneFalls os ws → failed_calls_in os ≤ failed_calls_in ws
none_less [] [] none = omega arith
none_less [] (w ∷ ws) none = absurd none
none_less (o ∷ os) [] none = absurd none
none_less (o ∷ os) (w ∷ ws) none = omega (arith, none.0, none_less os ws none.1, sum_by-cons failed_calls o os, sum_by-cons failed_calls w ws)

-- one rose, so the sum did
one_more : {D : Type 0} (os ws : List (Counted D)) → NoneFalls os ws → OneRises os ws → failed_calls_in os < failed_calls_in ws
one_more [] ws none rises = absurd rises
one_more (o ∷ os) [] none rises = absurd rises
one_more (o ∷ os) (w ∷ ws) none (inl here) = omega (arith, here, none_less os ws none.1, sum_by-cons failed_calls o os, sum_by-cons failed_calls w ws)
one_more (o ∷ os) (w ∷ ws) none (inr later) = omega (arith, none.0, one_more os ws none.1 later, sum_by-cons failed_calls o os, sum_by-cons failed_calls w ws)

-- a number that didn't fall rose, or is as it was
rose_or_same : (old new : ℕ) → old ≤ new → (old < new) ⊎ (new ≡ old)
rose_or_same zero zero more = inr refl
rose_or_same zero (suc new) more = inl (omega arith)
rose_or_same (suc old) zero more = absurd (omega (arith, more))
rose_or_same (suc old) (suc new) more = elim (rose_or_same old new (omega (arith, more))) [
  | inl less ↦ inl (omega (arith, less))
  | inr same ↦ inr (ap suc same)
]

-- the sum rose, so one did
more_one : {D : Type 0} (os ws : List (Counted D)) → NoneFalls os ws → failed_calls_in os < failed_calls_in ws → OneRises os ws
more_one [] [] none more = absurd (omega (arith, more))
more_one [] (w ∷ ws) none more = absurd none
more_one (o ∷ os) [] none more = absurd none
more_one (o ∷ os) (w ∷ ws) none more = elim (rose_or_same (failed_calls o) (failed_calls w) none.0) [
  | inl here ↦ inl here
  | inr same ↦ inr (more_one os ws none.1 (omega (arith, more, same, sum_by-cons failed_calls o os, sum_by-cons failed_calls w ws)))
]

reader_less : {R : Type 0} (old new : Readers R) → NoNumberFalls old new → failures old ≤ failures new
reader_less old new none =
    omega (arith, none_less old.logs.items new.logs.items none.logs, none_less old.baselines.items new.baselines.items none.baselines, none.suppressions, none.policy, none.diff)

writer_less : {W S P : Type 0} (old new : Writers W S P) → NoWriterFalls old new → writer_failures old ≤ writer_failures new
writer_less old new none =
    omega (
      arith,
      none.out,
      none.say,
      none_less (writers_in old.reports.items) (writers_in new.reports.items)
          none.reports,
      sum_to old.reports.items,
      sum_to new.reports.items,
    )

reader_more : {R : Type 0} (old new : Readers R) → NoNumberFalls old new → ReaderRises old new → failures old < failures new
reader_more old new none (inl log) =
    omega (arith, one_more old.logs.items new.logs.items none.logs log, none_less old.baselines.items new.baselines.items none.baselines, none.suppressions, none.policy, none.diff)
reader_more old new none (inr (inl baseline)) =
    omega (
      arith,
      none_less old.logs.items new.logs.items none.logs,
      one_more old.baselines.items new.baselines.items none.baselines
          baseline,
      none.suppressions,
      none.policy,
      none.diff,
    )
reader_more old new none (inr (inr (inl file))) =
    omega (arith, none_less old.logs.items new.logs.items none.logs, none_less old.baselines.items new.baselines.items none.baselines, file, none.policy, none.diff)
reader_more old new none (inr (inr (inr (inl policy)))) =
    omega (arith, none_less old.logs.items new.logs.items none.logs, none_less old.baselines.items new.baselines.items none.baselines, none.suppressions, policy, none.diff)
reader_more old new none (inr (inr (inr (inr diff)))) =
    omega (arith, none_less old.logs.items new.logs.items none.logs, none_less old.baselines.items new.baselines.items none.baselines, none.suppressions, none.policy, diff)

writer_more : {W S P : Type 0} (old new : Writers W S P) → NoWriterFalls old new → WriterRises old new → writer_failures old < writer_failures new
writer_more old new none (inl out) =
    omega (
      arith,
      out,
      none.say,
      none_less (writers_in old.reports.items) (writers_in new.reports.items)
          none.reports,
      sum_to old.reports.items,
      sum_to new.reports.items,
    )
writer_more old new none (inr (inl report)) =
    omega (
      arith,
      none.out,
      none.say,
      one_more (writers_in old.reports.items) (writers_in new.reports.items)
          none.reports report,
      sum_to old.reports.items,
      sum_to new.reports.items,
    )
writer_more old new none (inr (inr say)) =
    omega (
      arith,
      none.out,
      say,
      none_less (writers_in old.reports.items) (writers_in new.reports.items)
          none.reports,
      sum_to old.reports.items,
      sum_to new.reports.items,
    )

-- none rises where nothing was written
pub none_rises : {W S P : Type 0} (writers : Writers W S P) → WriterRises writers writers → ⊥
none_rises writers rises = omega (arith, writer_more writers writers (no_writer_has_fallen writers) rises)

more_reader : {R : Type 0} (old new : Readers R) → NoNumberFalls old new → failures old < failures new → ReaderRises old new
more_reader old new none more =
    let logs = none_less old.logs.items new.logs.items none.logs in
    let baselines = none_less old.baselines.items new.baselines.items none.baselines in
    elim (rose_or_same (failed_calls_in old.logs.items) (failed_calls_in new.logs.items) logs) [
      | inl log ↦ inl (more_one old.logs.items new.logs.items none.logs log)
      | inr same ↦ inr (elim (rose_or_same (failed_calls_in old.baselines.items) (failed_calls_in new.baselines.items) baselines) [
        | inl baseline ↦ inl (more_one old.baselines.items new.baselines.items none.baselines baseline)
        | inr too ↦ inr (elim (rose_or_same (failed_calls_if old.suppressions) (failed_calls_if new.suppressions) none.suppressions) [
          | inl file ↦ inl file
          | inr third ↦ inr (elim (rose_or_same (failed_calls_if old.policy) (failed_calls_if new.policy) none.policy) [
            | inl policy ↦ inl policy
            | inr fourth ↦ inr (omega (arith, more, same, too, third, fourth))
          ])
        ])
      ])
    ]

more_writer : {W S P : Type 0} (old new : Writers W S P) → NoWriterFalls old new → writer_failures old < writer_failures new → WriterRises old new
more_writer old new none more =
    let reports = none_less (writers_in old.reports.items) (writers_in new.reports.items) none.reports in
    elim (rose_or_same (failed_calls old.out) (failed_calls new.out) none.out) [
      | inl out ↦ inl out
      | inr same ↦ inr (elim (rose_or_same (failed_calls_in (writers_in old.reports.items)) (failed_calls_in (writers_in new.reports.items)) reports) [
        | inl report ↦ inl (more_one (writers_in old.reports.items) (writers_in new.reports.items) none.reports report)
        | inr too ↦ inr (omega (arith, more, same, too, sum_to old.reports.items, sum_to new.reports.items))
      ])
    ]

rose : (status old new : ℕ) → RisesIf (nat_eq status 3) old new → old < new → status ≡ 3
rose status old new rise more = grind (arith, nat_tests, rise, more)

-- the status is 3 if and only if the number of one of the readers or of the writers rose
pub exactly : {R W S P : Type 0} (status : ℕ) (readers : Readers R) (after : Readers R) (writers : Writers W S P) (done : Writers W S P)
    → RisesIf (nat_eq status 3) (failures readers + writer_failures writers) (failures after + writer_failures done)
    → NoNumberFalls readers after → NoWriterFalls writers done
    → (status ≡ 3) ↔ (ReaderRises readers after ⊎ WriterRises writers done)
exactly status readers after writers done rise read written = (
  λ three.
      let more : failures readers + writer_failures writers < failures after + writer_failures done = grind (arith, nat_tests, rise, three) in
      elim (rose_or_same (failures readers) (failures after) (reader_less readers after read)) [
        | inl reader ↦ inl (more_reader readers after read reader)
        | inr same ↦ inr (more_writer writers done written (omega (arith, more, same)))
      ],
  λ one. elim one [
    | inl reader ↦ rose status (failures readers + writer_failures writers) (failures after + writer_failures done) rise
        (omega (arith, reader_more readers after read reader, writer_less writers done written))
    | inr writer ↦ rose status (failures readers + writer_failures writers) (failures after + writer_failures done) rise
        (omega (arith, reader_less readers after read, writer_more writers done written writer))
  ],
)
