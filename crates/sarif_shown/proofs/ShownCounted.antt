-- The shown results and those that are not shown, counted.
use Rattle.std.proofs.Common.{◌≡◌, ◌+◌, ◌≤◌, not, List, Option, Some, None, length, ap, refl, arith}
use Rattle.std.proofs.lemmas.List.Filters.{length-filter_both}
use Rattle.serde_json.specs.Data.{Data}
use Rattle.sarif_model.specs.Run.{runs_of}
use Rattle.sarif_counts.specs.CountOf.{count_of}
use Rattle.sarif_counts.specs.Impacts.{is_hit}
use Rattle.sarif_findings.specs.declared.finding.Finding.{Finding}
use Rattle.sarif_findings.specs.declared.reporting.Reporting.{Reporting}
use Rattle.sarif_findings.specs.declared.reporting.Show.{Show}
use Rattle.sarif_findings.specs.declared.reporting.Show.TheVariants.{Hits, All}
use Rattle.sarif_options.specs.declared.policy.Policy.{Policy}
use Rattle.sarif_scope.specs.Counted.{for_reports, hits_by}
use Rattle.sarif_scope.specs.Told.{facts_by}
use Rattle.sarif_scope.specs.declared.gated.GatedChange.{GatedChange}
use Rattle.sarif_scope.proofs.HitsMore.{hits_from, left_by}
use Rattle.sarif_shown.specs.ReportedInside.{reported_by}
use Rattle.sarif_shown.specs.Unshown.{reported_told, unshown_number}
use Rattle.sarif_shown.proofs.FindingsInside.{all_inside, alone_inside, filtered_inside}

-- no more are hits than are reported
few_hits : (change : Option GatedChange) (reporting : Reporting) (log : Data)
    → length (reported_by change (record reporting { show = Hits }) log) ≤ length (reported_by change (record reporting { show = All }) log)
few_hits change reporting log =
    let all : List Finding = reported_by change (record reporting { show = All }) log in
    let parted = length-filter_both (λ f. is_hit f.impact) (λ f. not (is_hit f.impact)) (λ f. refl) all in
    let same = ap (λ (fs : List Finding). length fs) (filtered_inside reporting change log) in
    omega (arith, parted, same)

-- as many are reported as the counts and the facts say
reported_from : (change : Option GatedChange) (policy : Policy) (runs : List Data)
    → hits_by change (for_reports policy) runs ≡ reported_told (facts_by change policy runs) (count_of runs) policy
reported_from None policy runs = refl
reported_from (Some change) policy runs = left_by change runs (for_reports policy)

by_show : (change : Option GatedChange) (reporting : Reporting) (show : Show) (log : Data)
    → length (reported_by change (record reporting { show = show }) log)
    + unshown_number (facts_by change reporting.policy (runs_of log)) show (count_of (runs_of log)) reporting.policy
    ≡ length (reported_by change (record reporting { show = All }) log)
by_show change reporting All log = omega arith
by_show change reporting Hits log =
    let few = few_hits change reporting log in
    let hits = alone_inside change reporting log in
    let all = all_inside change reporting log in
    let told = hits_from change (runs_of log) reporting.policy in
    let reported = reported_from change reporting.policy (runs_of log) in
    omega (arith, few, hits, all, told, reported)

pub all_counted : (change : Option GatedChange) (reporting : Reporting) (log : Data)
    → length (reported_by change reporting log)
    + unshown_number (facts_by change reporting.policy (runs_of log)) reporting.show (count_of (runs_of log)) reporting.policy
    ≡ length (reported_by change (record reporting { show = All }) log)
all_counted change reporting log = by_show change reporting reporting.show log
