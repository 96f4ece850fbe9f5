-- Without a policy no result stops the change by what it does to the gate, so the hits are listed by level alone.
use Rattle.std.proofs.Common.{◌≡◌, ◌==◌, ◌++◌, Bool, true, false, not, cond, List, [], ◌∷◌, Option, ap, refl, ◌∙◌, if◌then◌else◌}
use Rattle.std.specs.List.{AllByRecursion, filter}
use Rattle.std.proofs.lemmas.Bool.{true≢false}
use Rattle.serde_json.specs.Data.{Data}
use Rattle.sarif_counts.specs.Impacts.{is_hit}
use Rattle.sarif_counts.specs.declared.gate_verdict.Impact.{Impact}
use Rattle.sarif_counts.specs.declared.gate_verdict.Impact.TheVariants as impacts
use Rattle.sarif_findings.specs.Reported.{finding_of}
use Rattle.sarif_findings.specs.declared.finding.Finding.{Finding}
use Rattle.sarif_findings.specs.declared.reporting.Reporting.{Reporting}
use Rattle.sarif_findings.proofs.EachFinding.{each_finding}
use Rattle.sarif_model.specs.Level.{is_at_least}
use Rattle.sarif_model.specs.declared.kinds.Level.{Level}
use Rattle.sarif_model.specs.declared.kinds.State.{State}
use Rattle.sarif_scope.specs.declared.gated.GatedChange.{GatedChange}
use Rattle.sarif_shown.specs.Listed.{by_level, doing, hits_among, others_among, weight}
use Rattle.sarif_shown.specs.ReportedInside.{reported_by}
use Rattle.sarif_shown.specs.Stopping.{is_marked}
use Rattle.sarif_shown.proofs.FindingsInside.{each_inside}

abbrev IsUnmarked : Finding → Type 0
IsUnmarked f = is_marked f.impact ≡ false

unmarked_by : (b : Bool) → is_marked (if b then impacts.Hit else impacts.None) ≡ false
unmarked_by true = refl
unmarked_by false = refl

finding_unmarked : (reporting : Reporting) (run result : Data) (l : Level) (s : State) → IsUnmarked (finding_of reporting run result l s)
unfolding finding_of
finding_unmarked reporting run result l s = unmarked_by (is_at_least reporting.policy.fail_on l)

all_unmarked : (change : Option GatedChange) (reporting : Reporting) (log : Data) → AllByRecursion IsUnmarked (reported_by change reporting log)
all_unmarked change reporting log =
    each_inside IsUnmarked change reporting log (each_finding IsUnmarked reporting (finding_unmarked reporting) log)

no_stop : (i : Impact) (f : Finding) (rest : List Finding) → is_marked i ≡ false → cond (weight i == 2) (f ∷ rest) rest ≡ rest
no_stop impacts.Stops f rest e = absurd (true≢false e)
no_stop impacts.Hit f rest e = refl
no_stop impacts.None f rest e = refl

none_stop : (fs : List Finding) → AllByRecursion IsUnmarked fs → doing impacts.Stops fs ≡ []
none_stop [] all = refl
none_stop (f ∷ fs) all = no_stop f.impact f (doing impacts.Stops fs) all.0 ∙ none_stop fs all.1

same_hit : (i : Impact) (f : Finding) (rest : List Finding) → is_marked i ≡ false
    → cond (weight i == 1) (f ∷ rest) rest ≡ cond (is_hit i) (f ∷ rest) rest
same_hit impacts.Stops f rest e = absurd (true≢false e)
same_hit impacts.Hit f rest e = refl
same_hit impacts.None f rest e = refl

same_hits : (fs : List Finding) → AllByRecursion IsUnmarked fs → doing impacts.Hit fs ≡ filter (λ f. is_hit f.impact) fs
same_hits [] all = refl
same_hits (f ∷ fs) all =
    same_hit f.impact f (doing impacts.Hit fs) all.0
    ∙ ap (λ (rest : List Finding). cond (is_hit f.impact) (f ∷ rest) rest) (same_hits fs all.1)

nothing_by_level : by_level [] ≡ []
unfolding by_level
nothing_by_level = refl

pub hits_by_level : (change : Option GatedChange) (reporting : Reporting) (log : Data)
    → hits_among (reported_by change reporting log) ≡ by_level (filter (λ f. is_hit f.impact) (reported_by change reporting log))
hits_by_level change reporting log =
    let fs : List Finding = reported_by change reporting log in
    let all = all_unmarked change reporting log in
    ap (λ (gs : List Finding). by_level gs ++ by_level (doing impacts.Hit fs)) (none_stop fs all)
    ∙ ap (λ (gs : List Finding). gs ++ by_level (doing impacts.Hit fs)) nothing_by_level ∙ ap by_level (same_hits fs all)

same_other : (i : Impact) (f : Finding) (rest : List Finding) → cond (weight i == 0) (f ∷ rest) rest ≡ cond (not (is_hit i)) (f ∷ rest) rest
same_other impacts.Stops f rest = refl
same_other impacts.Hit f rest = refl
same_other impacts.None f rest = refl

same_others : (fs : List Finding) → doing impacts.None fs ≡ filter (λ f. not (is_hit f.impact)) fs
same_others [] = refl
same_others (f ∷ fs) =
    same_other f.impact f (doing impacts.None fs)
    ∙ ap (λ (rest : List Finding). cond (not (is_hit f.impact)) (f ∷ rest) rest) (same_others fs)

pub others_by_level : (fs : List Finding) → others_among fs ≡ by_level (filter (λ f. not (is_hit f.impact)) fs)
others_by_level fs = ap by_level (same_others fs)
