-- What is true of the finding of any result is true of each finding of a log.
use Rattle.std.proofs.Common.{◌++◌, Bool, true, false, List, [], ◌∷◌, Option, Some, None, IfSome, codes, if◌then◌else◌}
use Rattle.std.specs.Prelude.{flat_map}
use Rattle.std.specs.List.{AllByRecursion, filter_map, cons_option}
use Rattle.serde_json.specs.Data.{Data}
use Rattle.sarif_model.specs.declared.kinds.Level.{Level}
use Rattle.sarif_model.specs.declared.kinds.State.{State}
use Rattle.sarif_findings.specs.declared.finding.Finding.{Finding}
use Rattle.sarif_findings.specs.declared.reporting.Reporting.{Reporting}
use Rattle.sarif_findings.specs.Lookup.{elements_in}
use Rattle.sarif_findings.specs.Reported.{reported_of, reported_in, finding_if, finding_by, finding_of, is_shown, level_in, state_in}

module _ (P : Finding → Type 0) (reporting : Reporting) (any : (run result : Data) (l : Level) (s : State) → P (finding_of reporting run result l s)) where
  chosen : (b : Bool) (f : Finding) → P f → IfSome (if b then Some f else None) P
  chosen true f h = h
  chosen false f h = tt

  found : (run result : Data) (ol : Option Level) (os : Option State) → IfSome (finding_by reporting run result ol os) P
  found run result None os = tt
  found run result (Some l) None = tt
  found run result (Some l) (Some s) = chosen (is_shown reporting result l s) (finding_of reporting run result l s) (any run result l s)

  one_more : (o : Option Finding) (fs : List Finding) → IfSome o P → AllByRecursion P fs → AllByRecursion P (cons_option o fs)
  one_more None fs h rest = rest
  one_more (Some f) fs h rest = (h, rest)

  in_results : (run : Data) (results : List Data) → AllByRecursion P (filter_map (finding_if reporting run) results)
  in_results run [] = tt
  in_results run (result ∷ results) =
      one_more (finding_if reporting run result) (filter_map (finding_if reporting run) results)
      (found run result (level_in result) (state_in result)) (in_results run results)

  both : (fs gs : List Finding) → AllByRecursion P fs → AllByRecursion P gs → AllByRecursion P (fs ++ gs)
  both [] gs h rest = rest
  both (f ∷ fs) gs h rest = (h.0, both fs gs h.1 rest)

  in_runs : (runs : List Data) → AllByRecursion P (flat_map (reported_in reporting) runs)
  in_runs [] = tt
  in_runs (run ∷ runs) =
      both (reported_in reporting run) (flat_map (reported_in reporting) runs) (in_results run (elements_in (codes "results") run)) (in_runs runs)

  pub each_finding : (log : Data) → AllByRecursion P (reported_of reporting log)
  each_finding log = in_runs (elements_in (codes "runs") log)
