-- The findings of results by their drafts are the findings of the written results.
use Rattle.std.proofs.Common.{◌≡◌, ℕ, Bool, true, false, ◌&&◌, not, List, [], ◌∷◌, Some, None, map, length, codes, refl, sym, ap, ◌∙◌, arith}
use Rattle.std.specs.Prelude.{if◌then◌else◌}
use Rattle.std.specs.List.{AllByRecursion, cons_option, filter_map}
use Rattle.serde_json.specs.Data.{Data, null, boolean, number, string, array, object, Items, Members, put}
use Rattle.serde_json.specs.Find.{get_member}
use Rattle.serde_json.proofs.Views.{get_member-put_other}
use Rattle.sarif_model.specs.declared.kinds.Level.{Level}
use Rattle.sarif_model.specs.declared.kinds.State.{State}
use Rattle.sarif_model.specs.declared.kinds.State.TheVariants.{Absent}
use Rattle.sarif_model.specs.declared.record.Record.{Record}
use Rattle.sarif_model.specs.Level.{level_name}
use Rattle.sarif_model.specs.State.{state_name}
use Rattle.sarif_suppress.specs.declared.suppressions.Applied.{Applied}
use Rattle.sarif_counts.specs.CountOf.{suppresses}
use Rattle.sarif_findings.specs.declared.reporting.Reporting.{Reporting}
use Rattle.sarif_findings.specs.Reported.{are_shown, finding_by, finding_if, finding_of, state_in}
use Rattle.sarif_prepare.proofs.ResultsAlike.{same_told, AreToldAlike}
use Rattle.sarif_prepare.proofs.RunsAlike.{AreAlike}
use Rattle.sarif_results.specs.Annotated.{annotated_members}
use Rattle.sarif_results.specs.Drafts.{draft_by, drafts_by, listed_in, members_in, unapplied, IsObject}
use Rattle.sarif_log.proofs.Told.{active_told, level_told, state_told}
use Rattle.sarif_log.specs.Internal.Texts.{unless_taken}
use Rattle.sarif_results.specs.Drafts.{Listing}
use Rattle.sarif_log.specs.MergedRuns.{unmatched, written, written_all}
use Rattle.sarif_prepare.specs.Internal.Telling.{told_as, told_each, with_run}

-- ---- one result

-- members that annotating doesn't touch
pub kept : (name : List ℕ) (level : Level) (state : State) (list : Items) (ms : Members)
    → (name ≡ codes "baselineState" → ⊥) → (name ≡ codes "level" → ⊥) → (name ≡ codes "suppressions" → ⊥)
    → get_member name (annotated_members level state list ms) ≡ get_member name ms
kept name level state list ms no_state no_level no_list =
    get_member-put_other name (codes "baselineState") (string (state_name state))
    (put (codes "level") (string (level_name level)) (put (codes "suppressions") (array list) ms)) no_state
    ∙ get_member-put_other name (codes "level") (string (level_name level)) (put (codes "suppressions") (array list) ms) no_level
    ∙ get_member-put_other name (codes "suppressions") (array list) ms no_list

alike : (level : Level) (state : State) (list : Items) (ms : Members) → AreToldAlike (object (annotated_members level state list ms)) (object ms)
alike level state list ms = record {
  rule_id = kept (codes "ruleId") level state list ms (λ e. cc) (λ e. cc) (λ e. cc);
  rule = kept (codes "rule") level state list ms (λ e. cc) (λ e. cc) (λ e. cc);
  rule_index = kept (codes "ruleIndex") level state list ms (λ e. cc) (λ e. cc) (λ e. cc);
  message = kept (codes "message") level state list ms (λ e. cc) (λ e. cc) (λ e. cc);
  locations = kept (codes "locations") level state list ms (λ e. cc) (λ e. cc) (λ e. cc);
}

object_told : (reporting : Reporting) (later run : Data) (level : Level) (state : State) (list : Items) (ms : Members) → AreAlike later run
    → finding_if reporting later (object (annotated_members level state list ms))
    ≡ (if are_shown reporting state level && not (suppresses list) then Some (finding_of reporting run (object ms) level state) else None)
object_told reporting later run level state list ms same =
    let x = object (annotated_members level state list ms) in
    ap (λ o. finding_by reporting later x o (state_in x)) (level_told level state list ms)
    ∙ ap (finding_by reporting later x (Some level)) (state_told level state list ms)
    ∙ ap (λ b. if are_shown reporting state level && b then Some (finding_of reporting later x level state) else None) (active_told level state list ms)
    ∙ ap (λ f. if are_shown reporting state level && not (suppresses list) then Some f else None)
    (same_told reporting later run x (object ms) level state same (alike level state list ms))

-- a result of a run, and the same as it is written in a run that is alike
pub draft_told : (reporting : Reporting) (later run : Data) (listed : Listing) (applied : Record → Applied) (r : Record) (state : State) (d : Data)
    → AreAlike later run → IsObject d
    → told_as reporting run d (draft_by listed applied r (members_in d)) (Some state) ≡ finding_if reporting later (written listed r state d)
draft_told reporting later run listed applied r state null same is = absurd is
draft_told reporting later run listed applied r state (boolean b) same is = absurd is
draft_told reporting later run listed applied r state (number n) same is = absurd is
draft_told reporting later run listed applied r state (string s) same is = absurd is
draft_told reporting later run listed applied r state (array ds) same is = absurd is
draft_told reporting later run listed applied r state (object ms) same is =
    sym (object_told reporting later run r.level state (listed_in listed r ms) ms same)

-- ---- the results of a run

pub told_written : (reporting : Reporting) (later run : Data) (listed : Listing) (applied : Record → Applied) (rs : List Record) (states : List State)
    (ds : List Data)
    → AreAlike later run → length rs ≡ length ds → length states ≡ length ds → AllByRecursion IsObject ds
    → told_each reporting (with_run run ds) (drafts_by listed applied rs ds) (map Some states)
    ≡ filter_map (finding_if reporting later) (written_all listed rs states ds)
told_written reporting later run listed applied [] states [] same same_r same_s objects = refl
told_written reporting later run listed applied [] states (d ∷ ds) same same_r same_s objects = absurd (omega (arith, same_r))
told_written reporting later run listed applied (r ∷ rs) states [] same same_r same_s objects = absurd (omega (arith, same_r))
told_written reporting later run listed applied (r ∷ rs) [] (d ∷ ds) same same_r same_s objects = absurd (omega (arith, same_s))
told_written reporting later run listed applied (r ∷ rs) (state ∷ states) (d ∷ ds) same same_r same_s objects =
    ap (λ o. cons_option o (told_each reporting (with_run run ds) (drafts_by listed applied rs ds) (map Some states)))
    (draft_told reporting later run listed applied r state d same objects.0)
    ∙ ap (cons_option (finding_if reporting later (written listed r state d)))
    (told_written reporting later run listed applied rs states ds same (omega (arith, same_r)) (omega (arith, same_s)) objects.1)

pub told_unmatched : (reporting : Reporting) (later run : Data) (rs : List Record) (taken : List Bool) (ds : List Data)
    → AreAlike later run → length rs ≡ length ds → length taken ≡ length ds → AllByRecursion IsObject ds
    → told_each reporting (with_run run ds) (drafts_by (λ _ own. own) unapplied rs ds) (map unless_taken taken)
    ≡ filter_map (finding_if reporting later) (unmatched rs taken ds)
told_unmatched reporting later run [] taken [] same same_r same_t objects = refl
told_unmatched reporting later run [] taken (d ∷ ds) same same_r same_t objects = absurd (omega (arith, same_r))
told_unmatched reporting later run (r ∷ rs) taken [] same same_r same_t objects = absurd (omega (arith, same_r))
told_unmatched reporting later run (r ∷ rs) [] (d ∷ ds) same same_r same_t objects = absurd (omega (arith, same_t))
told_unmatched reporting later run (r ∷ rs) (true ∷ taken) (d ∷ ds) same same_r same_t objects =
    told_unmatched reporting later run rs taken ds same (omega (arith, same_r)) (omega (arith, same_t)) objects.1
told_unmatched reporting later run (r ∷ rs) (false ∷ taken) (d ∷ ds) same same_r same_t objects =
    ap (λ o. cons_option o (told_each reporting (with_run run ds) (drafts_by (λ _ own. own) unapplied rs ds) (map unless_taken taken)))
    (draft_told reporting later run (λ _ own. own) unapplied r Absent d same objects.0)
    ∙ ap (cons_option (finding_if reporting later (written (λ _ own. own) r Absent d)))
    (told_unmatched reporting later run rs taken ds same (omega (arith, same_r)) (omega (arith, same_t)) objects.1)
