-- Drafts are counted as the written results are.
use Rattle.std.proofs.Common.{◌≡◌, ◌+◌, Bool, true, false, List, [], ◌∷◌, Some, map, length, refl, sym, ap, ◌∙◌, arith}
use Rattle.std.specs.List.{AllByRecursion}
use Rattle.serde_json.specs.Data.{Data, null, boolean, number, string, array, object}
use Rattle.serde_json.specs.View.{items_of}
use Rattle.sarif_model.specs.declared.kinds.Level.{Level}
use Rattle.sarif_model.specs.declared.kinds.State.{State}
use Rattle.sarif_model.specs.declared.kinds.State.TheVariants.{Absent}
use Rattle.sarif_model.specs.declared.record.Record.{Record}
use Rattle.sarif_suppress.specs.declared.suppressions.Applied.{Applied}
use Rattle.sarif_counts.specs.CountOf.{carries, count_in}
use Rattle.sarif_counts.specs.Hits.{count_if}
use Rattle.sarif_log.specs.Internal.Texts.{counts_as, tallied, unless_taken}
use Rattle.sarif_results.specs.Drafts.{draft_by, drafts_by, listed_in, members_in, unapplied, IsObject}
use Rattle.sarif_results.specs.Drafts.{Listing}
use Rattle.sarif_log.specs.MergedRuns.{unmatched, written, written_all}
use Rattle.sarif_results.proofs.AnnotatedResult.{carries-annotated}

pub draft_counts : (listed : Listing) (applied : Record → Applied) (r : Record) (state : State) (d : Data) (s : State) (l : Level) (b : Bool) → IsObject d
    → counts_as (Some state) (draft_by listed applied r (members_in d)) s l b ≡ count_if (carries s l b (written listed r state d)) 1
draft_counts listed applied r state (object ms) s l b is = ap (λ t. count_if t 1) (sym (carries-annotated s state l r.level b (listed_in listed r ms) ms))
draft_counts listed applied r state null s l b is = absurd is
draft_counts listed applied r state (boolean x) s l b is = absurd is
draft_counts listed applied r state (number n) s l b is = absurd is
draft_counts listed applied r state (string t) s l b is = absurd is
draft_counts listed applied r state (array ds) s l b is = absurd is

pub tallied_written : (listed : Listing) (applied : Record → Applied) (rs : List Record) (states : List State) (ds : List Data) (s : State)
    (l : Level) (b : Bool)
    → length rs ≡ length ds → length states ≡ length ds → AllByRecursion IsObject ds
    → tallied (drafts_by listed applied rs ds) (map Some states) s l b ≡ count_in (items_of (written_all listed rs states ds)) s l b
tallied_written listed applied [] states [] s l b same_r same_s objects = refl
tallied_written listed applied [] states (d ∷ ds) s l b same_r same_s objects = absurd (omega (arith, same_r))
tallied_written listed applied (r ∷ rs) states [] s l b same_r same_s objects = absurd (omega (arith, same_r))
tallied_written listed applied (r ∷ rs) [] (d ∷ ds) s l b same_r same_s objects = absurd (omega (arith, same_s))
tallied_written listed applied (r ∷ rs) (state ∷ states) (d ∷ ds) s l b same_r same_s objects =
    ap (λ n. n + tallied (drafts_by listed applied rs ds) (map Some states) s l b) (draft_counts listed applied r state d s l b objects.0)
    ∙ ap (λ n. count_if (carries s l b (written listed r state d)) 1 + n)
    (tallied_written listed applied rs states ds s l b (omega (arith, same_r)) (omega (arith, same_s)) objects.1)

pub tallied_unmatched : (rs : List Record) (taken : List Bool) (ds : List Data) (s : State) (l : Level) (b : Bool) → AllByRecursion IsObject ds
    → tallied (drafts_by (λ _ own. own) unapplied rs ds) (map unless_taken taken) s l b ≡ count_in (items_of (unmatched rs taken ds)) s l b
tallied_unmatched [] taken ds s l b objects = refl
tallied_unmatched (r ∷ rs) [] [] s l b objects = refl
tallied_unmatched (r ∷ rs) [] (d ∷ ds) s l b objects = refl
tallied_unmatched (r ∷ rs) (t ∷ taken) [] s l b objects = refl
tallied_unmatched (r ∷ rs) (true ∷ taken) (d ∷ ds) s l b objects = let rest = tallied_unmatched rs taken ds s l b objects.1 in omega (arith, rest)
tallied_unmatched (r ∷ rs) (false ∷ taken) (d ∷ ds) s l b objects =
    ap (λ n. n + tallied (drafts_by (λ _ own. own) unapplied rs ds) (map unless_taken taken) s l b)
    (draft_counts (λ _ own. own) unapplied r Absent d s l b objects.0)
    ∙ ap (λ n. count_if (carries s l b (written (λ _ own. own) r Absent d)) 1 + n) (tallied_unmatched rs taken ds s l b objects.1)
