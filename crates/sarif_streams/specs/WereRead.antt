-- What reading all sources of a merge from readers does.
use Rattle.std.specs.Prelude.{◌≡◌, ℕ, ◌+◌, ◌≤◌, List, ◌⊎◌, ⊤, Option, Some, None, IsSome, IfSome, map, option_map}
use Rattle.std.specs.List.{AllByRecursion}
use Rattle.sarif_streams.specs.declared.counted.Counted.{Counted}
use Rattle.sarif_model.specs.declared.merge_fault.Source.{Source}
use Rattle.sarif_model.specs.declared.merge_fault.Source.TheVariants.{Log, Baseline, Suppress, Policy, Diff}
use Rattle.sarif_streams.specs.declared.readers.Readers.{Readers}
use Rattle.sarif_streams.specs.declared.readers.ReadersFault.{ReadersFault}
use Rattle.sarif_streams.specs.declared.readers.SourceBytes.{SourceBytes}
use Rattle.sarif_model.specs.declared.refusal.Refusal.{Refusal}
use Rattle.sarif_streams.specs.AreRead.{IsRead, AreRead, HasStopped, StopsIn}
use Rattle.sarif_streams.specs.Counted.{inner_of}
use Rattle.sarif_streams.specs.Failing.{failed_calls_in, NoneFalls}
use Rattle.sarif_streams.specs.OptionalReader.{failed_calls_if}

-- the bytes of the logs, of the baselines, and of the suppression file, the policy and the diff, if there are any
pub record SourceContents : Type 0 where
  pub logs : List (List ℕ)
  pub baselines : List (List ℕ)
  pub suppressions : Option (List ℕ)
  pub policy : Option (List ℕ)
  pub diff : Option (List ℕ)

abbrev pub contents_of : SourceBytes → SourceContents
contents_of bytes = record {
  logs = map (λ v. v.items) bytes.logs.items;
  baselines = map (λ v. v.items) bytes.baselines.items;
  suppressions = option_map (λ v. v.items) bytes.suppressions;
  policy = option_map (λ v. v.items) bytes.policy;
  diff = option_map (λ v. v.items) bytes.diff;
}

-- how many calls of the readers failed
abbrev pub failures : {R : Type 0} → Readers R → ℕ
failures all =
    failed_calls_in all.logs.items
    + (failed_calls_in all.baselines.items
    + (failed_calls_if all.suppressions
    + (failed_calls_if all.policy + failed_calls_if all.diff)))

-- of none of them did the number of failed calls fall
pub record NoNumberFalls {R : Type 0} (old new : Readers R) : Type 0 where
  pub logs : NoneFalls old.logs.items new.logs.items
  pub baselines : NoneFalls old.baselines.items new.baselines.items
  pub suppressions : failed_calls_if old.suppressions ≤ failed_calls_if new.suppressions
  pub policy : failed_calls_if old.policy ≤ failed_calls_if new.policy
  pub diff : failed_calls_if old.diff ≤ failed_calls_if new.diff

-- a reader that may be there gave its bytes, where it is there
abbrev pub IsReadIf : {R : Type 0} → (R → Option (List ℕ))
    → Option (Counted R) → Option (Counted R) → Option (List ℕ) → Type 0
IsReadIf remaining None None None = ⊤
IsReadIf remaining None None (Some bytes) = ⊥
IsReadIf remaining None (Some new) bytes = ⊥
IsReadIf remaining (Some old) None bytes = ⊥
IsReadIf remaining (Some old) (Some new) None = ⊥
IsReadIf remaining (Some old) (Some new) (Some bytes) = IsRead remaining old new bytes

-- each reader gave the bytes of its source, and is at its end
pub record WereRead {R : Type 0} (remaining : R → Option (List ℕ)) (old new : Readers R)
    (contents : SourceContents) : Type 0 where
  pub logs : AreRead remaining old.logs.items new.logs.items contents.logs
  pub baselines : AreRead remaining old.baselines.items new.baselines.items contents.baselines
  pub suppressions : IsReadIf remaining old.suppressions new.suppressions contents.suppressions
  pub policy : IsReadIf remaining old.policy new.policy contents.policy
  pub diff : IsReadIf remaining old.diff new.diff contents.diff

-- a reader that may be there ended reading
abbrev pub HasStoppedIf : {R : Type 0} → (R → Option (List ℕ)) → Source
    → Option (Counted R) → Option (Counted R) → Refusal ReadersFault → Type 0
HasStoppedIf remaining source None new fault = ⊥
HasStoppedIf remaining source (Some old) None fault = ⊥
HasStoppedIf remaining source (Some old) (Some new) fault = HasStopped remaining source old new fault

-- reading ended at one of the sources: logs, then baselines, then the suppression file, then the policy, then the diff;
-- those before it were read, and those after it are unchanged
abbrev pub HasStoppedAt : {R : Type 0} → (R → Option (List ℕ))
    → Readers R → Readers R → Refusal ReadersFault → Type 0
HasStoppedAt remaining old new fault =
    (StopsIn remaining Log 0 old.logs.items new.logs.items fault
    × (new.baselines ≡ old.baselines)
    × (new.suppressions ≡ old.suppressions)
    × (new.policy ≡ old.policy)
    × (new.diff ≡ old.diff))
    ⊎ (((logs : List (List ℕ)) × AreRead remaining old.logs.items new.logs.items logs
    × StopsIn remaining Baseline 0 old.baselines.items new.baselines.items fault
    × (new.suppressions ≡ old.suppressions)
    × (new.policy ≡ old.policy)
    × (new.diff ≡ old.diff))
    ⊎ (((logs : List (List ℕ)) × (baselines : List (List ℕ))
    × AreRead remaining old.logs.items new.logs.items logs
    × AreRead remaining old.baselines.items new.baselines.items baselines
    × HasStoppedIf remaining Suppress old.suppressions new.suppressions fault
    × (new.policy ≡ old.policy)
    × (new.diff ≡ old.diff))
    ⊎ (((logs : List (List ℕ)) × (baselines : List (List ℕ)) × (suppressions : Option (List ℕ))
    × AreRead remaining old.logs.items new.logs.items logs
    × AreRead remaining old.baselines.items new.baselines.items baselines
    × IsReadIf remaining old.suppressions new.suppressions suppressions
    × HasStoppedIf remaining Policy old.policy new.policy fault
    × (new.diff ≡ old.diff))
    ⊎ ((logs : List (List ℕ)) × (baselines : List (List ℕ)) × (suppressions : Option (List ℕ))
    × (policy : Option (List ℕ))
    × AreRead remaining old.logs.items new.logs.items logs
    × AreRead remaining old.baselines.items new.baselines.items baselines
    × IsReadIf remaining old.suppressions new.suppressions suppressions
    × IsReadIf remaining old.policy new.policy policy
    × HasStoppedIf remaining Diff old.diff new.diff fault))))

-- a reader says what it has left
abbrev pub Tells : {R : Type 0} → (R → Option (List ℕ)) → Counted R → Type 0
Tells remaining reader = IsSome (remaining (inner_of reader))

-- each of the readers does
pub record AllTell {R : Type 0} (remaining : R → Option (List ℕ)) (all : Readers R) : Type 0 where
  pub logs : AllByRecursion (Tells remaining) all.logs.items
  pub baselines : AllByRecursion (Tells remaining) all.baselines.items
  pub suppressions : IfSome all.suppressions (Tells remaining)
  pub policy : IfSome all.policy (Tells remaining)
  pub diff : IfSome all.diff (Tells remaining)
