-- If copies are counted, a merge is what it was.
use Rattle.std.proofs.Common.{◌≡◌, ℕ, Bool, List, length, option_map, Option, Some, None, Result, Ok, Err, IfOk, refl, ap, ◌∙◌, subst}
use Rattle.serde_json.specs.Data.{Data}
use Rattle.sarif_counts.specs.Hits.{Count}
use Rattle.sarif_model.specs.declared.kinds.Level.{Level}
use Rattle.sarif_model.specs.declared.kinds.State.{State}
use Rattle.sarif_entries.specs.File.{File}
use Rattle.sarif_findings.specs.declared.finding.Finding.{Finding}
use Rattle.sarif_evidence.specs.declared.version.MatchingVersion.{MatchingVersion}
use Rattle.sarif_options.specs.declared.policy.Policy.{Policy}
use Rattle.sarif_runs.specs.Judging.{run_values}
use Rattle.sarif_runs.specs.Placed.{Placed}
use Rattle.sarif_suppress.specs.Suppressing.{unused_of}
use Rattle.sarif_log.specs.Assembled.{IsMergedBy}
use Rattle.sarif_log.specs.Counted.{IsLogWith, IsMergedAs}
use Rattle.sarif_log.specs.declared.copies.CopyPlace.{CopyPlace}
use Rattle.sarif_log.specs.declared.merged.Merged.{Merged}
use Rattle.sarif_log.specs.declared.prepared.CopyFlags.{CopyFlags}
use Rattle.sarif_log.specs.declared.prepared.Prepared.{Prepared}
use Rattle.sarif_log.specs.declared.merged_text.Side.{Side}
use Rattle.sarif_log.specs.Internal.Copied.{places_by, AreFlagsIf}
use Rattle.sarif_log.specs.Internal.Prepared.{IsPrepared, IsPreparedAs}
use Rattle.sarif_log.specs.Internal.Written.{AreWritten, AreWrittenWith}
use Rattle.sarif_log.specs.LogBy.{limited_records, runs_by, runs_without_results}
use Rattle.sarif_scope.specs.Told.{facts_by}
use Rattle.sarif_scope.specs.declared.gated.GatedChange.{GatedChange}
use Rattle.sarif_conditions.specs.declared.facts.PolicyFacts.{PolicyFacts}

written_all : (copies : Option CopyFlags) (current baseline : Side) (runs : List Data) → copies ≡ None → AreWritten current baseline runs
    → AreWrittenWith copies current baseline runs runs
written_all None current baseline runs is h = record { texts = h.texts; counts = h.counts }
written_all (Some flags) current baseline runs is h = cc

no_places : (copies : Option CopyFlags) (current baseline : Side) → copies ≡ None → places_by copies current baseline ≡ None
no_places None current baseline is = refl
no_places (Some flags) current baseline is = cc

pub prepared_all : (v : MatchingVersion) (file : File) (now before : List Placed) (change : Option GatedChange) (policy : Policy)
    (ruling : Option PolicyFacts) (told : List Finding) (prepared : Prepared)
    → IsPrepared v file now before change policy ruling told prepared
    → IsPreparedAs (runs_by v file now before) (runs_by v file now before) None change policy ruling (runs_without_results (run_values now))
    (unused_of file (limited_records file now)) told prepared
prepared_all v file now before change policy ruling told prepared h = record {
  written = written_all prepared.copies prepared.current prepared.baseline (runs_by v file now before) h.copies h.written;
  named = no_places prepared.copies prepared.current prepared.baseline h.copies;
  without = h.without;
  unused = h.unused;
  change = h.change;
  ruling = h.ruling;
  told = h.told;
}

merged_all : (v : MatchingVersion) (file : File) (now before : List Placed) (change : Option GatedChange) (policy : Policy)
    (ruling : Option PolicyFacts) (told : List Finding) (merged : Merged)
    → IsMergedAs (runs_by v file now before) (runs_by v file now before) None change policy ruling (runs_without_results (run_values now))
    (unused_of file (limited_records file now)) told merged
    → IsMergedBy v file now before change policy ruling told merged
merged_all v file now before change policy ruling told merged h =
    record { written = record { log = h.written.log; gate = h.written.gate }; told = h.told }

-- a merge of what was prepared without copies apart
pub merged_by : (prepared : Prepared) (policy : Policy) (merged : Merged)
    → ((runs counted : List Data) (places : Option (List CopyPlace)) (change : Option GatedChange) (ruling : Option PolicyFacts) (bare idle : ℕ)
    (told : List Finding)
    → IsPreparedAs runs counted places change policy ruling bare idle told prepared → IsMergedAs runs counted places change policy ruling bare idle told merged)
    → (v : MatchingVersion) (file : File) (now before : List Placed) (change : Option GatedChange) (ruling : Option PolicyFacts) (told : List Finding)
    → IsPrepared v file now before change policy ruling told prepared → IsMergedBy v file now before change policy ruling told merged
merged_by prepared policy merged made = λ v file now before change ruling told h.
    merged_all v file now before change policy ruling told merged
    (made (runs_by v file now before) (runs_by v file now before) None change ruling (runs_without_results (run_values now))
    (unused_of file (limited_records file now)) told (prepared_all v file now before change policy ruling told prepared h))

-- there is a mark for each result
pub flags_are : (copies : Option CopyFlags) (current baseline : Side)
    → option_map (λ flags. length flags.current.items) copies ≡ option_map (λ _. length current.drafts.items) copies
    → option_map (λ flags. length flags.baseline.items) copies ≡ option_map (λ _. length baseline.drafts.items) copies
    → AreFlagsIf copies current baseline
flags_are None current baseline here there = tt
flags_are (Some flags) current baseline here there = (cc here, cc there)

-- ---- what is true of a result that is there

pub if_one : {X E : Type 0} (P R : X → Type 0) (r : Result X E) → IfOk r P → ((x : X) → P x → R x) → IfOk r R
if_one P R (Ok x) p more = more x p
if_one P R (Err e) p more = tt

pub if_both : {X E : Type 0} (P Q R : X → Type 0) (r : Result X E) → IfOk r P → IfOk r Q → ((x : X) → P x → Q x → R x) → IfOk r R
if_both P Q R (Ok x) p q more = more x p q
if_both P Q R (Err e) p q more = tt

-- counts that are equal everywhere
pub counts_same : (f g : Count) → ((s : State) (l : Level) (b : Bool) → f s l b ≡ g s l b) → f ≡ g
counts_same f g each = λ i s l b. each s l b i

-- a merge whose log is that of what was prepared
pub merged_as : (prepared : Prepared) (policy : Policy) (made : Merged)
    → ((runs counted : List Data) (change : Option GatedChange) → AreWrittenWith prepared.copies prepared.current prepared.baseline runs counted
    → prepared.change ≡ facts_by change policy counted
    → IsLogWith runs counted (places_by prepared.copies prepared.current prepared.baseline) change policy prepared.ruling prepared.without prepared.unused made)
    → made.findings.items ≡ prepared.findings.items
    → (runs counted : List Data) (places : Option (List CopyPlace)) (change : Option GatedChange) (ruling : Option PolicyFacts) (bare idle : ℕ)
    (told : List Finding)
    → IsPreparedAs runs counted places change policy ruling bare idle told prepared → IsMergedAs runs counted places change policy ruling bare idle told made
merged_as prepared policy made log findings = λ runs counted places change ruling bare idle told h.
    let made_so = log runs counted change h.written h.change in record {
      written =
          subst (λ n. IsLogWith runs counted places change policy ruling bare n made) h.unused
          (subst (λ n. IsLogWith runs counted places change policy ruling n prepared.unused made) h.without
          (subst (λ r. IsLogWith runs counted places change policy r prepared.without prepared.unused made) h.ruling
          (subst (λ ps. IsLogWith runs counted ps change policy prepared.ruling prepared.without prepared.unused made) h.named made_so)));
      told = findings ∙ h.told;
      copies = made_so.named ∙ ap (option_map length) h.named;
    }
