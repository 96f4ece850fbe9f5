-- What is known about the record of a result that was read: its GUID, and the statuses of its own suppressions.
use Rattle.std.proofs.Common.{◌≡◌, ℕ, Bool, true, false, ◌&&◌, List, [], ◌∷◌, map, length, Option, Some, None, codes, refl, subst, if◌then◌else◌}
use Rattle.std.specs.Prelude.{Result, Ok, Err, option_and_then}
use Rattle.std.specs.List.{AllByRecursion, range_with_len}
use Rattle.serde_json.specs.Data.{Data, null, boolean, number, string, array, object, Members}
use Rattle.serde_json.specs.Find.{as_array, get_member}
use Rattle.sarif_model.specs.declared.fault.Fault.{Fault}
use Rattle.sarif_model.specs.declared.fault.Fault.TheVariants.{BadSuppression}
use Rattle.sarif_model.specs.declared.kinds.Status.{Status}
use Rattle.sarif_model.specs.declared.record.Record.{Record}
use Rattle.sarif_model.specs.Members.{◌>>=◌, are_objects, elements, elements_of, if_objects, of_kind, read_each, unless_null}
use Rattle.sarif_model.specs.Run.{is_absent_result, result_at, results_of}
use Rattle.sarif_model.specs.Suppression.{status_of}
use Rattle.sarif_model.specs.Driver.{tool_name}
use Rattle.sarif_counts.specs.CountOf.{items_in}
use Rattle.sarif_read.proofs.WholeRuns.{bind_ok}
use Rattle.sarif_runs.specs.declared.head.RunHead.{RunHead}
use Rattle.sarif_runs.specs.declared.item.Item.TheVariants.{Skipped}
use Rattle.sarif_members.specs.declared.parts.Parts.{Parts}
use Rattle.sarif_runs.specs.Descriptor.{descriptor_of, reference_of}
use Rattle.sarif_runs.specs.Head.{head_of}
use Rattle.sarif_runs.specs.Judging.{item_by, item_of, items_of, records_in, records_of, skips, with_record}
use Rattle.sarif_runs.specs.Level.{level_of}
use Rattle.sarif_members.specs.OwnMembers.{own_statuses, parts_of}
use Rattle.sarif_runs.specs.Place.{place_of}
use Rattle.sarif_runs.specs.Placed.{Placed}
use Rattle.sarif_runs.specs.declared.run_options.RecordOptions.{RecordOptions}
use Rattle.sarif_runs.specs.Record.{record_by, record_in, record_of}
use Rattle.sarif_results.specs.Annotated.{own_suppressions}
use Rattle.sarif_accept.specs.Until.{HasGuid}
use Rattle.sarif_known_laws.proofs.Readable.{AreReadFrom, parts_read}
use Rattle.sarif_laws.proofs.Lists.{all_append}

pub ok_is : {A E : Type 0} (x y : A) → ◌≡◌ {A = Result A E} (Ok x) (Ok y) → x ≡ y
ok_is x y is = cc

-- ---- the statuses of its own suppressions

held_read : (o : Option Data) (held : List Status)
    → ((elements_of (of_kind BadSuppression as_array (option_and_then unless_null o)) >>= if_objects BadSuppression) >>= read_each status_of)
    ≡ Ok held
    → read_each status_of (elements (items_in o)) ≡ Ok held
held_read None held is = is
held_read (Some null) held is = is
held_read (Some (boolean b)) held is = let never : ⊥ = cc in absurd never
held_read (Some (number n)) held is = let never : ⊥ = cc in absurd never
held_read (Some (string s)) held is = let never : ⊥ = cc in absurd never
held_read (Some (object ms)) held is = let never : ⊥ = cc in absurd never
held_read (Some (array ds)) held is = by_objects (are_objects (elements ds)) is
  where
    by_objects : (b : Bool) → ((if b then Ok (elements ds) else Err BadSuppression) >>= read_each status_of) ≡ Ok held
        → read_each status_of (elements ds) ≡ Ok held
    by_objects true is = is
    by_objects false is = let never : ⊥ = cc in absurd never

-- ---- the record

pub record IsRead (d : Data) (r : Record) : Type 0 where
  pub guid : HasGuid r
  pub held : own_statuses d ≡ Ok r.held

by_parts : (regions : Bool) (ignored : List (List ℕ)) (d : Data) (head : RunHead) (tool : List ℕ) (parts : Parts) (r : Record) → AreReadFrom regions d parts
    → record_by ignored head tool parts ≡ Ok r → IsRead d r
unfolding record_by
by_parts regions ignored d head tool parts r are is =
    let descriptor = bind_ok (descriptor_of head.components (reference_of parts)) _ r is in
    let level = bind_ok (level_of head parts) _ r descriptor.2 in
    let place = bind_ok (place_of head.artifacts parts) _ r level.2 in
    subst (IsRead d) (ok_is _ r place.2) (record { guid = are.guid; held = are.held })

pub record_read : (options : RecordOptions) (run : Data) (seq : ℕ) (r : Record) → record_of options run seq ≡ Ok r → IsRead (result_at run seq) r
unfolding record_of record_in
record_read options run seq r is =
    let head = bind_ok (head_of run) _ r is in
    let parts = bind_ok (parts_of options.regions (result_at run seq)) (record_by options.ignored head.0 (tool_name run)) r head.2 in
    by_parts options.regions options.ignored (result_at run seq) head.0 (tool_name run) parts.0 r (parts_read options.regions (result_at run seq) parts.0 parts.1) parts.2

-- the statuses are those of the suppressions that are written unchanged
pub statuses_read : (ms : Members) (r : Record) → IsRead (object ms) r → read_each status_of (elements (own_suppressions ms)) ≡ Ok r.held
unfolding own_statuses
statuses_read ms r read = held_read (get_member (codes "suppressions") ms) r.held read.held

-- ---- all records

module _ (P : Record → Type 0) where
  with_each : (skipped : Bool) (found : Result Record Fault) (rs : List Record) → ((r : Record) → found ≡ Ok r → P r) → AllByRecursion P rs
      → AllByRecursion P (with_record (if skipped then Skipped else item_by found) rs)
  with_each true found rs here rest = rest
  with_each false (Ok r) rs here rest = (here r refl, rest)
  with_each false (Err fault) rs here rest = rest

  -- what is true for each record that is read from a run
  pub in_run : (p : Placed) → ((seq : ℕ) (r : Record) → record_of p.options.records p.run seq ≡ Ok r → P r) → (seqs : List ℕ)
      → AllByRecursion P (records_in (map (item_of p) seqs))
  in_run p each [] = tt
  in_run p each (seq ∷ seqs) =
      with_each (skips p.source && is_absent_result (result_at p.run seq)) (record_of p.options.records p.run seq)
      (records_in (map (item_of p) seqs)) (each seq) (in_run p each seqs)

pub guids_fit : (ps : List Placed) → AllByRecursion HasGuid (records_of ps)
guids_fit [] = tt
guids_fit (p ∷ ps) =
    all_append HasGuid (records_in (items_of p)) (records_of ps)
    (in_run HasGuid p (λ seq r is. (record_read p.options.records p.run seq r is).guid) (range_with_len 0 (length (results_of p.run))))
    (guids_fit ps)
