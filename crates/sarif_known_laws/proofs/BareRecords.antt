-- Records of runs that are read without regions: those of the same runs with regions, without these.
use Rattle.std.proofs.Common.{◌≡◌, ◌+◌, ◌&&◌, ℕ, Bool, true, false, List, [], ◌∷◌, map, length, Option, Some, None, Result, Ok, Err, refl, ap, ap₂, ◌∙◌, if◌then◌else◌}
use Rattle.std.specs.List.{range_with_len}
use Rattle.serde_json.specs.Data.{Data}
use Rattle.sarif_model.specs.declared.fault.Fault.{Fault}
use Rattle.sarif_model.specs.declared.merge_fault.At.{At}
use Rattle.sarif_model.specs.declared.merge_fault.At.TheVariants.{Single}
use Rattle.sarif_model.specs.declared.merge_fault.Source.{Source}
use Rattle.sarif_model.specs.declared.record.Record.{Record}
use Rattle.sarif_model.specs.Driver.{tool_name}
use Rattle.sarif_model.specs.Members.{◌>>=◌, result_map}
use Rattle.sarif_model.specs.Run.{is_absent_result, result_at, results_of}
use Rattle.sarif_members.specs.OwnMembers.{check_present, own_fingerprints, own_guid, own_indexes, own_kind, own_level, own_location, own_message_and_rule, own_statuses, parts_of}
use Rattle.sarif_members.specs.declared.parts.Parts.{Parts}
use Rattle.sarif_runs.specs.Descriptor.{descriptor_of, reference_of}
use Rattle.sarif_runs.specs.Head.{head_of}
use Rattle.sarif_runs.specs.Ignoring.{without_names}
use Rattle.sarif_runs.specs.Judging.{first_bad, item_by, item_of, items_of, opened_or, opening_fault, records_in, run_faults, skips, with_record}
use Rattle.sarif_runs.specs.Level.{level_of}
use Rattle.sarif_runs.specs.Place.{place_of}
use Rattle.sarif_runs.specs.Placed.{Placed}
use Rattle.sarif_runs.specs.Record.{record_by, record_in, record_of, rule_id_of}
use Rattle.sarif_runs.specs.declared.head.RunHead.{RunHead}
use Rattle.sarif_runs.specs.declared.item.Item.{Item}
use Rattle.sarif_runs.specs.declared.item.Item.TheVariants.{Skipped}
use Rattle.sarif_runs.specs.declared.run_options.RecordOptions.{RecordOptions}
use Rattle.sarif_known.specs.Chosen.{known_as}
use Rattle.sarif_known.proofs.RecordBack.{none_placed}

-- a record without its region and its snippet
abbrev pub bare : Record → Record
bare = known_as false

abbrev bare_parts : Parts → Parts
bare_parts parts = record parts { region = None; snippet = None }

-- the same options without regions
abbrev pub without_regions : RecordOptions → RecordOptions
without_regions options = record options { regions = false }

bind_map : {A B C E : Type 0} (h : B → C) (r : Result A E) (f : A → Result C E) (g : A → Result B E) → ((a : A) → f a ≡ result_map h (g a))
    → (r >>= f) ≡ result_map h (r >>= g)
bind_map h (Ok a) f g same = same a
bind_map h (Err e) f g same = refl

mapped_bind : {A B C E : Type 0} (g : A → A) (h : B → C) (r : Result A E) (f : A → Result C E) (k : A → Result B E) → ((a : A) → f (g a) ≡ result_map h (k a))
    → (result_map g r >>= f) ≡ result_map h (r >>= k)
mapped_bind g h (Ok a) f k same = same a
mapped_bind g h (Err e) f k same = refl

parts_bare : (regions : Bool) (d : Data) → parts_of false d ≡ result_map bare_parts (parts_of regions d)
unfolding parts_of
parts_bare regions d =
    bind_map bare_parts (check_present d) _ _
    (λ _. bind_map bare_parts (own_kind d) _ _
    (λ kind. bind_map bare_parts (own_level d) _ _
    (λ level. bind_map bare_parts (own_guid d) _ _
    (λ guid. bind_map bare_parts (own_fingerprints d) _ _
    (λ fingerprints. bind_map bare_parts (own_statuses d) _ _
    (λ held. bind_map bare_parts (own_message_and_rule d) _ _
    (λ said. bind_map bare_parts (own_indexes d) _ _
    (λ indexes. bind_map bare_parts (own_location d) _ _ (λ location. refl)))))))))

by_bare : (ignored : List (List ℕ)) (head : RunHead) (tool : List ℕ) (parts : Parts)
    → record_by ignored head tool (bare_parts parts) ≡ result_map bare (record_by ignored head tool parts)
unfolding record_by
by_bare ignored head tool parts =
    bind_map bare (descriptor_of head.components (reference_of parts)) _ _
    (λ descriptor. bind_map bare (level_of head parts) _ _
    (λ level. bind_map bare (place_of head.artifacts parts) _ _
    (λ place i. Ok (record {
      tool = tool;
      rule_id = rule_id_of head.components parts.rule_id descriptor;
      kind = parts.kind;
      level = level;
      message = parts.message;
      place = place;
      guid = parts.guid;
      full = without_names ignored parts.full;
      partial = without_names ignored parts.partial;
      held = parts.held;
      region = none_placed place i;
      snippet = none_placed place i;
      admitted = [];
    }))))

in_bare : (options : RecordOptions) (head : RunHead) (tool : List ℕ) (d : Data)
    → record_in (without_regions options) head tool d ≡ result_map bare (record_in options head tool d)
unfolding record_in
in_bare options head tool d =
    ap (λ r. r >>= record_by options.ignored head tool) (parts_bare options.regions d)
    ∙ mapped_bind bare_parts bare (parts_of options.regions d) _ _ (by_bare options.ignored head tool)

-- the record of a result, without regions
pub record_bare : (options : RecordOptions) (run : Data) (seq : ℕ) → record_of (without_regions options) run seq ≡ result_map bare (record_of options run seq)
unfolding record_of
record_bare options run seq = bind_map bare (head_of run) _ _ (λ head. in_bare options head (tool_name run) (result_at run seq))

with_bare : (r : Result Record Fault) (rs : List Record) → with_record (item_by (result_map bare r)) (map bare rs) ≡ map bare (with_record (item_by r) rs)
with_bare (Ok r) rs = refl
with_bare (Err fault) rs = refl

with_item : (skipped : Bool) (r : Result Record Fault) (rs : List Record)
    → with_record (if skipped then Skipped else item_by (result_map bare r)) (map bare rs) ≡ map bare (with_record (if skipped then Skipped else item_by r) rs)
with_item true r rs = refl
with_item false r rs = with_bare r rs

-- the same run, read without regions
abbrev pub placed_bare : Placed → Placed
placed_bare p = record p { options = record p.options { records = without_regions p.options.records } }

items_bare : (p : Placed) (seqs : List ℕ) → records_in (map (item_of (placed_bare p)) seqs) ≡ map bare (records_in (map (item_of p) seqs))
items_bare p [] = refl
items_bare p (seq ∷ seqs) =
    let skipped = skips p.source && is_absent_result (result_at p.run seq) in
    ap₂ (λ r rs. with_record (if skipped then Skipped else item_by r) rs) (record_bare p.options.records p.run seq) (items_bare p seqs)
    ∙ with_item skipped (record_of p.options.records p.run seq) (records_in (map (item_of p) seqs))

-- the records of the results of a run
pub run_bare : (p : Placed) → records_in (items_of (placed_bare p)) ≡ map bare (records_in (items_of p))
run_bare p = items_bare p (range_with_len 0 (length (results_of p.run)))

-- ---- errors

first_bare : (at : ℕ → At) (p : Placed) (n : ℕ) (seqs : List ℕ)
    → first_bad at n (map (item_of (placed_bare p)) seqs) ≡ first_bad at n (map (item_of p) seqs)
first_bare at p n [] = refl
first_bare at p n (seq ∷ seqs) =
    let skipped = skips p.source && is_absent_result (result_at p.run seq) in
    let later = map (item_of (placed_bare p)) seqs in
    ap (λ r. first_bad at n ((if skipped then Skipped else item_by r) ∷ later)) (record_bare p.options.records p.run seq)
    ∙ by_item skipped (record_of p.options.records p.run seq) (first_bare at p (n + 1) seqs)
  where
    by_item : (skipped : Bool) (r : Result Record Fault)
        → first_bad at (n + 1) (map (item_of (placed_bare p)) seqs) ≡ first_bad at (n + 1) (map (item_of p) seqs)
        → first_bad at n ((if skipped then Skipped else item_by (result_map bare r)) ∷ map (item_of (placed_bare p)) seqs)
        ≡ first_bad at n ((if skipped then Skipped else item_by r) ∷ map (item_of p) seqs)
    by_item true r rest = rest
    by_item false (Ok r) rest = rest
    by_item false (Err fault) rest = refl

by_opening : (source : Source) (number : ℕ) (fault : Option Fault) (some others : List Item)
    → first_bad (Single source number) 0 some ≡ first_bad (Single source number) 0 others
    → opened_or source number fault some ≡ opened_or source number fault others
by_opening source number None some others same = same
by_opening source number (Some fault) some others same = refl

-- the errors of a run
pub faults_bare : (p : Placed) → run_faults (placed_bare p) ≡ run_faults p
faults_bare p =
    by_opening p.source p.number (opening_fault p) (items_of (placed_bare p)) (items_of p)
    (first_bare (Single p.source p.number) p 0 (range_with_len 0 (length (results_of p.run))))
