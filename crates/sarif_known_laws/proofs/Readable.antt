-- The records of results that were read can be read again.
use Rattle.std.proofs.Common.{◌≡◌, ℕ, zero, suc, ◌<◌, ◌^◌, Bool, true, false, List, [], Option, Some, None, codes, refl, sym, ap, ◌∙◌, subst}
use Rattle.std.specs.Prelude.{Result, Ok, Err, IfSome, option_and_then, slice_index_or}
use Rattle.serde_json.specs.Data.{Data, null, boolean, number, string, array, object, Items, no_items, item, Members}
use Rattle.serde_json.specs.Find.{get, as_array, as_object, as_str}
use Rattle.json_parts.specs.Indexed.{json_of}
use Rattle.json_parts.specs.Mark.{without_mark}
use Rattle.json_parts.specs.Internal.Ordered.{AreItemsOrdered, AreMembersOrdered, IsOrdered}
use Rattle.json_parts.specs.Stripping.{stripped}
use Rattle.json_parts.proofs.Stripped.{get-IsOrdered}
use Rattle.sarif_model.specs.declared.fault.Fault.{Fault}
use Rattle.sarif_model.specs.declared.fault.Fault.TheVariants.{BadFingerprint, BadGuid, NotJson}
use Rattle.sarif_model.specs.declared.kinds.Level.{Level}
use Rattle.sarif_model.specs.declared.kinds.Level.TheVariants.{NoLevel}
use Rattle.sarif_model.specs.declared.record.Record.{Record}
use Rattle.sarif_model.specs.Guid.{guid_of_text}
use Rattle.sarif_model.specs.Members.{◌>>=◌, elements, member_at, of_kind, or_wrong, unless_null}
use Rattle.sarif_model.specs.Run.{elements_or_none, result_at, runs_of}
use Rattle.sarif_read.specs.Reading.{at_whole, check_each, check_log, log_of, log_of_value, ok_or}
use Rattle.sarif_read.proofs.RunOf.{stripped_ordered}
use Rattle.sarif_runs.specs.declared.head.RunHead.{RunHead}
use Rattle.sarif_members.specs.declared.parts.Parts.{Parts}
use Rattle.sarif_runs.specs.Descriptor.{descriptor_of, reference_of}
use Rattle.sarif_members.specs.Fingerprints.{pairs_at, pairs_of}
use Rattle.sarif_runs.specs.Head.{head_of}
use Rattle.sarif_runs.specs.Level.{first_level, is_fail, level_of, overriding_level_at}
use Rattle.sarif_members.specs.OwnMembers.{as_guid, check_present, own_fingerprints, own_guid, own_indexes, own_kind, own_level, own_location, own_message_and_rule, own_statuses, parts_of}
use Rattle.sarif_runs.specs.Place.{place_of}
use Rattle.sarif_members.specs.Regions.{own_region}
use Rattle.sarif_runs.specs.Record.{if_placed, record_by, record_in, record_of}
use Rattle.sarif_model.specs.Written.{text_members}
use Rattle.sarif_model.specs.Driver.{tool_name}
use Rattle.sarif_runs.specs.declared.run_options.RecordOptions.{RecordOptions}
use Rattle.sarif_known.specs.Laws.{IsOfTool, IsRegion}
use Rattle.sarif_accept_laws.proofs.GivenFile.{json_ordered}
use Rattle.sarif_accept_laws.proofs.GuidFits.{guid_fits}
use Rattle.sarif_known_laws.proofs.NamesKept.{kept_twice, ordered_kept}
use Rattle.sarif_known.proofs.RecordBack.{none_placed, placed_twice}
use Rattle.sarif_known_laws.proofs.RegionRead.{IsFilled, placed_too, region_read, snippet_read}
use Rattle.sarif_known_laws.proofs.Rising.{rises}

-- both steps went well
bind_ok : {A B E : Type 0} (m : Result A E) (f : A → Result B E) (y : B) → (m >>= f) ≡ Ok y → (x : A) × (m ≡ Ok x) × (f x ≡ Ok y)
bind_ok (Ok x) f y is = (x, refl, is)
bind_ok (Err e) f y is = let never : ⊥ = cc in absurd never

ok_is : {A E : Type 0} (x y : A) → ◌≡◌ {A = Result A E} (Ok x) (Ok y) → x ≡ y
ok_is x y is = cc

-- ---- the members of a result

pub guid_is_small : (o : Option Data) (g : Option ℕ) → of_kind BadGuid as_guid o ≡ Ok g → IfSome g (λ n. n < 2 ^ 128)
guid_is_small None g is = let none : None ≡ g = ok_is None g is in subst (λ o. IfSome o (λ n. n < 2 ^ 128)) none tt
guid_is_small (Some d) g is = by_text (as_str d) is
  where
    by_guid : (o : Option ℕ) → IfSome o (λ n. n < 2 ^ 128) → or_wrong BadGuid o ≡ Ok g → IfSome g (λ n. n < 2 ^ 128)
    by_guid None small is = let never : ⊥ = cc in absurd never
    by_guid (Some n) small is = let same : Some n ≡ g = ok_is (Some n) g is in subst (λ o. IfSome o (λ n. n < 2 ^ 128)) same small

    by_text : (o : Option (List ℕ)) → or_wrong BadGuid (option_and_then guid_of_text o) ≡ Ok g → IfSome g (λ n. n < 2 ^ 128)
    by_text None is = let never : ⊥ = cc in absurd never
    by_text (Some text) is = by_guid (guid_of_text text) (guid_fits text) is

object_ordered : (o : Option Data) (found : Option Members) → IfSome o IsOrdered
    → of_kind BadFingerprint as_object (option_and_then unless_null o) ≡ Ok found → IfSome found AreMembersOrdered
object_ordered None found ordered is = subst (λ o. IfSome o AreMembersOrdered) (ok_is None found is) tt
object_ordered (Some null) found ordered is = subst (λ o. IfSome o AreMembersOrdered) (ok_is None found is) tt
object_ordered (Some (boolean b)) found ordered is = let never : ⊥ = cc in absurd never
object_ordered (Some (number n)) found ordered is = let never : ⊥ = cc in absurd never
object_ordered (Some (string s)) found ordered is = let never : ⊥ = cc in absurd never
object_ordered (Some (array ds)) found ordered is = let never : ⊥ = cc in absurd never
object_ordered (Some (object ms)) found ordered is = subst (λ o. IfSome o AreMembersOrdered) (ok_is (Some ms) found is) ordered

get_ordered : (name : List ℕ) (d : Data) → IsOrdered d → IfSome (get name d) IsOrdered
get_ordered name d ordered = by_found (get name d) refl
  where
    by_found : (o : Option Data) → get name d ≡ o → IfSome o IsOrdered
    by_found None is = tt
    by_found (Some e) is = get-IsOrdered name d e ordered is

pairs_ordered : (found : Option Members) (ps : List (List ℕ × List ℕ)) → IfSome found AreMembersOrdered → pairs_of found ≡ Ok ps
    → AreMembersOrdered (text_members ps)
pairs_ordered None ps ordered is = subst (λ l. AreMembersOrdered (text_members l)) (ok_is [] ps is) tt
pairs_ordered (Some ms) ps ordered is = (rises ms ps ordered is).ordered

at_ordered : (name : List ℕ) (d : Data) (ps : List (List ℕ × List ℕ)) → IsOrdered d → pairs_at name d ≡ Ok ps → AreMembersOrdered (text_members ps)
at_ordered name d ps ordered is =
    let steps = bind_ok (of_kind BadFingerprint as_object (member_at name d)) pairs_of ps is in
    pairs_ordered steps.0 ps (object_ordered (get name d) steps.0 (get_ordered name d ordered) steps.1) steps.2

-- what is read from a result, and from which member
pub record AreReadFrom (regions : Bool) (d : Data) (parts : Parts) : Type 0 where
  pub guid : IfSome parts.guid (λ n. n < 2 ^ 128)
  pub held : own_statuses d ≡ Ok parts.held
  pub full : pairs_at (codes "fingerprints") d ≡ Ok parts.full
  pub partial : pairs_at (codes "partialFingerprints") d ≡ Ok parts.partial
  pub region : parts.region ≡ (own_region regions d).region
  pub snippet : parts.snippet ≡ (own_region regions d).snippet

pub parts_read : (regions : Bool) (d : Data) (parts : Parts) → parts_of regions d ≡ Ok parts → AreReadFrom regions d parts
unfolding parts_of own_fingerprints
parts_read regions d parts is =
    let present = bind_ok (check_present d) _ parts is in
    let kind = bind_ok (own_kind d) _ parts present.2 in
    let level = bind_ok (own_level d) _ parts kind.2 in
    let guid = bind_ok (own_guid d) _ parts level.2 in
    let fingerprints = bind_ok (own_fingerprints d) _ parts guid.2 in
    let held = bind_ok (own_statuses d) _ parts fingerprints.2 in
    let said = bind_ok (own_message_and_rule d) _ parts held.2 in
    let indexes = bind_ok (own_indexes d) _ parts said.2 in
    let location = bind_ok (own_location d) _ parts indexes.2 in
    let whole = ok_is _ parts location.2 in
    let full = bind_ok (pairs_at (codes "fingerprints") d) _ fingerprints.0 fingerprints.1 in
    let partial = bind_ok (pairs_at (codes "partialFingerprints") d) _ fingerprints.0 full.2 in
    let both = ok_is _ fingerprints.0 partial.2 in
    subst (AreReadFrom regions d) whole (record {
      guid = guid_is_small (member_at (codes "correlationGuid") d) guid.0 guid.1;
      held = held.1;
      full = subst (λ f. pairs_at (codes "fingerprints") d ≡ Ok f.full) both full.1;
      partial = subst (λ f. pairs_at (codes "partialFingerprints") d ≡ Ok f.partial) both partial.1;
      region = refl;
      snippet = refl;
    })

no_level : (fails : Bool) (own overriding default : Option Level) → fails ≡ false → first_level fails own overriding default ≡ NoLevel
no_level true own overriding default is = let never : ⊥ = cc in absurd never
no_level false own overriding default is = refl

level_right : (head : RunHead) (parts : Parts) (level : Level) → level_of head parts ≡ Ok level → is_fail parts.kind ≡ false → level ≡ NoLevel
level_right head parts level is passes =
    let descriptor = bind_ok (descriptor_of head.components (reference_of parts)) _ level is in
    let overriding = bind_ok (overriding_level_at head.invocations parts.invocation descriptor.0) _ level descriptor.2 in
    sym (ok_is _ level overriding.2) ∙ no_level (is_fail parts.kind) _ _ _ passes

by_sound : (options : RecordOptions) (d : Data) (head : RunHead) (tool : List ℕ) (parts : Parts) (r : Record) → IsOrdered d
    → AreReadFrom options.regions d parts → record_by options.ignored head tool parts ≡ Ok r → IsOfTool options tool r
unfolding record_by
by_sound options d head tool parts r ordered read is =
    let descriptor = bind_ok (descriptor_of head.components (reference_of parts)) _ r is in
    let level = bind_ok (level_of head parts) _ r descriptor.2 in
    let place = bind_ok (place_of head.artifacts parts) _ r level.2 in
    let whole = ok_is _ r place.2 in
    subst (IsOfTool options tool) whole
    (record {
      tool_is = refl;
      readable = record {
        guid = read.guid;
        level = level_right head parts level.0 level.1;
        full = ordered_kept options.ignored parts.full (at_ordered (codes "fingerprints") d parts.full ordered read.full);
        partial = ordered_kept options.ignored parts.partial (at_ordered (codes "partialFingerprints") d parts.partial ordered read.partial);
        full_kept = kept_twice options.ignored parts.full;
        partial_kept = kept_twice options.ignored parts.partial;
        region = placed_too IsRegion place.0 parts.region (subst (λ o. IfSome o IsRegion) (sym read.region) (region_read options.regions d));
        snippet = placed_too IsFilled place.0 parts.snippet (subst (λ o. IfSome o IsFilled) (sym read.snippet) (snippet_read options.regions d));
        region_placed = placed_twice place.0 parts.region;
        snippet_placed = placed_twice place.0 parts.snippet;
        no_region = λ none. ap (if_placed place.0) (read.region ∙ ap (λ b. (own_region b d).region) none) ∙ none_placed place.0;
        no_snippet = λ none. ap (if_placed place.0) (read.snippet ∙ ap (λ b. (own_region b d).snippet) none) ∙ none_placed place.0;
        unadmitted = refl;
      };
    })

-- ---- a log

nth_ordered : (ds : Items) (i : ℕ) → AreItemsOrdered ds → IsOrdered (slice_index_or (elements ds) i null)
nth_ordered no_items i ordered = tt
nth_ordered (item d ds) zero ordered = ordered.0
nth_ordered (item d ds) (suc i) ordered = nth_ordered ds i ordered.1

listed_ordered : (o : Option Data) (i : ℕ) → IfSome o IsOrdered → IsOrdered (slice_index_or (elements_or_none (option_and_then as_array o)) i null)
listed_ordered None i ordered = tt
listed_ordered (Some null) i ordered = tt
listed_ordered (Some (boolean b)) i ordered = tt
listed_ordered (Some (number n)) i ordered = tt
listed_ordered (Some (string s)) i ordered = tt
listed_ordered (Some (array ds)) i ordered = nth_ordered ds i ordered
listed_ordered (Some (object ms)) i ordered = tt

record_sound : (options : RecordOptions) (run : Data) (seq : ℕ) (r : Record) → IsOrdered run → record_of options run seq ≡ Ok r
    → IsOfTool options (tool_name run) r
unfolding record_of record_in
record_sound options run seq r ordered is =
    let head = bind_ok (head_of run) _ r is in
    let parts = bind_ok (parts_of options.regions (result_at run seq)) (record_by options.ignored head.0 (tool_name run)) r head.2 in
    let result : IsOrdered (result_at run seq) = listed_ordered (get (codes "results") run) seq (get_ordered (codes "results") run ordered) in
    by_sound options (result_at run seq) head.0 (tool_name run) parts.0 r result (parts_read options.regions (result_at run seq) parts.0 parts.1) parts.2

some_ok : {A : Type 0} (o : Option A) (fault : Fault) (x : A) → at_whole (ok_or o fault) ≡ Ok x → o ≡ Some x
some_ok None fault x is = let never : ⊥ = cc in absurd never
some_ok (Some y) fault x is = ap Some (ok_is y x is)

-- each result of a log that is read has a record that can be read again
pub read_sound : (options : RecordOptions) (allow : Bool) (bytes : List ℕ) (runs : List Data) (k seq : ℕ) (r : Record) → log_of allow bytes ≡ Ok runs
    → record_of options (slice_index_or runs k null) seq ≡ Ok r → IsOfTool options (tool_name (slice_index_or runs k null)) r
unfolding log_of log_of_value
read_sound options allow bytes runs k seq r is got =
    let value = bind_ok (at_whole (ok_or (json_of (without_mark bytes)) NotJson)) _ runs is in
    let form = bind_ok (at_whole (check_log (stripped value.0))) _ runs value.2 in
    let each = bind_ok (check_each allow 0 0 (runs_of (stripped value.0))) _ runs form.2 in
    let are : runs_of (stripped value.0) ≡ runs = ok_is _ runs each.2 in
    let whole : IsOrdered (stripped value.0) =
    stripped_ordered value.0 (json_ordered (without_mark bytes) value.0 (some_ok (json_of (without_mark bytes)) NotJson value.0 value.1)) in
    let run : IsOrdered (slice_index_or (runs_of (stripped value.0)) k null) =
    listed_ordered (get (codes "runs") (stripped value.0)) k (get_ordered (codes "runs") (stripped value.0) whole) in
    record_sound options (slice_index_or runs k null) seq r (subst (λ l. IsOrdered (slice_index_or l k null)) are run) got
