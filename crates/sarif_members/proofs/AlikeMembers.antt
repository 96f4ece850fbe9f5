-- What is read from a result except for its fingerprints depends on eleven of its members.
use Rattle.std.proofs.Common.{◌≡◌, ℕ, Bool, true, false, List, codes, refl, ap}
use Rattle.std.specs.Prelude.{Ok, Err, option_and_then, unwrap_or, if◌then◌else◌}
use Rattle.serde_json.specs.Data.{Data}
use Rattle.serde_json.specs.Find.{get, as_str, as_array}
use Rattle.sarif_model.specs.declared.fault.Fault.{Fault}
use Rattle.sarif_model.specs.declared.fault.Fault.TheVariants.{AbsentInput, BadKind, BadLevel, BadGuid, BadSuppression, BadMember}
use Rattle.sarif_model.specs.declared.kinds.Kind.TheVariants.{Fail}
use Rattle.sarif_members.specs.Regions.{member_in, region_within, own_region}
use Rattle.sarif_model.specs.Members.{first_of, result_map, unless_null, member_at, of_kind, text_at, object_at, objects_at, itself_if_object, elements_of, if_objects, read_each, ◌>>=◌}
use Rattle.sarif_members.specs.OwnMembers.{check_present, own_kind, as_kind, own_level, as_level, own_guid, as_guid, own_statuses, own_message, own_rule_id, own_message_and_rule, own_indexes, own_location}
use Rattle.sarif_model.specs.Run.{elements_or_none, is_absent_result, is_text}
use Rattle.sarif_model.specs.Suppression.{status_of}

pub record AreAlikeBeside (x y : Data) : Type 0 where
  pub state : get (codes "baselineState") x ≡ get (codes "baselineState") y
  pub kind : get (codes "kind") x ≡ get (codes "kind") y
  pub level : get (codes "level") x ≡ get (codes "level") y
  pub guid : get (codes "correlationGuid") x ≡ get (codes "correlationGuid") y
  pub suppressions : get (codes "suppressions") x ≡ get (codes "suppressions") y
  pub message : get (codes "message") x ≡ get (codes "message") y
  pub rule_id : get (codes "ruleId") x ≡ get (codes "ruleId") y
  pub rule_index : get (codes "ruleIndex") x ≡ get (codes "ruleIndex") y
  pub rule : get (codes "rule") x ≡ get (codes "rule") y
  pub provenance : get (codes "provenance") x ≡ get (codes "provenance") y
  pub locations : get (codes "locations") x ≡ get (codes "locations") y

-- ---- each reading

pub member_same : (name : List ℕ) (x y : Data) → get name x ≡ get name y → member_at name x ≡ member_at name y
member_same name x y same = ap (option_and_then unless_null) same

pub absent_same : (x y : Data) → AreAlikeBeside x y → is_absent_result x ≡ is_absent_result y
absent_same x y same = ap (λ o. is_text (codes "absent") (option_and_then as_str o)) same.state

pub present_same : (x y : Data) → AreAlikeBeside x y → check_present x ≡ check_present y
present_same x y same = ap (λ b. if b then Err AbsentInput else Ok tt) (absent_same x y same)

pub kind_same : (x y : Data) → AreAlikeBeside x y → own_kind x ≡ own_kind y
kind_same x y same =
    ap (λ m. result_map (λ kind. unwrap_or kind Fail) (of_kind BadKind as_kind m)) (member_same (codes "kind") x y same.kind)

pub level_same : (x y : Data) → AreAlikeBeside x y → own_level x ≡ own_level y
level_same x y same = ap (of_kind BadLevel as_level) (member_same (codes "level") x y same.level)

pub guid_same : (x y : Data) → AreAlikeBeside x y → own_guid x ≡ own_guid y
guid_same x y same = ap (of_kind BadGuid as_guid) (member_same (codes "correlationGuid") x y same.guid)

pub objects_same : (wrong : Fault) (name : List ℕ) (x y : Data) → get name x ≡ get name y → objects_at wrong name x ≡ objects_at wrong name y
objects_same wrong name x y same =
    ap (λ m. elements_of (of_kind wrong as_array m) >>= if_objects wrong) (member_same name x y same)

pub statuses_same : (x y : Data) → AreAlikeBeside x y → own_statuses x ≡ own_statuses y
unfolding own_statuses
statuses_same x y same =
    ap (λ found. found >>= read_each status_of) (objects_same BadSuppression (codes "suppressions") x y same.suppressions)

pub text_same : (name : List ℕ) (x y : Data) → get name x ≡ get name y → text_at BadMember name x ≡ text_at BadMember name y
text_same name x y same = ap (of_kind BadMember as_str) (member_same name x y same)

pub object_same : (name : List ℕ) (x y : Data) → get name x ≡ get name y → object_at BadMember name x ≡ object_at BadMember name y
object_same name x y same = ap (of_kind BadMember itself_if_object) (member_same name x y same)

pub message_same : (x y : Data) → AreAlikeBeside x y → own_message x ≡ own_message y
unfolding own_message
message_same x y same = rw (object_same (codes "message") x y same.message) refl

pub rule_id_same : (x y : Data) → AreAlikeBeside x y → own_rule_id x ≡ own_rule_id y
unfolding own_rule_id
rule_id_same x y same =
    rw (
      text_same (codes "ruleId") x y same.rule_id,
      object_same (codes "rule") x y same.rule,
    ) refl

pub said_same : (x y : Data) → AreAlikeBeside x y → own_message_and_rule x ≡ own_message_and_rule y
unfolding own_message_and_rule
said_same x y same =
    rw (
      message_same x y same,
      rule_id_same x y same,
      object_same (codes "provenance") x y same.provenance,
    ) refl

pub indexes_same : (x y : Data) → AreAlikeBeside x y → own_indexes x ≡ own_indexes y
unfolding own_indexes
indexes_same x y same =
    rw (
      member_same (codes "ruleIndex") x y same.rule_index,
      member_same (codes "rule") x y same.rule,
      member_same (codes "provenance") x y same.provenance,
    ) refl

pub location_same : (x y : Data) → AreAlikeBeside x y → own_location x ≡ own_location y
unfolding own_location
location_same x y same = rw (member_same (codes "locations") x y same.locations) refl

pub region_same : (regions : Bool) (x y : Data) → AreAlikeBeside x y → own_region regions x ≡ own_region regions y
region_same false x y same = refl
region_same true x y same =
    ap (λ l. region_within (member_in (codes "physicalLocation") (first_of (elements_or_none (option_and_then as_array l)))))
    same.locations
