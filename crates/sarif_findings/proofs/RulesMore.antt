-- Rules that are found by a table of their ids.
use Rattle.std.proofs.Common.{◌≡◌, ℕ, Bool, true, false, cond, is_some, List, [], map, slice_get, Option, Some, None, option_map, option_and_then, codes, refl, sym, ap, ◌∙◌, arith}
use Rattle.std.specs.Prelude.{if◌then◌else◌}
use Rattle.std.specs.Option.{option_or}
use Rattle.std.proofs.lemmas.Option.{slice_get_past, slice_get-map}
use Rattle.serde_json.specs.Find.{get}
use Rattle.std.specs.Borrow.{Bor}
use Rattle.serde_json.specs.Data.{Data}
use Rattle.serde_json.specs.View.{view}
use Rattle.serde_json.specs.declared.value.Value.{Value}
use Rattle.sarif_model.specs.declared.references.RuleReference.{RuleReference}
use Rattle.sarif_findings.specs.Located.{own_id_at, rule_at, descriptor_at}
use Rattle.sarif_findings.specs.Lookup.{rule_by, element_at, component_by, driver_of}
use Rattle.sarif_findings.specs.Internal.RulesOf.{rules_in, rules_of, extensions_of}

-- a rule that is put at its id, where none was there
pub put_rule : (here : Bool) (had has : Option (Bor Value)) (rule : Bor Value) (said : Bool) → said ≡ here → has ≡ cond here (Some rule) had
    → (here ≡ true → had ≡ None)
    → option_map (λ r. view r.now) has ≡ option_or (option_map (λ r. view r.now) had) (if said then Some (view rule.now) else None)
put_rule true had has rule said is put none = rw (put, none refl, is) refl
put_rule false None has rule said is put none = rw (put, is) refl
put_rule false (Some r) has rule said is put none = ap (option_map (λ v. view v.now)) put

pub none_if : {X : Type 0} (o : Option X) → is_some o ≡ false → o ≡ None
none_if None e = refl
none_if (Some x) e = cc

-- one more rule is seen
or_more : (had : Option Data) (here : Bool) (rule : Data) (later : Option Data)
    → option_or (option_or had (if here then Some rule else None)) later ≡ option_or had (if here then Some rule else later)
or_more None true rule later = refl
or_more None false rule later = refl
or_more (Some d) true rule later = refl
or_more (Some d) false rule later = refl

-- ---- the descriptor of a result

none_among : (index : Option ℕ) (id : Option (List ℕ)) → rule_by index id [] ≡ None
none_among (Some index) id = slice_get_past [] index (omega arith)
none_among None (Some id) = refl
none_among None None = refl

-- the rule of a component, by the rules of the component
rule_of : (r : RuleReference) (component : Option Data)
    → rule_by r.index (own_id_at r) (rules_of component) ≡ option_and_then (rule_at r) component
rule_of r None = none_among r.index (own_id_at r)
rule_of r (Some component) = refl

-- for a result that names no extension
pub by_driver : (run : Data) (r : RuleReference) (driver : List Data) (told : Option Data) → r.extension ≡ None → driver ≡ rules_of (driver_of run)
    → told ≡ rule_by r.index (own_id_at r) driver → told ≡ descriptor_at run r
by_driver run r driver told none is named =
    named ∙ ap (rule_by r.index (own_id_at r)) is ∙ rule_of r (driver_of run)
    ∙ ap (λ i. option_and_then (rule_at r) (component_by run i)) (sym none)

extension_is : (tool : Option Data) (i : ℕ) → option_and_then (λ t. element_at (codes "extensions") t i) tool ≡ slice_get (extensions_of tool) i
extension_is None i = sym (slice_get_past [] i (omega arith))
extension_is (Some tool) i = refl

rule_of_extension : (r : RuleReference) (extension : Option Data)
    → option_and_then (rule_at r) extension ≡ option_and_then (rule_by r.index (own_id_at r)) (option_map rules_in extension)
rule_of_extension r None = refl
rule_of_extension r (Some extension) = refl

-- for a result that names an extension
pub by_extension : (run : Data) (r : RuleReference) (i : ℕ) (extensions : List (List Value)) (found : Option (List Value)) → r.extension ≡ Some i
    → map (map view) extensions ≡ map rules_in (extensions_of (get (codes "tool") run)) → found ≡ slice_get extensions i
    → option_and_then (rule_by r.index (own_id_at r)) (option_map (map view) found) ≡ descriptor_at run r
by_extension run r i extensions found some are is =
    let own = extensions_of (get (codes "tool") run) in
    ap (λ o. option_and_then (rule_by r.index (own_id_at r)) (option_map (map view) o)) is
    ∙ ap (option_and_then (rule_by r.index (own_id_at r)))
    (sym (slice_get-map (map view) extensions i) ∙ ap (λ rs. slice_get rs i) are ∙ slice_get-map rules_in own i)
    ∙ sym (rule_of_extension r (slice_get own i))
    ∙ ap (option_and_then (rule_at r)) (sym (extension_is (get (codes "tool") run) i))
    ∙ ap (λ o. option_and_then (rule_at r) (component_by run o)) (sym some)
