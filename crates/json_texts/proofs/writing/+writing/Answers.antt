use Rattle.std.proofs.Common.{rules, [], ◌∷◌, ◌++◌, option_map, refl, sym, ap, ◌∙◌, subst, append_assoc}
use Rattle.std.proofs.lemmas.Result.{on_ok_weaker}
use Rattle.json.specs.Token as token
use Rattle.json.specs.Json.{null, boolean, number, string, object}
use Rattle.json.specs.Tree.{json_tokens, items_tokens, HasNumbers}
use Rattle.json_parts.specs.Indexed.{json_at}
use Rattle.json_texts.specs.Whole.{written}
use Rattle.json_texts.specs.Internal.Walking.{Sorts, members_at, written_items, written_members}
use Rattle.json_texts.proofs.Orders.{written_null, written_boolean, written_number, written_string, written_array, written_object}
use Rattle.json_texts.proofs.Standing.{known, a_string, a_number, a_boolean, a_null}
use Rattle.json_texts.proofs.Tokens.{one_written, inner_below}
use Rattle.json_texts.proofs.writing.+writing.Goals as goal

pub write_value-returns-in-Some-clause-tokens : goal.write_value-returns-in-Some-clause-tokens
write_value-returns-in-Some-clause-tokens t c =
    let ts = c.args.element.now in
    let keeps = c.args.keeps_numbers in
    let s = c.in-Some.text.now in
    let is = a_string (json_at ts) s (c.in-Some.ensures (json_at ts) (known ts c.requires).begins) in
    one_written c.string.result c.args.out.now.tokens c.string.new.self.tokens (token.string s) (string s) (written keeps (json_at ts)) refl
    (sym (ap (written keeps) is ∙ written_string keeps s)) c.string.ensures.ok

pub write_value-number-requires : goal.write_value-number-requires
write_value-number-requires t c =
    let ts = c.args.element.now in
    let k = known ts c.requires in
    subst HasNumbers (a_number (json_at ts) c.in-Some-as_number.text.now (c.in-Some-as_number.ensures (json_at ts) k.begins)) k.numbers

pub write_value-returns-in-Some-as_number-clause-tokens : goal.write_value-returns-in-Some-as_number-clause-tokens
write_value-returns-in-Some-as_number-clause-tokens t c =
    let ts = c.args.element.now in
    let keeps = c.args.keeps_numbers in
    let s = c.in-Some-as_number.text.now in
    let is = a_number (json_at ts) s (c.in-Some-as_number.ensures (json_at ts) (known ts c.requires).begins) in
    one_written c.number.result c.args.out.now.tokens c.number.new.self.tokens (token.number s) (number s) (written keeps (json_at ts)) refl
    (sym (ap (written keeps) is ∙ written_number keeps s)) c.number.ensures.ok

pub write_value-returns-in-Some-2-clause-tokens : goal.write_value-returns-in-Some-2-clause-tokens
write_value-returns-in-Some-2-clause-tokens t c =
    let ts = c.args.element.now in
    let keeps = c.args.keeps_numbers in
    let sorts = subst (λ o. Sorts ts (option_map (λ v. v.items) o)) c.in-Some-2.is c.in_ok-members.ensures in
    let all =
    ap (λ xs. object (written_members keeps (members_at xs))) c.as_slice.ensures.value
    ∙ ap (λ ms. object (written_members keeps ms)) sorts.2 ∙ sym (written_object keeps sorts.0) ∙ ap (written keeps) (sym sorts.1) in
    on_ok_weaker c.write_members.result (λ e. e ∙ ap (λ j. c.args.out.now.tokens ++ json_tokens j) all) c.write_members.ensures.tokens

pub write_value-items-init : goal.write_value-items-init
write_value-items-init t c =
    let keeps = c.args.keeps_numbers in
    let o = c.in-Some-items_in.ensures in
    let old = c.args.out.now.tokens in
    let opened = c.in_ok-begin_array.ensures in
    let rest = items_tokens (written_items keeps o.1) in
    let all = sym (ap (written keeps) o.3 ∙ written_array keeps o.1) in (
      o.0,
      o.1,
      o.4,
      o.2,
      ap (λ xs. xs ++ rest) opened.ok ∙ append_assoc old (token.begin_array ∷ []) rest ∙ ap (λ j. old ++ json_tokens j) all,
      opened.room.0,
    )

pub write_value-write_value-requires : goal.write_value-write_value-requires
write_value-write_value-requires t c =
    let l = c.items.invariant in
    let f = c.in-Some-take_item.ensures.value l.0 l.1 l.2 in
    (inner_below _ _ _ _ l.3 f.2 (search rules), c.in-Some-take_item.ensures.writable)

pub write_value-items-preserved : goal.write_value-items-preserved
write_value-items-preserved t c =
    let keeps = c.args.keeps_numbers in
    let l = c.items.invariant in
    let f = c.in-Some-take_item.ensures.value l.0 l.1 l.2 in
    let done = c.in_ok-write_value.ensures in
    let now = c.items.out.tokens in
    let rest = items_tokens (written_items keeps f.0) in (
      l.0,
      f.0,
      f.3,
      l.3,
      ap (λ xs. xs ++ rest) done.tokens ∙ append_assoc now (json_tokens (written keeps (json_at c.in-Some-take_item.item))) rest
          ∙ sym (ap (λ js. now ++ items_tokens (written_items keeps js)) f.1) ∙ l.4,
      done.before ∙ l.5,
    )

pub write_value-returns-in-Some-items_in-clause-tokens : goal.write_value-returns-in-Some-items_in-clause-tokens
write_value-returns-in-Some-items_in-clause-tokens t c =
    let l = c.items.invariant in
    let over = c.in_default-take_item.ensures.value l.0 l.1 l.2 in
    on_ok_weaker c.end_array.result
    (λ e. e ∙ sym (ap (λ js. c.items.out.tokens ++ items_tokens (written_items c.args.keeps_numbers js)) over) ∙ l.4) c.end_array.ensures.ok

pub write_value-returns-in-Some-as_bool-clause-tokens : goal.write_value-returns-in-Some-as_bool-clause-tokens
write_value-returns-in-Some-as_bool-clause-tokens t c =
    let ts = c.args.element.now in
    let keeps = c.args.keeps_numbers in
    let b = c.in-Some-as_bool.b in
    let is = a_boolean (json_at ts) b (c.in-Some-as_bool.ensures (json_at ts) (known ts c.requires).begins) in
    one_written c.boolean.result c.args.out.now.tokens c.boolean.new.self.tokens (token.boolean b) (boolean b)
    (written keeps (json_at ts)) refl (sym (ap (written keeps) is ∙ written_boolean keeps b)) c.boolean.ensures.ok

pub write_value-returns-in-None-clause-tokens : goal.write_value-returns-in-None-clause-tokens
write_value-returns-in-None-clause-tokens t c =
    let ts = c.args.element.now in
    let keeps = c.args.keeps_numbers in
    let j = json_at ts in
    let b = (known ts c.requires).begins in
    let object_none = subst (λ o. Sorts ts (option_map (λ v. v.items) o)) c.in_default-2.is c.in_ok-members.ensures in
    let is = a_null j (c.in_default.ensures j b) (c.in_default-as_number.ensures j b) (c.in-None.ensures j b) c.in_default-items_in.ensures object_none in
    one_written c.null.result c.args.out.now.tokens c.null.new.self.tokens token.null null (written keeps j) refl
    (sym (ap (written keeps) is ∙ written_null keeps)) c.null.ensures.ok
