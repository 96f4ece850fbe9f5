use Rattle.std.proofs.Common.{rules, ◌≡◌, ◌+◌, ◌-◌, ◌<◌, [], ◌∷◌, length, Some, None, Result, Ok, Err, OnOk, ap, ap₂, ◌∙◌, arith}
use Rattle.std.proofs.lemmas.List.{length-append}
use Rattle.json.specs.Token.{Token}
use Rattle.json.specs.Json.{after_end_array, read_key, value, skip_value}
use Rattle.json.specs.Reads.{token_of, skip_items, skip_members}
use Rattle.json.specs.Tape.{Grown}
use Rattle.json.proofs.Grammar.{left, left-parse_map, left_none, value_is, value-begin_array, value-begin_object, closed_array, read_key_is, items_fail, members_no_key, members_fail}
use Rattle.json_parts.proofs.Grown.{grown_push}
use Rattle.json_parts.proofs.Turns.{item_turn, member_turn, items_closed, members_closed}
use Rattle.json_parts.proofs.tape.filling.+filling.Goals as goal

on_ok : {A E : Type 0} (r : Result A E) {P Q : Type 0} → (P → Q) → OnOk r P → OnOk r Q
on_ok (Ok a) f h = f h
on_ok (Err e) f h = tt

pub push_items-items-preserved : goal.push_items-items-preserved
push_items-items-preserved t c =
    let l = c.items.invariant in
    let going : (after_end_array c.items.reader ≡ None) × (c.take_end_array.new.self ≡ c.items.reader) = grind arith in
    let built : Grown c.items.nodes.items c.items.reader c.push_value.new.nodes.items c.push_value.new.reader
    × (skip_value c.args.depth c.items.reader ≡ Some c.push_value.new.reader) =
    rw (← going.1) c.in_ok-push_value.ensures.ok in
    let less : length c.push_value.new.reader < length c.items.reader = rw (← going.1) c.in_ok-push_value.ensures.shorter in
    let turn = item_turn c.args.depth l.0 c.push.new.nodes.items c.items.nodes.items c.push_value.new.nodes.items c.args.reader.now
    c.items.reader c.push_value.new.reader l.1 l.2 going.0 l.4 built in
    (l.0 - 1, turn.0, turn.1, omega (arith, l.3, less), turn.2, omega (arith, l.5, c.in_ok-push_value.ensures.ok.0.longer))

pub push_items-returns-in_err-push_value-clause-err : goal.push_items-returns-in_err-push_value-clause-err
push_items-returns-in_err-push_value-clause-err t c invalid =
    let l = c.items.invariant in
    let going : (after_end_array c.items.reader ≡ None) × (c.take_end_array.new.self ≡ c.items.reader) = grind arith in
    let none : skip_value c.args.depth c.take_end_array.new.self ≡ None = c.push_value.ensures.err (grind arith) in
    l.2 ∙ ap left (items_fail (value c.args.depth) l.0 c.items.reader going.0 (left_none _ (rw (← going.1) none)))

pub push_items-returns-clause-ok : goal.push_items-returns-clause-ok
push_items-returns-clause-ok t c =
    let l = c.items.invariant in
    let r = c.take_end_array.new.self in
    let ended : after_end_array c.items.reader ≡ Some r = grind arith in
    let at : c.len-at.result ≡ length c.args.nodes.now.items = search rules in
    let after : c.len-after.result ≡ length c.items.nodes.items = search rules in
    on_ok c.close.result
    (λ made. items_closed c.args.depth l.0 c.len-at.result
    (c.len-after.result + 1) c.args.nodes.now.items c.push.new.nodes.items c.items.nodes.items c.close.new.nodes.items
    c.args.reader.now c.items.reader r
    c.in_ok-push.ensures.ok l.4 (closed_array c.items.reader r ended) l.1 l.2 at (omega (arith, after)) made)
    c.close.ensures.ok

pub push_members-returns-in_err-name-clause-err : goal.push_members-returns-in_err-name-clause-err
push_members-returns-in_err-name-clause-err t c invalid =
    let l = c.members.invariant in
    l.2 ∙ ap left (members_no_key (value c.args.depth) l.0 c.members.reader c.in_err-name.ensures.value)

pub push_members-members-preserved : goal.push_members-members-preserved
push_members-members-preserved t c =
    let l = c.members.invariant in
    let s = c.next_key.new.self in
    let k = c.in-Some.name in
    let key : read_key c.members.reader ≡ Some (Some k.now, s) = grind arith in
    let turn = member_turn c.args.depth l.0 c.push.new.nodes.items c.members.nodes.items c.push-in-Some.new.nodes.items
    c.push_value.new.nodes.items c.args.reader.now c.members.reader s c.push_value.new.reader k
    l.1 l.2 key l.4 c.in_ok-push-2.ensures.ok c.in_ok-push_value.ensures.ok in
    let more : length c.push-in-Some.new.nodes.items ≡ length c.members.nodes.items + 1 = ap length c.in_ok-push-2.ensures.ok
    ∙ length-append c.members.nodes.items _ in
    let read = ap length (read_key_is c.members.reader (Some k.now) s key) in (
      l.0 - 1,
      turn.0,
      turn.1,
      omega (arith, l.3, read, c.in_ok-push_value.ensures.shorter),
      turn.2,
      omega (arith, l.5, more, c.in_ok-push_value.ensures.ok.0.longer),
    )

pub push_members-returns-in_err-push_value-clause-err : goal.push_members-returns-in_err-push_value-clause-err
push_members-returns-in_err-push_value-clause-err t c invalid =
    let l = c.members.invariant in
    let s = c.next_key.new.self in
    let k = c.in-Some.name.now in
    let key : read_key c.members.reader ≡ Some (Some k, s) = grind arith in
    let none : skip_value c.args.depth s ≡ None = c.push_value.ensures.err (grind arith) in
    l.2 ∙ ap left (members_fail (value c.args.depth) l.0 k c.members.reader s key (left_none _ none))

pub push_members-returns-clause-ok : goal.push_members-returns-clause-ok
push_members-returns-clause-ok t c =
    let l = c.members.invariant in
    let r = c.next_key.new.self in
    let ended : read_key c.members.reader ≡ Some (None, r) = grind arith in
    let at : c.len-at.result ≡ length c.args.nodes.now.items = search rules in
    let after : c.len-after.result ≡ length c.members.nodes.items = search rules in
    on_ok c.close.result
    (λ made. members_closed c.args.depth l.0 c.len-at.result
    (c.len-after.result + 1) c.args.nodes.now.items c.push.new.nodes.items c.members.nodes.items c.close.new.nodes.items
    c.args.reader.now c.members.reader r
    c.in_ok-push.ensures.ok l.4 (read_key_is c.members.reader None r ended) l.1 l.2 at (omega (arith, after)) made)
    c.close.ensures.ok

pub push_value-returns-in_err-token-clause-err : goal.push_value-returns-in_err-token-clause-err
push_value-returns-in_err-token-clause-err t c invalid =
    let empty : c.args.reader.now ≡ [] = grind arith in
    ap (skip_value c.args.depth) empty ∙ ap left (value_is c.args.depth [])

pub push_value-returns-in-String-clause-ok : goal.push_value-returns-in-String-clause-ok
push_value-returns-in-String-clause-ok t c =
    let first : c.args.reader.now ≡ token_of c.in_ok-token.token ∷ c.next.new.self = grind arith in
    let is : c.args.reader.now ≡ Token.string c.in-String.text.now ∷ c.next.new.self = grind (arith, first) in
    on_ok c.push.result
    (λ pushed. (
      grown_push c.args.nodes.now.items _ c.push.new.nodes.items c.args.reader.now c.next.new.self pushed is (λ all i. tt),
      ap (skip_value c.args.depth) is ∙ ap left (value_is c.args.depth _),
    ))
    c.push.ensures.ok

pub push_value-returns-in-Number-clause-ok : goal.push_value-returns-in-Number-clause-ok
push_value-returns-in-Number-clause-ok t c =
    let first : c.args.reader.now ≡ token_of c.in_ok-token.token ∷ c.next.new.self = grind arith in
    let is : c.args.reader.now ≡ Token.number c.in-Number.text.now ∷ c.next.new.self = grind (arith, first) in
    on_ok c.push-in-Number.result
    (λ pushed. (
      grown_push c.args.nodes.now.items _ c.push-in-Number.new.nodes.items c.args.reader.now c.next.new.self pushed is (λ all i. tt),
      ap (skip_value c.args.depth) is ∙ ap left (value_is c.args.depth _),
    ))
    c.push-in-Number.ensures.ok

pub push_value-returns-in-Bool-clause-ok : goal.push_value-returns-in-Bool-clause-ok
push_value-returns-in-Bool-clause-ok t c =
    let first : c.args.reader.now ≡ token_of c.in_ok-token.token ∷ c.next.new.self = grind arith in
    let is : c.args.reader.now ≡ Token.boolean c.in-Bool.b ∷ c.next.new.self = grind (arith, first) in
    on_ok c.push-in-Bool.result
    (λ pushed. (
      grown_push c.args.nodes.now.items _ c.push-in-Bool.new.nodes.items c.args.reader.now c.next.new.self pushed is (λ all i. tt),
      ap (skip_value c.args.depth) is ∙ ap left (value_is c.args.depth _),
    ))
    c.push-in-Bool.ensures.ok

pub push_value-returns-in-Null-clause-ok : goal.push_value-returns-in-Null-clause-ok
push_value-returns-in-Null-clause-ok t c =
    let first : c.args.reader.now ≡ token_of c.in_ok-token.token ∷ c.next.new.self = grind arith in
    let is : c.args.reader.now ≡ Token.null ∷ c.next.new.self = grind (arith, first) in
    on_ok c.push-in-Null.result
    (λ pushed. (
      grown_push c.args.nodes.now.items _ c.push-in-Null.new.nodes.items c.args.reader.now c.next.new.self pushed is (λ all i. tt),
      ap (skip_value c.args.depth) is ∙ ap left (value_is c.args.depth _),
    ))
    c.push-in-Null.ensures.ok

pub push_value-returns-in-EndObject-clause-err : goal.push_value-returns-in-EndObject-clause-err
push_value-returns-in-EndObject-clause-err t c invalid =
    let first : c.args.reader.now ≡ token_of c.in_ok-token.token ∷ c.next.new.self = grind arith in
    rw (value_is c.args.depth c.args.reader.now, first) (grind arith)

pub push_value-returns-then-depth-eq0-clause-err : goal.push_value-returns-then-depth-eq0-clause-err
unfolding value
push_value-returns-then-depth-eq0-clause-err t c invalid =
    let first : c.args.reader.now ≡ token_of c.in_ok-token.token ∷ c.next.new.self = grind arith in
    let none : c.args.depth ≡ 0 = omega arith in
    ap₂ skip_value none (first ∙ ap (λ k. token_of k ∷ c.next.new.self) c.in-BeginArray.is)

pub push_value-returns-else-depth-eq0-clause-ok : goal.push_value-returns-else-depth-eq0-clause-ok
push_value-returns-else-depth-eq0-clause-ok t c =
    let first : c.args.reader.now ≡ token_of c.in_ok-token.token ∷ c.next.new.self = grind arith in
    let opened : c.args.reader.now ≡ Token.begin_array ∷ c.next.new.self = first ∙ ap (λ k. token_of k ∷ c.next.new.self) c.in-BeginArray.is in
    let same : skip_value c.args.depth c.args.reader.now ≡ skip_items (c.args.depth - 1) c.next.new.self =
    ap (skip_value c.args.depth) opened ∙ ap left (value-begin_array c.args.depth c.next.new.self (omega arith)) ∙ left-parse_map _ _ in
    on_ok c.push_items.result (λ made. (rw opened made.0, same ∙ made.1)) c.push_items.ensures.ok

pub push_value-returns-else-depth-eq0-clause-err : goal.push_value-returns-else-depth-eq0-clause-err
push_value-returns-else-depth-eq0-clause-err t c invalid =
    let first : c.args.reader.now ≡ token_of c.in_ok-token.token ∷ c.next.new.self = grind arith in
    let opened : c.args.reader.now ≡ Token.begin_array ∷ c.next.new.self = first ∙ ap (λ k. token_of k ∷ c.next.new.self) c.in-BeginArray.is in
    let same : skip_value c.args.depth c.args.reader.now ≡ skip_items (c.args.depth - 1) c.next.new.self =
    ap (skip_value c.args.depth) opened ∙ ap left (value-begin_array c.args.depth c.next.new.self (omega arith)) ∙ left-parse_map _ _ in
    same ∙ c.push_items.ensures.err invalid

pub push_value-returns-then-depth-eq0-2-clause-err : goal.push_value-returns-then-depth-eq0-2-clause-err
unfolding value
push_value-returns-then-depth-eq0-2-clause-err t c invalid =
    let first : c.args.reader.now ≡ token_of c.in_ok-token.token ∷ c.next.new.self = grind arith in
    let none : c.args.depth ≡ 0 = omega arith in
    ap₂ skip_value none (first ∙ ap (λ k. token_of k ∷ c.next.new.self) c.in-BeginObject.is)

pub push_value-returns-else-depth-eq0-2-clause-ok : goal.push_value-returns-else-depth-eq0-2-clause-ok
push_value-returns-else-depth-eq0-2-clause-ok t c =
    let first : c.args.reader.now ≡ token_of c.in_ok-token.token ∷ c.next.new.self = grind arith in
    let opened : c.args.reader.now ≡ Token.begin_object ∷ c.next.new.self = first ∙ ap (λ k. token_of k ∷ c.next.new.self) c.in-BeginObject.is in
    let same : skip_value c.args.depth c.args.reader.now ≡ skip_members (c.args.depth - 1) c.next.new.self =
    ap (skip_value c.args.depth) opened ∙ ap left (value-begin_object c.args.depth c.next.new.self (omega arith)) ∙ left-parse_map _ _ in
    on_ok c.push_members.result (λ made. (rw opened made.0, same ∙ made.1)) c.push_members.ensures.ok

pub push_value-returns-else-depth-eq0-2-clause-err : goal.push_value-returns-else-depth-eq0-2-clause-err
push_value-returns-else-depth-eq0-2-clause-err t c invalid =
    let first : c.args.reader.now ≡ token_of c.in_ok-token.token ∷ c.next.new.self = grind arith in
    let opened : c.args.reader.now ≡ Token.begin_object ∷ c.next.new.self = first ∙ ap (λ k. token_of k ∷ c.next.new.self) c.in-BeginObject.is in
    let same : skip_value c.args.depth c.args.reader.now ≡ skip_members (c.args.depth - 1) c.next.new.self =
    ap (skip_value c.args.depth) opened ∙ ap left (value-begin_object c.args.depth c.next.new.self (omega arith)) ∙ left-parse_map _ _ in
    same ∙ c.push_members.ensures.err invalid
