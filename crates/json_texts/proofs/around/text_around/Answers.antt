use Rattle.std.proofs.Common.{◌≡◌, ◌+◌, ◌-◌, if◌then◌else◌, ◌∷◌, ◌++◌, length, take, drop, string_bytes, sym, ap, ap₂, ◌∙◌, subst}
use Rattle.json_parts.specs.Indexed.{IsReadable, json_at, data_of}
use Rattle.json_parts.specs.Internal.Around.{name_text}
use Rattle.json_texts.specs.Whole.{written}
use Rattle.json_texts.specs.Around.{named, members_of, set_texts, texts_before, after, texts_later, around}
use Rattle.json_texts.specs.Internal.Parts.{AreParts, named_at, parts_text, place, is_there}
use Rattle.json_texts.proofs.Parts.{parts_taken, parts_left, rest_taken, parts_before, parts_after, later_from}
use Rattle.json_texts.proofs.Standing.{known, readable, data_is}
use Rattle.json_texts.proofs.Surrounding.{around_stripped}
use Rattle.json_texts.proofs.around.text_around.Goals.{then-is_there, else-is_there}
use Rattle.json_texts.proofs.around.text_around.Goals as goal

pub text_before-requires : goal.text_before-requires
text_before-requires c =
    let n = c.place_of-at.result.0 in
    subst (λ xs. AreParts (take n xs)) (sym c.as_slice-2.ensures.value) (parts_taken n c.set_parts.new.list.items c.in_ok-set_parts.ensures.writable)

pub text_after-requires : goal.text_after-requires
text_after-requires c =
    let xs = c.as_slice-3.result.now in
    let n = c.if-is_there.from in
    parts_taken (length xs - n) (drop n xs) (parts_left n xs (subst AreParts (sym c.as_slice-3.ensures.value) c.in_ok-set_parts.ensures.writable))

pub returns-clause-text : goal.returns-clause-text
returns-clause-text c =
    let keeps = c.args.keeps_numbers in
    let name = c.args.name.now in
    let ps = c.set_parts.new.list.items in
    let xs = c.as_slice-3.result.now in
    let at : c.place_of-at.result.0 ≡ place name ps = c.place_of-at.ensures.place ∙ ap (place name) c.as_slice.ensures.value in
    let there : c.place_of-at.result.1 ≡ is_there name ps = c.place_of-at.ensures.there ∙ ap (is_there name) c.as_slice.ensures.value in
    let from : c.if-is_there.from ≡ later_from name ps = elim c.if-is_there.branch [
      | then-is_there w ↦ w.from-is ∙ ap (λ n. n + 1) at ∙ ap (λ b. if b then place name ps + 1 else place name ps) (sym (sym there ∙ w.if-is_there.true))
      | else-is_there w ↦ w.from-is ∙ at ∙ ap (λ b. if b then place name ps + 1 else place name ps) (sym (sym there ∙ w.if-is_there.false))
    ] in
    let all : named_at keeps ps ≡ set_texts c.args.set.now (named (members_of (written keeps (json_at c.args.node.now)))) =
    c.in_ok-set_parts.ensures.named ∙ ap (set_texts c.args.set.now) c.in_ok-list.ensures.named
    ∙ ap (λ ts. set_texts c.args.set.now (named (members_of (written keeps (json_at ts))))) c.element.ensures.same in
    let before : string_bytes c.in_ok-before.before ≡ 123 ∷ (texts_before name (named_at keeps ps) ++ name_text name) =
    c.in_ok-before.ensures ∙ ap₂ (λ n ys. 123 ∷ (parts_text keeps (take n ys) ++ name_text name)) at c.as_slice-2.ensures.value
    ∙ ap (λ s. 123 ∷ (s ++ name_text name)) (parts_before keeps name ps) in
    let later : string_bytes c.in_ok-after.after ≡ texts_later (after name (named_at keeps ps)) =
    c.in_ok-after.ensures ∙ ap (λ ys. texts_later (named_at keeps ys)) (rest_taken c.if-is_there.from xs)
    ∙ ap₂ (λ n ys. texts_later (named_at keeps (drop n ys))) from c.as_slice-3.ensures.value ∙ ap texts_later (parts_after keeps name ps) in
    c.new.ensures ∙ ap₂ (λ b a. record { before = b; after = a }) before later ∙ ap (around name) all

pub returns-clause-stripped : goal.returns-clause-stripped
returns-clause-stripped c keeps ds e =
    let ts = c.args.node.now in
    let name = c.args.name.now in
    let set = c.args.set.now in
    let read : IsReadable ts = subst IsReadable c.element.ensures.same c.element.ensures.read in
    returns-clause-text c ∙ ap (λ b. around name (set_texts set (named (members_of (written b (json_at ts)))))) keeps
    ∙ around_stripped name set ds (json_at ts) (data_of ts) (known ts (readable ts read)).numbers (data_is ts read) e
