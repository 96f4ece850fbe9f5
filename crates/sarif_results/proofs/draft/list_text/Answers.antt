use Rattle.std.proofs.Common.{rules, ◌≡◌, true, List, [], ◌∷◌, ◌==◌, length, codes, string_bytes, refl, sym, ap, ◌∙◌, arith}
use Rattle.serde_json.specs.Data.{array}
use Rattle.serde_json.specs.View.{items_view}
use Rattle.serde_json.specs.Written.{compact_text}
use Rattle.serde_json.specs.declared.value.Value.{Value}
use Rattle.serde_json.proofs.Views.{view-Array}
use Rattle.sarif_results.proofs.draft.list_text.Goals as goal

none_listed : (vs : List Value) → (length vs == 0) ≡ true → compact_text (array (items_view vs)) ≡ codes "[]"
none_listed [] is = refl
none_listed (v ∷ vs) is = absurd (grind (arith, is))

pub returns-then-is_empty : goal.returns-then-is_empty
returns-then-is_empty c =
    let copied : string_bytes c.in_ok-none.none ≡ codes "[]" = search rules in
    let none : (length c.args.list.items == 0) ≡ true =
    ap (λ vs. length vs == 0) (sym c.as_slice.ensures.value) ∙ sym c.is_empty.ensures ∙ c.if-is_empty.true in
    copied ∙ sym (none_listed c.args.list.items none)

pub returns : goal.returns
returns c = search (rules, view-Array)
