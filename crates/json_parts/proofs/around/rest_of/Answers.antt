use Rattle.std.proofs.Common.{rules, arith, ◌≡◌, ◌++◌, ◌∷◌, [], drop, take, sym, ◌∙◌, string_bytes, true≢false}
use Rattle.serde_json.proofs.Views.{view-Object}
use Rattle.serde_json.specs.Data.{object}
use Rattle.serde_json.specs.View.{members_view}
use Rattle.serde_json.specs.Written.{compact_text}
use Rattle.json_parts.proofs.First.{rest_text, nonempty, bracket_split}
use Rattle.json_parts.proofs.around.rest_of.Goals as goal

pub replace_range-requires : goal.replace_range-requires
replace_range-requires c =
    let shown : string_bytes c.in_ok-text.text ≡ compact_text (object (members_view c.args.members.entries)) = search (rules, view-Object) in
    let some = nonempty c.args.members.entries (λ e. true≢false (sym (c.is_empty.ensures.1 e) ∙ c.if-is_empty.false)) in
    let split = bracket_split (members_view c.args.members.entries) (string_bytes c.in_ok-text.text) some shown in
    record {
      start_le_end = omega arith;
      in_bounds = search (rules, split);
      not_exhausted = tt;
      start_boundary = (omega arith, λ below _ _. absurd (omega arith));
      end_boundary = split;
    }

pub returns : goal.returns
returns c =
    let shown : string_bytes c.in_ok-text.text ≡ compact_text (object (members_view c.args.members.entries)) = search (rules, view-Object) in
    let some = nonempty c.args.members.entries (λ e. true≢false (sym (c.is_empty.ensures.1 e) ∙ c.if-is_empty.false)) in
    let told : string_bytes c.shrink_to_fit.new.self
    ≡ (take 0 (string_bytes c.in_ok-text.text) ++ 44 ∷ []) ++ drop 1 (string_bytes c.in_ok-text.text) = search rules in
    told ∙ rest_text (members_view c.args.members.entries) (string_bytes c.in_ok-text.text) some shown
