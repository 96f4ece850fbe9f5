use Rattle.std.proofs.Common.{◌≡◌, Greater, nat_cmp, string_bytes, sym, ap, ◌∙◌}
use Rattle.std.specs.Cmp.Lexicographic.{slice_cmp}
use Rattle.json_parts.proofs.First.{below_first, isnt_greater}
use Rattle.json_parts.proofs.around.is_first_below.Goals as goal

pub returns-in-Greater : goal.returns-in-Greater
returns-in-Greater c =
    let is : slice_cmp nat_cmp c.args.name.now (string_bytes c.in-Some.key.now) ≡ Greater =
    sym (c.cmp.ensures ∙ ap (slice_cmp nat_cmp c.args.name.now) c.as_str.ensures.value) ∙ c.in-Greater.is in
    sym (below_first c.args.name.now c.args.members.now.entries (c.in-Some.key.now, c.in-Some.field-0-1.now) Greater c.in-Some.ensures.first is)

pub returns-in_default : goal.returns-in_default
returns-in_default c =
    let is : c.cmp.result ≡ slice_cmp nat_cmp c.args.name.now (string_bytes c.in-Some.key.now) = c.cmp.ensures
    ∙ ap (slice_cmp nat_cmp c.args.name.now) c.as_str.ensures.value in
    sym
    (below_first c.args.name.now c.args.members.now.entries
    (c.in-Some.key.now, c.in-Some.field-0-1.now) c.cmp.result c.in-Some.ensures.first (sym is)
    ∙ isnt_greater c.cmp.result c.in_default.not-Greater)
