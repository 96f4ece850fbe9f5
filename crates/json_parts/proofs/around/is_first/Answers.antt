use Rattle.std.proofs.Common.{◌≡◌, Equal, nat_cmp, string_bytes, sym, ap, ◌∙◌}
use Rattle.std.specs.Cmp.Lexicographic.{slice_cmp}
use Rattle.json_parts.proofs.First.{at_first, isnt_equal}
use Rattle.json_parts.proofs.around.is_first.Goals as goal

pub returns-in-Equal : goal.returns-in-Equal
returns-in-Equal c =
    let is : slice_cmp nat_cmp c.args.name.now (string_bytes c.in-Some.key.now) ≡ Equal =
    sym (c.cmp.ensures ∙ ap (slice_cmp nat_cmp c.args.name.now) c.as_str.ensures.value) ∙ c.in-Equal.is in
    sym (at_first c.args.name.now c.args.members.now.entries (c.in-Some.key.now, c.in-Some.field-0-1.now) Equal c.in-Some.ensures.first is)

pub returns-in_default : goal.returns-in_default
returns-in_default c =
    let is : c.cmp.result ≡ slice_cmp nat_cmp c.args.name.now (string_bytes c.in-Some.key.now) = c.cmp.ensures
    ∙ ap (slice_cmp nat_cmp c.args.name.now) c.as_str.ensures.value in
    sym
    (at_first c.args.name.now c.args.members.now.entries (c.in-Some.key.now, c.in-Some.field-0-1.now) c.cmp.result c.in-Some.ensures.first
    (sym is) ∙ isnt_equal c.cmp.result c.in_default.not-Equal)
