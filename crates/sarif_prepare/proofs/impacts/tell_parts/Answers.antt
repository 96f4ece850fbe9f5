use Rattle.std.proofs.Common.{rules, ◌≡◌, ◌++◌, length, vec_len, take, drop, ap, ◌∙◌, arith}
use Rattle.std.proofs.lemmas.List.{length-take-le, length-drop}
use Rattle.sarif_prepare.specs.Internal.Impacts.{all_shown, put_impacts, told_here, told_there}
use Rattle.sarif_prepare.proofs.impacts.tell_parts.Goals as goal

pub split_at-requires : goal.split_at-requires
split_at-requires g c =
    let each = c.requires.each in
    let held : vec_len c.args.sides.now.current.now.drafts ≡ length c.args.sides.now.current.now.drafts.items = search rules in
    let count = c.len.ensures ∙ held in
    omega (arith, each, count)

pub tell_here-requires-clause-each : goal.tell_here-requires-clause-each
tell_here-requires-clause-each g c κs within =
    let each = c.requires.each in
    let held : vec_len c.args.sides.now.current.now.drafts ≡ length c.args.sides.now.current.now.drafts.items = search rules in
    let count = c.len.ensures ∙ held in
    ap length c.split_at.ensures.front ∙ length-take-le c.len.result c.args.shown.now (omega (arith, each, count)) ∙ count

pub tell_there-requires-clause-each : goal.tell_there-requires-clause-each
tell_there-requires-clause-each g c κs within =
    let each = c.requires.each in
    let held : vec_len c.args.sides.now.current.now.drafts ≡ length c.args.sides.now.current.now.drafts.items = search rules in
    let count = c.len.ensures ∙ held in
    let rest = length-drop c.len.result c.args.shown.now in
    ap length c.split_at.ensures.back ∙ omega (arith, rest, each, count)

pub returns : goal.returns
returns g c =
    let sides = c.args.sides.now in
    let all = c.args.all.now in
    let held : vec_len sides.current.now.drafts ≡ length sides.current.now.drafts.items = search rules in
    let count = c.len.ensures ∙ held in
    let front = c.split_at.ensures.front ∙ ap (λ n. take n c.args.shown.now) count in
    let back = c.split_at.ensures.back ∙ ap (λ n. drop n c.args.shown.now) count in
    c.in_ok-append.ensures.items
    ∙ ap (λ fs. fs ++ c.in_ok-absent.absent.items) (c.in_ok-findings.ensures ∙ ap (λ s. put_impacts (told_here sides s all) (all_shown s)) front)
    ∙ ap (λ fs. put_impacts (told_here sides (take (length sides.current.now.drafts.items) c.args.shown.now) all)
    (all_shown (take (length sides.current.now.drafts.items) c.args.shown.now)) ++ fs)
    (c.in_ok-absent.ensures ∙ ap (λ s. put_impacts (told_there sides s all) (all_shown s)) back)
