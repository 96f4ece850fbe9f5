use Rattle.std.proofs.Common.{◌≡◌, [], ◌∙◌, sym, ap, arith}
use Rattle.std.specs.List.{prefix_len}
use Rattle.std.proofs.lemmas.Str.{IsUtf8-past_char}
use Rattle.sarif_findings.specs.Code.{is_blank, is_space, spread_line}
use Rattle.sarif_findings.proofs.CodeLines.{ends_first, goes_on_first, nothing_left, one_byte}
use Rattle.sarif_findings.proofs.code_lines.indented.Goals as goal

pub invariant_of-result : goal.invariant_of-result
invariant_of-result c =
    let held = c.loop-c.invariant in
    let ends =
    ends_first _ _ c.in-Some.c c.spaces_of-spaces.result held.1 c.in-Some.ensures.steps.0 c.spaces_of-spaces.ensures.count c.if-spaces-eq0.true in
    record {
      blank_is = sym (ap (λ text. is_blank (spread_line text)) held.2 ∙ ends.1);
      begins = ap (λ text. prefix_len is_space (spread_line text)) held.2 ∙ ends.0;
    }

pub loop-c-preserved : goal.loop-c-preserved
loop-c-preserved c =
    let held = c.loop-c.invariant in
    let parts = c.in-Some.ensures.steps.0 in
    let shorter = one_byte _ _ c.in-Some.c parts in
    let few = c.spaces_of-spaces.ensures.few in
    let bound = held.4 in (
      c.as_str-left.utf8,
      IsUtf8-past_char _ _ c.in-Some.c held.1 parts,
      c.as_str-left.ensures,
      goes_on_first _ _ c.in-Some.c c.loop-c.indent c.spaces_of-spaces.result held.1 parts c.spaces_of-spaces.ensures.count c.if-spaces-eq0.false
          ∙ held.3,
      omega (arith, shorter, few, bound),
    )

pub invariant_of-result-2 : goal.invariant_of-result-2
invariant_of-result-2 c =
    let held = c.loop-c.invariant in
    let none : spread_line c.loop-c.left.now ≡ [] = ap spread_line held.2 ∙ nothing_left _ c.in_default.ensures.steps.0.0 in
    record { blank_is = sym (ap is_blank none); begins = ap (λ cs. prefix_len is_space cs) none }
