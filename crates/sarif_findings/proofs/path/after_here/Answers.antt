use Rattle.std.proofs.Common.{sym, ap, ◌∙◌, chars}
use Rattle.std.proofs.lemmas.Str.{IsUtf8-past_char}
use Rattle.sarif_findings.specs.PathOf.{is_removed}
use Rattle.sarif_findings.proofs.PathMore.{removed_step, removed_stop, removed_end}
use Rattle.sarif_findings.proofs.path.after_here.Goals as goal

pub returns-then-not-is_removed : goal.returns-then-not-is_removed
returns-then-not-is_removed c =
    let held = c.loop-c.invariant in
    let told = ap (λ bs. is_removed c.in-Some.c (chars bs)) c.as_str.ensures in
    ap chars held.2 ∙ removed_stop _ _ c.in-Some.c held.1 c.in-Some.ensures.steps.0 (sym (c.is_removed.ensures ∙ told) ∙ c.if-not-is_removed.true) ∙ held.3

pub returns : goal.returns
returns c =
    let held = c.loop-c.invariant in
    ap chars held.2 ∙ removed_end _ c.in_default.ensures.steps.0.0 ∙ held.3

pub loop-c-preserved : goal.loop-c-preserved
loop-c-preserved c =
    let held = c.loop-c.invariant in
    let parts = c.in-Some.ensures.steps.0 in
    let told = ap (λ bs. is_removed c.in-Some.c (chars bs)) c.as_str.ensures in (
      c.as_str-left.utf8,
      IsUtf8-past_char _ _ c.in-Some.c held.1 parts,
      c.as_str-left.ensures,
      removed_step _ _ c.in-Some.c held.1 parts (sym (c.is_removed.ensures ∙ told) ∙ c.if-not-is_removed.false) ∙ held.3,
    )
