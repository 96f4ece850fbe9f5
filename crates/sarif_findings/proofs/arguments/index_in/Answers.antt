use Rattle.std.proofs.Common.{sym, ◌∙◌, chars}
use Rattle.std.specs.Str.Iter.{chars_rest}
use Rattle.std.proofs.lemmas.Str.{IsUtf8-past_char}
use Rattle.sarif_findings.specs.Placeholders.{index_from}
use Rattle.sarif_findings.proofs.FirstChar.{first_step}
use Rattle.sarif_findings.proofs.MessageMore.{index_empty}
use Rattle.sarif_findings.proofs.arguments.index_in.Goals as goal

pub returns-in-Err-clause-said : goal.returns-in-Err-clause-said
returns-in-Err-clause-said c =
    let held = c.loop-c.invariant in
    sym (c.in-Err.ensures.ends (chars (chars_rest c.next.new.self)))
    ∙ first_step (index_from c.loop-c.number c.loop-c.count) _ _ c.in-Some.c held.utf8 c.in-Some.ensures.steps.0 ∙ held.told

pub loop-c-preserved : goal.loop-c-preserved
loop-c-preserved c =
    let held = c.loop-c.invariant in
    let parts = c.in-Some.ensures.steps.0 in record {
      utf8 = IsUtf8-past_char _ _ c.in-Some.c held.utf8 parts;
      small = c.in-Ok.ensures.less;
      few = c.in-Ok.ensures.more;
      told = sym (c.in-Ok.ensures.goes (chars (chars_rest c.next.new.self)))
          ∙ first_step (index_from c.loop-c.number c.loop-c.count) _ _ c.in-Some.c held.utf8 parts ∙ held.told;
    }

pub returns-clause-said : goal.returns-clause-said
returns-clause-said c = sym (index_empty c.loop-c.number c.loop-c.count _ c.in-None.ensures.steps.0.0) ∙ c.loop-c.invariant.told
