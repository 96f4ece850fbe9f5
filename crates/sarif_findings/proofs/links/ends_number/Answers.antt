use Rattle.std.proofs.Common.{sym, ◌∙◌, chars, refl}
use Rattle.std.specs.Str.Iter.{chars_rest}
use Rattle.std.proofs.lemmas.Str.{IsUtf8-past_char}
use Rattle.sarif_findings.specs.Links.{ends_number}
use Rattle.sarif_findings.proofs.FirstChar.{first_same, first_step}
use Rattle.sarif_findings.proofs.LinksMore.{number_goes, number_stops, number_empty}
use Rattle.sarif_findings.proofs.links.ends_number.Goals as goal

pub returns-then-c-eq41 : goal.returns-then-c-eq41
returns-then-c-eq41 c =
    let held = c.loop-c.invariant in
    first_same (ends_number c.loop-c.some) (λ cs. c.loop-c.some) 41 _ _ c.in-Some.c c.loop-c.some
    (λ cs. refl) held.utf8 c.in-Some.ensures.steps.0 c.if-c-eq41.true refl
    ∙ held.told

pub returns-then-not-is_ascii_digit : goal.returns-then-not-is_ascii_digit
returns-then-not-is_ascii_digit c =
    let held = c.loop-c.invariant in
    sym
    (number_stops c.loop-c.some c.in-Some.c (chars (chars_rest c.next.new.self)) c.if-c-eq41.false
    (sym c.is_ascii_digit.ensures.value ∙ c.if-not-is_ascii_digit.true))
    ∙ first_step (ends_number c.loop-c.some) _ _ c.in-Some.c held.utf8 c.in-Some.ensures.steps.0 ∙ held.told

pub loop-c-preserved : goal.loop-c-preserved
loop-c-preserved c =
    let held = c.loop-c.invariant in
    let parts = c.in-Some.ensures.steps.0 in record {
      utf8 = IsUtf8-past_char _ _ c.in-Some.c held.utf8 parts;
      told =
          sym
          (number_goes c.loop-c.some c.in-Some.c (chars (chars_rest c.next.new.self)) c.if-c-eq41.false
          (sym c.is_ascii_digit.ensures.value ∙ c.if-not-is_ascii_digit.false))
          ∙ first_step (ends_number c.loop-c.some) _ _ c.in-Some.c held.utf8 parts ∙ held.told;
    }

pub returns : goal.returns
returns c = sym (number_empty c.loop-c.some _ c.in-None.ensures.steps.0.0) ∙ c.loop-c.invariant.told
