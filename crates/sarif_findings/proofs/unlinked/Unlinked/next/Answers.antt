use Rattle.std.proofs.Common.{◌∷◌, List, ℕ, sym, ap, ◌∙◌, chars, map, encode_utf8, length, length-append, arith}
use Rattle.std.specs.Str.Iter.{chars_rest}
use Rattle.std.proofs.lemmas.Str.{IsUtf8-past_char}
use Rattle.serde_json.specs.View.{view}
use Rattle.sarif_findings.specs.declared.links.Part.{Part}
use Rattle.sarif_findings.specs.declared.unlinked.Unlinked.{Unlinked}
use Rattle.sarif_findings.specs.Links.{part_after, unlinked_from}
use Rattle.sarif_findings.proofs.FirstChar.{first_step}
use Rattle.sarif_findings.proofs.LinksMore.{char_stays, char_leaves, unlinked_empty}
use Rattle.sarif_findings.proofs.unlinked.Unlinked.next.Goals as goal

pub returns-then-stays_between-clause-is : goal.returns-then-stays_between-clause-is
returns-then-stays_between-clause-is c =
    let held = c.loop-c.invariant in
    let args = map view c.loop-c.self.args.now in
    let next : Part = c.part_after-next.result in
    let is = c.part_after-next.ensures ∙ ap (λ bs. part_after args c.loop-c.part c.in-Some.c (chars bs)) c.as_str.ensures in
    held.told
    ∙ ap (λ (s : Unlinked). unlinked_from (map view s.args.now) c.loop-c.part (chars (chars_rest c.loop-c.rest))) (sym held.same)
    ∙ sym (first_step (unlinked_from args c.loop-c.part) _ _ c.in-Some.c held.utf8 c.in-Some.ensures.steps.0)
    ∙ char_stays args c.loop-c.part next c.in-Some.c (chars (chars_rest c.next.new.self)) is (sym c.stays_between.ensures ∙ c.if-stays_between.true)
    ∙ ap (λ (bs : List ℕ). c.in-Some.c ∷ unlinked_from args next (chars bs)) (sym c.as_str-self.ensures)

pub loop-c-preserved : goal.loop-c-preserved
loop-c-preserved c =
    let held = c.loop-c.invariant in
    let parts = c.in-Some.ensures.steps.0 in
    let args = map view c.loop-c.self.args.now in
    let next : Part = c.part_after-next.result in
    let is = c.part_after-next.ensures ∙ ap (λ bs. part_after args c.loop-c.part c.in-Some.c (chars bs)) c.as_str.ensures in
    let whole = ap length parts ∙ length-append (encode_utf8 c.in-Some.c) (chars_rest c.next.new.self) in record {
      utf8 = IsUtf8-past_char _ _ c.in-Some.c held.utf8 parts;
      same = held.same;
      told = held.told
          ∙ ap (λ (s : Unlinked). unlinked_from (map view s.args.now) c.loop-c.part (chars (chars_rest c.loop-c.rest))) (sym held.same)
          ∙ sym (first_step (unlinked_from args c.loop-c.part) _ _ c.in-Some.c held.utf8 parts)
          ∙ char_leaves args c.loop-c.part next c.in-Some.c (chars (chars_rest c.next.new.self)) is (sym c.stays_between.ensures ∙ c.if-stays_between.false)
          ∙ ap (λ (s : Unlinked). unlinked_from (map view s.args.now) next (chars (chars_rest c.next.new.self))) held.same;
      shorter = omega (arith, held.shorter, whole);
    }

pub returns-clause-is : goal.returns-clause-is
returns-clause-is c =
    c.loop-c.invariant.told ∙ unlinked_empty (map view c.args.self.now.args.now) c.loop-c.part _ c.in_default.ensures.steps.0.0
