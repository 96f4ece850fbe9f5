use Rattle.std.proofs.Common.{rules, ◌≡◌}
use Rattle.sarif_match.specs.declared.numbers.Value.TheVariants as value
use Rattle.sarif_match.specs.Internal.Numbers.{Grows, lent, message_as, place_as}
use Rattle.sarif_match.proofs.NumberLemmas.{grows_more, members_later, numbered_later}
use Rattle.sarif_evidence.proofs.EqualLemmas.{text_refl}
use Rattle.sarif_match.proofs.shortening.short_record.Goals as goal

pub returns-clause-short : goal.returns-clause-short
returns-clause-short g c =
    let r = c.args.finding.now in
    let last = c.short_snippet.new.numbers in
    let five : Grows c.short_members.new.numbers last = c.in_ok-snippet.ensures.grows in
    let four : Grows c.short_message.new.numbers last = grows_more c.short_message.new.numbers c.short_members.new.numbers last c.in_ok-partial.ensures.grows five in
    let three : Grows c.short_place.new.numbers last = grows_more c.short_place.new.numbers c.short_message.new.numbers last c.in_ok-message.ensures.grows four in
    let two : Grows c.number_of-2.new.numbers last = grows_more c.number_of-2.new.numbers c.short_place.new.numbers last c.in_ok-place.ensures.grows three in
    let one : Grows c.number_of.new.numbers last = grows_more c.number_of.new.numbers c.number_of-2.new.numbers last c.in_ok-rule_id.ensures.grows two in
    let full : c.in_ok-full.full ≡ r.full = search rules in
    record {
      tool = one.kept (value.Text (lent r.tool)) c.in_ok-tool.tool (c.in_ok-tool.ensures.has (value.Text (lent r.tool)) (text_refl r.tool));
      rule_id = two.kept (value.Text (lent r.rule_id)) c.in_ok-rule_id.rule_id
          (c.in_ok-rule_id.ensures.has (value.Text (lent r.rule_id)) (text_refl r.rule_id));
      place = numbered_later c.short_place.new.numbers last three (value.Place (lent r.place)) place_as c.in_ok-place.place c.in_ok-place.ensures.short;
      message = numbered_later c.short_message.new.numbers last four (value.Message (lent r.message)) message_as c.in_ok-message.message
          c.in_ok-message.ensures.short;
      guid = search rules;
      full = full;
      partial = members_later c.short_members.new.numbers last five r.partial c.in_ok-partial.partial c.in_ok-partial.ensures.short;
      region = search rules;
      snippet = c.in_ok-snippet.ensures.short;
    }

pub returns-clause-grows : goal.returns-clause-grows
returns-clause-grows g c =
    let last = c.short_snippet.new.numbers in
    let four : Grows c.short_message.new.numbers last =
    grows_more c.short_message.new.numbers c.short_members.new.numbers last c.in_ok-partial.ensures.grows c.in_ok-snippet.ensures.grows in
    let three : Grows c.short_place.new.numbers last = grows_more c.short_place.new.numbers c.short_message.new.numbers last c.in_ok-message.ensures.grows four in
    let two : Grows c.number_of-2.new.numbers last = grows_more c.number_of-2.new.numbers c.short_place.new.numbers last c.in_ok-place.ensures.grows three in
    let one : Grows c.number_of.new.numbers last = grows_more c.number_of.new.numbers c.number_of-2.new.numbers last c.in_ok-rule_id.ensures.grows two in
    grows_more c.args.numbers.now c.number_of.new.numbers last c.in_ok-tool.ensures.grows one
