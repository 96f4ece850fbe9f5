use Rattle.std.proofs.Common.{◌≡◌, refl, ◌++◌, [], nat_eq, bytes_eq, ◌∙◌}
use Rattle.std.specs.Cmp.Lexicographic.{pointwise}
use Rattle.std.specs.List.{flat_map}
use Rattle.std.specs.Option.{option_map_or}
use Rattle.sarif_entries.specs.Internal.Filing.{message_keys, keys_beside}
use Rattle.sarif_entries.specs.Condition.{is_pair}
use Rattle.sarif_evidence.specs.Seen.{packed}
use Rattle.sarif_filing.specs.Numbers.{numbers_at}
use Rattle.sarif_filing.specs.Internal.Snippets.{found_within}
use Rattle.sarif_filing.proofs.Candidates.{from_tables}
use Rattle.sarif_filing.proofs.table.Table.candidates.Goals as goal

pub returns : goal.returns
returns g c = λ entries table.
    let t = c.args.self.now in
    let r = c.args.record.now in
    let new = c.new-found.ensures.items in
    let of_guid = c.numbers_with_guid.ensures in
    let guid = c.in_ok-extend_from_slice.ensures.items in
    let snippet = c.in_ok-add_with_snippet.ensures in
    let full_pairs = c.as_slice.ensures in
    let full = c.in_ok-add_with_pairs.ensures in
    let partial_pairs = c.as_slice-2.ensures in
    let partial = c.in_ok-add_with_pairs-2.ensures in
    let message = c.in_ok-add_with_message.ensures in
    let of_uri = c.numbers_with_text.ensures in
    let uri = c.in_ok-extend_from_slice-2.ensures.items in
    let of_rule = c.numbers_for.ensures in
    let rule = c.in_ok-extend_from_slice-3.ensures.items in
    let of_tool = c.numbers_for-2.ensures in
    let tool = c.in_ok-extend_from_slice-4.ensures.items in
    let admitted = c.as_slice-3.ensures in
    let limited = c.in_ok-add_with_numbers.ensures in
    let of_others = c.deref.ensures.value in
    let others = c.in_ok-extend_from_slice-5.ensures.items in
    let items : c.extend_from_slice-5.new.self.items
    ≡
    ((((((((option_map_or (numbers_at nat_eq t.guids) r.guid []
    ++ option_map_or (λ text. found_within t.snippets (packed text) (keys_beside r)) r.snippet [])
    ++ flat_map (numbers_at is_pair t.pairs.full) r.full)
    ++ flat_map (numbers_at is_pair t.pairs.partial) r.partial)
    ++ flat_map (numbers_at (pointwise bytes_eq) t.texts.messages) (message_keys r))
    ++ option_map_or (numbers_at bytes_eq t.texts.uris) r.place.uri []) ++ numbers_at bytes_eq t.texts.rules r.rule_id)
    ++ numbers_at bytes_eq t.texts.tools r.tool) ++ flat_map (numbers_at nat_eq t.limited) r.admitted) ++ t.others.items =
    rw (
      others,
      of_others,
      limited,
      admitted,
      tool,
      of_tool,
      rule,
      of_rule,
      uri,
      of_uri,
      message,
      partial,
      partial_pairs,
      full,
      full_pairs,
      snippet,
      guid,
      of_guid,
      new,
    ) refl in
    items ∙ from_tables entries t r table
