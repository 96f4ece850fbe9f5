use Rattle.std.proofs.Common.{◌≡◌, List, [], ◌++◌, ap, ◌∙◌}
use Rattle.std.specs.Option.{option_map_or}
use Rattle.sarif_model.specs.declared.record.Record.{Record}
use Rattle.sarif_entries.specs.declared.entry.Entry.{Entry}
use Rattle.sarif_filing.specs.Internal.Table.{candidates}
use Rattle.sarif_entries.specs.Matching.{matches}
use Rattle.sarif_filing.specs.Numbers.{numbers_from}
use Rattle.sarif_filing.specs.Internal.Prefixes.{found_for}
use Rattle.sarif_suppress.proofs.Selected.{selected}
use Rattle.sarif_suppress.proofs.Numbered.{verdict}
use Rattle.sarif_suppress.proofs.suppressions.Suppressions.apply.Goals as goal

pub returns-clause-entries : goal.returns-clause-entries
returns-clause-entries g c =
    let entries : List Entry = c.self.inside.entries.items in
    let r : Record = c.args.record.now in
    let numbers : c.add_for.new.found.items ≡ candidates entries r ++ option_map_or (found_for c.self.inside.prefixes) r.place.uri [] =
    c.in_ok-add_for.ensures ∙ ap (λ ns. ns ++ option_map_or (found_for c.self.inside.prefixes) r.place.uri [])
    (c.in_ok-numbers.ensures entries c.self.invariant.1) in
    let found : c.in_ok-entries.entries ≡ numbers_from (λ e. matches c.self.inside.today e r) 0 entries = c.in_ok-entries.ensures
    ∙ rw (c.deref.ensures.value, c.deref-2.ensures.value)
    (selected c.self.inside.today r entries c.self.inside.prefixes c.add_for.new.found.items c.self.invariant.2 numbers) in
    rw (← c.self.view_is) found

pub returns-clause-verdict : goal.returns-clause-verdict
returns-clause-verdict g c =
    let entries : List Entry = c.self.inside.entries.items in
    let r : Record = c.args.record.now in
    let numbers : c.add_for.new.found.items ≡ candidates entries r ++ option_map_or (found_for c.self.inside.prefixes) r.place.uri [] =
    c.in_ok-add_for.ensures ∙ ap (λ ns. ns ++ option_map_or (found_for c.self.inside.prefixes) r.place.uri [])
    (c.in_ok-numbers.ensures entries c.self.invariant.1) in
    let found : c.in_ok-entries.entries ≡ numbers_from (λ e. matches c.self.inside.today e r) 0 entries = c.in_ok-entries.ensures
    ∙ rw (c.deref.ensures.value, c.deref-2.ensures.value)
    (selected c.self.inside.today r entries c.self.inside.prefixes c.add_for.new.found.items c.self.invariant.2 numbers) in
    rw (← c.self.view_is) (c.do_suppress-suppressed.ensures
    ∙ rw (c.as_slice.ensures, c.as_slice-2.ensures, c.deref-3.ensures.value, found)
    (verdict r.held (λ e. matches c.self.inside.today e r) entries))
