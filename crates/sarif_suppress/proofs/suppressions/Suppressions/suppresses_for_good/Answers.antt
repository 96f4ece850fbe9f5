use Rattle.std.proofs.Common.{◌≡◌, ◌∙◌, List}
use Rattle.sarif_model.specs.declared.record.Record.{Record}
use Rattle.sarif_entries.specs.declared.entry.Entry.{Entry}
use Rattle.sarif_entries.specs.Matching.{matches}
use Rattle.sarif_filing.specs.Numbers.{numbers_from}
use Rattle.sarif_suppress.specs.Suppressing.{is_lasting}
use Rattle.sarif_suppress.proofs.ForGood.{lasting_verdict}
use Rattle.sarif_suppress.proofs.suppressions.Suppressions.suppresses_for_good.Goals as goal

pub returns : goal.returns
returns g c =
    let entries : List Entry = c.self.inside.entries.items in
    let r : Record = c.args.found.now in
    let found : c.args.applied.now.entries ≡ numbers_from (λ e. matches c.self.inside.today e r) 0 entries = rw (← c.self.view_is) at c.requires in
    rw (← c.self.view_is)
    (c.do_suppress_for_good.ensures
    ∙ rw (c.as_slice.ensures, c.as_slice-numbers.ensures, c.deref.ensures.value, found)
    (lasting_verdict (λ e. matches c.self.inside.today e r) is_lasting r.held entries))
