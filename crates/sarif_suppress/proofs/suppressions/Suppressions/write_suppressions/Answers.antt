use Rattle.std.proofs.Common.{◌≡◌, ◌∙◌, map, refl}
use Rattle.serde_json.specs.View.{view}
use Rattle.sarif_entries.specs.Matching.{matches}
use Rattle.sarif_suppress.specs.Suppressing.{matching_numbers}
use Rattle.sarif_suppress.specs.Written.{with_objects_at}
use Rattle.sarif_suppress.proofs.Numbered.{written}
use Rattle.sarif_suppress.proofs.suppressions.Suppressions.write_suppressions.Goals as goal

pub returns : goal.returns
returns g c = λ r found.
    let list : map view c.in_ok-list.list.items
    ≡ with_objects_at (map view c.args.own.items) c.self.inside.entries.items (matching_numbers c.args.self.now r) = c.in_ok-list.ensures
    ∙ rw (c.deref.ensures.value, c.as_slice-numbers.ensures, found) refl in
    list ∙ rw (← c.self.view_is) (written (λ e. matches c.self.inside.today e r) (map view c.args.own.items) c.self.inside.entries.items)
