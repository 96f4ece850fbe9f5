use Rattle.std.proofs.Common.{rules, ◌≡◌, ◌∙◌, sym, ap, Some, None}
use Rattle.std.specs.Prelude.{count_by}
use Rattle.std.specs.HashMap.{get}
use Rattle.sarif_change.specs.Joined.{has_name, is_shared}
use Rattle.sarif_change.specs.Internal.NamesSeen.{same_bytes}
use Rattle.sarif_change.proofs.SharedMore.{noted_several, noted_none}
use Rattle.sarif_change.proofs.joining.is_noted.Goals as goal

pub returns-in-Some : goal.returns-in-Some
returns-in-Some g c = λ sections table.
    let found : get same_bytes c.args.names.now c.as_slice.result ≡ Some c.in-Some.is_more.now = search rules in
    noted_several (count_by (has_name c.as_slice.result.now) sections) c.in-Some.is_more.now (sym (table c.as_slice.result) ∙ found)
    ∙ ap (is_shared sections) c.as_slice.ensures

pub returns-in-None : goal.returns-in-None
returns-in-None g c = λ sections table.
    let none : get same_bytes c.args.names.now c.as_slice.result ≡ None = search rules in
    noted_none (count_by (has_name c.as_slice.result.now) sections) (sym (table c.as_slice.result) ∙ none)
    ∙ ap (is_shared sections) c.as_slice.ensures
