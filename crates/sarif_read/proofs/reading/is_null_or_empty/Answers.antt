use Rattle.std.proofs.Common.{rules, ◌≡◌, ◌↔◌, IsTrue, length, sym, ap, ◌∙◌}
use Rattle.serde_json.specs.Data.{array}
use Rattle.serde_json.specs.View.{view, items_view}
use Rattle.serde_json.specs.declared.value.Value.{the_lemmas}
use Rattle.sarif_read.specs.Reading.{is_null_or_empty}
use Rattle.sarif_read.proofs.NoMembers.{has_no_items-elements}
use Rattle.sarif_read.proofs.reading.is_null_or_empty.Goals as goal

pub returns-in-Array : goal.returns-in-Array
returns-in-Array c =
    let seen : view c.args.value.now ≡ array (items_view c.in-Array.items.items) = search (rules, the_lemmas) in
    let empty : IsTrue c.is_empty.result ↔ (length c.in-Array.items.items ≡ 0) = search rules in
    has_no_items-elements c.in-Array.items.items c.is_empty.result empty ∙ sym (ap is_null_or_empty seen)
