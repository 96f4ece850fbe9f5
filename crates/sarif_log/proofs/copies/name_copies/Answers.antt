use Rattle.std.proofs.Common.{◌≡◌, false, codes, sym, ap, ◌∙◌}
use Rattle.serde_json.proofs.Views.{view-Object}
use Rattle.serde_json.specs.Data.{object, put}
use Rattle.serde_json.specs.View.{members_view, view}
use Rattle.serde_json.specs.Written.{has_float}
use Rattle.sarif_log.proofs.CopyNumbers.{copies_whole}
use Rattle.sarif_log.proofs.copies.name_copies.Goals as goal

pub returns-in_ok-put_copies-in-Object-clause-whole : goal.returns-in_ok-put_copies-in-Object-clause-whole
returns-in_ok-put_copies-in-Object-clause-whole c = λ whole.
    let members = members_view c.in-Object.members.entries in
    let gate : has_float (object members) ≡ false = sym (ap has_float (ap view c.in-Object.is ∙ view-Object c.in-Object.members)) ∙ whole in
    ap has_float (view-Object c.put_copies.new.members)
    ∙ ap (λ ms. has_float (object ms)) c.in_ok-put_copies-in-Object.ensures
    ∙ ap (λ d. has_float (object (put (codes "copies") d members))) c.in_ok-copies.ensures
    ∙ copies_whole c.args.places.now (object members) gate
