use Rattle.std.proofs.Common.{rules, ◌≡◌, false, sym, ap, ◌∙◌, if◌then◌else◌}
use Rattle.sarif_suppress.specs.Internal.Admission.{closed, has_left, released}
use Rattle.sarif_suppress.proofs.admission.open_entry.Goals as goal

pub returns-then-not-has_left : goal.returns-then-not-has_left
returns-then-not-has_left c =
    let none : has_left c.args.left ≡ false = search rules in
    c.closed_entry.ensures ∙ ap (λ b. if b then released c.args.entry.now else closed) (sym none)
