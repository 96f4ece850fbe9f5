use Rattle.std.proofs.Common.{◌≡◌, refl, sym, subst, ap, ◌∙◌}
use Rattle.sarif_entries.specs.File.{File}
use Rattle.sarif_suppress.specs.Internal.Admission.{opened_from, Admitting, IsAfter}
use Rattle.sarif_suppress.proofs.Limits.{opened_again}
use Rattle.sarif_suppress.proofs.admission.Admission.tidy.Goals as goal

pub returns : goal.returns
returns g c = λ before after.
    let file = c.args.file.now in
    let old : Admitting = record { left = c.self.inside.left.items; live = c.self.inside.live } in
    let now : IsAfter file before old = subst (IsAfter file before) (sym c.self.view_is) after in
    let live : c.replace-old.new.dest ≡ c.in_ok-again.again = c.replace-old.ensures.after in
    opened_again file before old _ now refl
    (ap (λ (f : File). f.entries) live ∙ c.in_ok-again.ensures.entries ∙ ap (λ left. opened_from left 0 file.entries) c.deref.ensures.value)
    (ap (λ (f : File). f.today) live ∙ c.in_ok-again.ensures.today)
