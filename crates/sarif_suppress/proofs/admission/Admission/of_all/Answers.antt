use Rattle.std.proofs.Common.{map, ap, ◌∙◌}
use Rattle.std.specs.Prelude.{option_map}
use Rattle.sarif_entries.specs.declared.entry.Entry.{Entry}
use Rattle.sarif_entries.specs.declared.limit.Limit.{Limit}
use Rattle.sarif_suppress.specs.Internal.Admission.{opened_from}
use Rattle.sarif_suppress.proofs.Limits.{is_before}
use Rattle.sarif_suppress.proofs.admission.Admission.of_all.Goals as goal

pub returns : goal.returns
returns g c =
    is_before c.args.file.now _ (c.in_ok-left.ensures ∙ ap (map (λ (e : Entry). option_map (λ (l : Limit). l.most) e.limit)) c.entries.ensures)
    (c.in_ok-live.ensures.entries ∙ ap (λ left. opened_from left 0 c.args.file.now.entries) c.deref.ensures.value) c.in_ok-live.ensures.today
