use Rattle.std.proofs.Common.{sym, ap, ◌∙◌}
use Rattle.sarif_entries.specs.Matching as matching
use Rattle.sarif_suppress.proofs.Admitted.{is_admitted}
use Rattle.sarif_suppress.proofs.select.is_admitted.Goals as goal

pub returns-in-Some : goal.returns-in-Some
returns-in-Some c = λ r is.
    c.contains.ensures ∙ is_admitted c.in-Some.limit.number c.args.admitted.now r.admitted is
    ∙ ap (λ limit. matching.is_admitted limit r) (sym c.in-Some.is)
