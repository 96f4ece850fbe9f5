use Rattle.std.proofs.Common.{rules, ◌≡◌, true, false, refl, sym, ◌∙◌}
use Rattle.sarif_entries.specs.Matching.{is_admitted, matches}
use Rattle.sarif_entries.proofs.Meaning.{means}
use Rattle.sarif_entries.proofs.entry.Entry.matches.Goals as goal

pub returns-then-is_admitted-clause-means : goal.returns-then-is_admitted-clause-means
returns-then-is_admitted-clause-means c =
    let admits : is_admitted c.args.self.now.limit c.args.record.now ≡ true = search rules in
    let same : matches c.args.today c.args.self.now c.args.record.now ≡ c.is_met.result =
    rw admits (sym c.is_met.ensures) in
    let decides = means c.args.today c.args.self.now c.args.record.now in
    (λ t. decides.0 (same ∙ t), λ matched. sym same ∙ decides.1 matched)

pub returns-else-is_admitted-clause-means : goal.returns-else-is_admitted-clause-means
returns-else-is_admitted-clause-means c =
    let out : is_admitted c.args.self.now.limit c.args.record.now ≡ false = search rules in
    let none : matches c.args.today c.args.self.now c.args.record.now ≡ false = rw out refl in
    let same : matches c.args.today c.args.self.now c.args.record.now ≡ c.is_admitted.result =
    none ∙ sym (c.is_admitted.ensures ∙ out) in
    let decides = means c.args.today c.args.self.now c.args.record.now in
    (λ t. decides.0 (same ∙ t), λ matched. sym same ∙ decides.1 matched)
