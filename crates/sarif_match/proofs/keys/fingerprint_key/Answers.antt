use Rattle.std.proofs.Common.{List, ℕ, Some, length, arith, rules, sym, ap, ◌∙◌}
use Rattle.std.specs.Option.{option_map}
use Rattle.sarif_match.specs.KeyParts.{fingerprint_parts}
use Rattle.sarif_evidence.proofs.EqualLemmas.{same_text}
use Rattle.sarif_match.proofs.ValueLemmas.{value_of-here}
use Rattle.sarif_match.proofs.keys.fingerprint_key.Goals as goal

pub returns-then-eq : goal.returns-then-eq
returns-then-eq c =
    let tool = c.args.finding.now.tool in
    let own = c.loop-own-item.result in
    let found = value_of-here c.args.name.now c.args.finding.now.full c.loop-own.own-index own (search rules)
    (omega (arith, ap length c.as_slice-own-items.ensures)) (search rules) c.loop-own.invariant in
    ap (λ (name : List ℕ). Some (fingerprint_parts tool name own.1)) (same_text _ _ (search rules))
    ∙ sym (ap (option_map (λ (value : List ℕ). fingerprint_parts tool c.args.name.now value)) found)
