use Rattle.std.proofs.Common.{List, ℕ, Some, length, arith, rules, sym, ap, ◌∙◌}
use Rattle.std.specs.Option.{option_map}
use Rattle.sarif_match.specs.Key.{group_of}
use Rattle.sarif_match.specs.KeyParts.{Group, fingerprint_here_parts}
use Rattle.sarif_evidence.proofs.EqualLemmas.{same_text}
use Rattle.sarif_match.proofs.ValueLemmas.{value_of-here}
use Rattle.sarif_match.proofs.finer_keys.fingerprint_here_key.Goals as goal

pub returns-then-eq : goal.returns-then-eq
returns-then-eq c =
    let group = group_of c.args.finding.now in
    let own = c.member-item.result in
    let found = value_of-here c.args.name.now c.args.finding.now.full c.loop-member.member-index own (search rules)
    (omega (arith, ap length c.as_slice-member-items.ensures)) (search rules) c.loop-member.invariant in
    ap (λ (g : Group). Some (fingerprint_here_parts g own.0 own.1)) c.group_of.ensures
    ∙ ap (λ (name : List ℕ). Some (fingerprint_here_parts group name own.1)) (same_text _ _ (search rules))
    ∙ sym (ap (option_map (λ (value : List ℕ). fingerprint_here_parts group c.args.name.now value)) found)
