use Rattle.std.proofs.Common.{rules, ◌≡◌, ◌==◌, not, true, Bool, List, ℕ, [], ◌∷◌, cond, length, map, ap, sym, ◌∙◌}
use Rattle.sarif_match.specs.Tiers.{with_names}
use Rattle.sarif_match.proofs.NameLemmas.{lent_names, lent_names-insert_key}
use Rattle.sarif_match.proofs.finer_tiers.add_if_filled.Goals as goal

pub returns : goal.returns
returns c =
    let p = c.args.fingerprint.now in
    let old = c.args.names.now.keys in
    let stays : not (length p.1 == 0) ≡ true = search rules in
    ap lent_names c.in_ok-insert.ensures.keys ∙ lent_names-insert_key old _
    ∙ sym (ap (λ (b : Bool). with_names (lent_names old) (map (λ (pair : List ℕ × List ℕ). pair.0) (cond b (p ∷ []) []))) stays)
