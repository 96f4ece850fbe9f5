use Rattle.std.proofs.Common.{◌∷◌, [], codes}
use Rattle.json.specs.Token.{key, begin_object, begin_array}
use Rattle.sarif_known.proofs.TokensOf.{two, three, four}
use Rattle.sarif_known.proofs.known_result.open_location.Goals as goal

pub returns : goal.returns
returns c =
    two c.args.out.now (key (codes "locations") ∷ begin_array ∷ begin_object ∷ key (codes "physicalLocation") ∷ [])
    (begin_object ∷ key (codes "artifactLocation") ∷ begin_object ∷ []) c.token-4.new.self _
    (four c.args.out.now (key (codes "locations") ∷ []) (begin_array ∷ []) (begin_object ∷ [])
    (key (codes "physicalLocation") ∷ []) _ _ _ _ c.in_ok-token.ensures c.in_ok-token-2.ensures c.in_ok-token-3.ensures
    c.in_ok-token-4.ensures)
    (three c.token-4.new.self (begin_object ∷ []) (key (codes "artifactLocation") ∷ [])
    (begin_object ∷ []) _ _ _ c.in_ok-token-5.ensures c.in_ok-token-6.ensures c.in_ok-token-7.ensures)
