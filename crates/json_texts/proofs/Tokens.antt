-- One token after those that were written.
use Rattle.std.proofs.Common.{◌≡◌, ℕ, suc, ◌*◌, ◌<◌, ◌≤◌, List, [], ◌∷◌, ◌++◌, Result, OnOk, sym, ap, ◌∙◌, arith}
use Rattle.std.proofs.lemmas.Result.{on_ok_weaker}
use Rattle.json.specs.Token.{Token}
use Rattle.json.specs.Json.{Json}
use Rattle.json.specs.Tree.{json_tokens}

-- a value of one token was written
pub one_written : {T E : Type 0} (r : Result T E) (old new : List Token) (t : Token) (i j : Json) → json_tokens i ≡ t ∷ [] → i ≡ j
    → OnOk r (new ≡ old ++ t ∷ []) → OnOk r (new ≡ old ++ json_tokens j)
one_written r old new t i j one is = on_ok_weaker r (λ e. e ∙ ap (λ ts. old ++ ts) (sym one ∙ ap json_tokens is))

-- a value within another falls under its measure
pub inner_below : (outer inner n t : ℕ) → outer ≡ suc n → inner ≤ n → 2 * outer ≡ t → 2 * inner < t
inner_below outer inner n t e le is = omega (arith, e, le, is)
