use Rattle.std.proofs.Common.{◌≡◌, ℕ, ◌<◌, suc, Bool, true, List, ◌∷◌, Some, cond, length, get_or, drop, bytes_eq, sym, ap, ◌∙◌, subst, drop-cons}
use Rattle.sarif_match.specs.Key.{value_of}

-- the value is at the position that the look-up reached
pub value_of-here : (name : List ℕ) (pairs : List (List ℕ × List ℕ)) (i : ℕ) (p : List ℕ × List ℕ) → p ≡ get_or pairs i p → i < length pairs
    → bytes_eq p.0 name ≡ true → value_of name (drop i pairs) ≡ value_of name pairs → value_of name pairs ≡ Some p.1
value_of-here name pairs i p here within same reached =
    sym reached ∙ ap (value_of name) (drop-cons pairs i p within)
    ∙ subst (λ (q : List ℕ × List ℕ). value_of name (q ∷ drop (suc i) pairs) ≡ Some p.1) here
    (ap (λ (b : Bool). cond b (Some p.1) (value_of name (drop (suc i) pairs))) same)
