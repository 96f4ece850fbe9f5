-- What is left of a string without what it begins with.
use Rattle.std.proofs.Common.{◌≡◌, ◌+◌, ℕ, true, false, List, length, drop, nat_eq, Option, Some, None, MatchOption, sym, subst, ap, refl, ◌∙◌, if◌then◌else◌}
use Rattle.std.specs.Prelude.{option_map}
use Rattle.std.specs.Borrow.{Bor}
use Rattle.std.specs.List.{starts_with}
use Rattle.std.specs.Str.{IsCharBoundary}
use Rattle.std.specs.Str.Pattern.{FindsTextPrefix, HasPrefixMatch}
use Rattle.std.proofs.lemmas.Str.Pattern.{starts_text}

-- a prefix that was found is a match
found_prefix : (root path : List ℕ) (n : ℕ) → FindsTextPrefix root path (Some n) → HasPrefixMatch (FindsTextPrefix root) path
found_prefix root path n found =
    let P : ℕ → Type 0 = λ k. IsCharBoundary path k in
    (n, found, subst P (sym found.0) found.2)

pub stripped_is : (root path : List ℕ) (r : Option (Bor (List ℕ)))
    → MatchOption r (FindsTextPrefix root path None)
    (λ x. (n : ℕ) × FindsTextPrefix root path (Some n) × (x.now ≡ drop n path) × (length x.now + n ≡ length path))
    → option_map (λ s. s.now) r ≡ (if starts_with nat_eq path root then Some (drop (length root) path) else None)
stripped_is root path None lacks =
    let begins : false ≡ starts_with nat_eq path root = starts_text false root path lacks in
    rw (sym begins) refl
stripped_is root path (Some x) found =
    let begins : true ≡ starts_with nat_eq path root = starts_text true root path (found_prefix root path found.0 found.1) in
    rw (sym begins) (ap Some (found.2 ∙ ap (λ n. drop n path) found.1.0))
