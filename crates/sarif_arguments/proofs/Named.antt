-- The file that an argument names, by what follows its first byte.
use Rattle.std.proofs.Common.{◌≡◌, ◌≢◌, ◌==◌, ◌∷◌, [], List, ℕ, Bool, true, false, length, ap, refl, subst, sym, true≢false, if◌then◌else◌, ne_eqb, arith}
use Rattle.std.specs.Prelude.{Some, None}
use Rattle.sarif_arguments.specs.Replaced.{file_named}

none_named : (bytes : List ℕ) → ((rest : List ℕ) → bytes ≢ 64 ∷ rest) → file_named bytes ≡ None
none_named [] other = refl
none_named (byte ∷ []) other = refl
none_named (byte ∷ next ∷ rest) other =
    subst (λ (is : Bool). (if is then Some (next ∷ rest) else None) ≡ None)
    (sym (ne_eqb byte 64 (λ e. other (next ∷ rest) (ap (λ first. first ∷ next ∷ rest) e)))) refl

pub no_file : (bytes : List ℕ) → ((rest : List ℕ) → bytes ≢ 64 ∷ rest) → None ≡ file_named bytes
no_file bytes other = sym (none_named bytes other)

pub a_file : (bytes name : List ℕ) → bytes ≡ 64 ∷ name → (length name == 0) ≡ false → Some name ≡ file_named bytes
a_file bytes [] e some = absurd (true≢false some)
a_file bytes (next ∷ rest) e some = sym (ap file_named e)

pub sign_alone : (bytes name : List ℕ) → bytes ≡ 64 ∷ name → (length name == 0) ≡ true → None ≡ file_named bytes
sign_alone bytes [] e none = sym (ap file_named e)
sign_alone bytes (next ∷ rest) e none = absurd (grind (arith, none))
