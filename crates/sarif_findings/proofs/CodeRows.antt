-- A line without the spaces that it begins with.
use Rattle.std.proofs.Common.{◌≡◌, ◌≢◌, ◌==◌, ℕ, Bool, true, false, List, [], ◌∷◌, refl, ap, if◌then◌else◌}
use Rattle.std.proofs.lemmas.Bool.{eqb-true}
use Rattle.sarif_findings.specs.CodeRows.{without_spaces}

begins_by : (b : Bool) (c : ℕ) (cs : List ℕ) → (c == 32) ≡ b → ((rest : List ℕ) → (c ∷ cs) ≢ (32 ∷ rest))
    → c ∷ cs ≡ (if b then without_spaces cs else c ∷ cs)
begins_by true c cs test apart = absurd (apart cs (ap (λ d. d ∷ cs) (eqb-true c 32 test)))
begins_by false c cs test apart = refl

-- a line that begins with none stays
pub no_space : (line : List ℕ) → ((rest : List ℕ) → line ≢ (32 ∷ rest)) → line ≡ without_spaces line
no_space [] apart = refl
no_space (c ∷ cs) apart = begins_by (c == 32) c cs refl apart
