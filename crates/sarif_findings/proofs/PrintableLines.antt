-- The first characters of a line, if they are printable: they stay as they are.
use Rattle.std.proofs.Common.{◌≡◌, ◌==◌, ℕ, true, false, List, [], ◌∷◌, ◌++◌, refl, ap, ◌∙◌, append_assoc, arith}
use Rattle.std.specs.Prelude.{flat_map}
use Rattle.std.specs.List.{list_all}
use Rattle.std.proofs.lemmas.Bool.{and_parts}
use Rattle.std.proofs.lemmas.Bool.Decides.{nat_tests}
use Rattle.sarif_findings.specs.declared.shown_text.ShownText.{ShownText}
use Rattle.sarif_findings.specs.Code.{spread, spread_line}
use Rattle.sarif_findings.specs.Internal.ShownSoFar.{is_printable, kept_with, KeepsAll}
use Rattle.sarif_findings.proofs.EmptiesPassed.{char_of}
use Rattle.sarif_findings.proofs.ShownWhole.{low, plain_byte}

no_tab : (b : ℕ) → is_printable b ≡ true → (b == 9) ≡ false
no_tab b h = grind (arith, nat_tests, h)

spread_one : (b : ℕ) → is_printable b ≡ true → spread b ≡ b ∷ []
spread_one b h = rw (no_tab b h, plain_byte b h) refl

spread_first : (first rest : List ℕ) → list_all is_printable first ≡ true → spread_line (first ++ rest) ≡ first ++ spread_line rest
spread_first [] rest h = refl
spread_first (b ∷ bs) rest h =
    let parts = and_parts (is_printable b) (list_all is_printable bs) h in
    ap (flat_map spread) (char_of b (bs ++ rest) (low b parts.0))
    ∙ ap (λ cs. cs ++ spread_line (bs ++ rest)) (spread_one b parts.0)
    ∙ ap (λ cs. b ∷ cs) (spread_first bs rest parts.1)

-- a line is kept whose first characters are kept together
pub keeps_line : (old mid new : ShownText) (line first rest : List ℕ) → line ≡ first ++ rest → list_all is_printable first ≡ true
    → KeepsAll old mid first → KeepsAll mid new (spread_line rest) → KeepsAll old new (spread_line line)
keeps_line old mid new line first rest parts h one others = λ more.
    ap (λ cs. kept_with old (cs ++ more)) (ap spread_line parts ∙ spread_first first rest h)
    ∙ ap (kept_with old) (append_assoc first (spread_line rest) more)
    ∙ one (spread_line rest ++ more)
    ∙ others more
