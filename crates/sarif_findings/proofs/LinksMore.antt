-- Links, character by character.
use Rattle.std.proofs.Common.{◌≡◌, ℕ, Bool, true, false, List, [], ◌∷◌, length, chars, if◌then◌else◌, refl, ap, sym, ◌∙◌, ne_eqb}
use Rattle.std.specs.Char.{is_ascii_digit}
use Rattle.std.proofs.StrCases.{chars_of_empty}
use Rattle.serde_json.specs.Data.{Data}
use Rattle.sarif_findings.specs.declared.links.Part.{Part}
use Rattle.sarif_findings.specs.Links.{ends_number, part_after, stays_between, unlinked_from}

-- ---- the number of a target

pub number_goes : (some : Bool) (c : ℕ) (cs : List ℕ) → (c ≡ 41 → ⊥) → is_ascii_digit c ≡ true → ends_number some (c ∷ cs) ≡ ends_number true cs
number_goes some c cs other digit = rw (ne_eqb c 41 other, digit) refl

pub number_stops : (some : Bool) (c : ℕ) (cs : List ℕ) → (c ≡ 41 → ⊥) → is_ascii_digit c ≡ false → ends_number some (c ∷ cs) ≡ false
number_stops some c cs other digit = rw (ne_eqb c 41 other, digit) refl

pub number_empty : (some : Bool) (text : List ℕ) → length text ≡ 0 → ends_number some (chars text) ≡ false
number_empty some text none = ap (ends_number some) (chars_of_empty text none)

-- ---- the characters that stay

by_true : (b : Bool) (x y : List ℕ) → b ≡ true → (if b then x else y) ≡ x
by_true b x y e = rw e refl

by_false : (b : Bool) (x y : List ℕ) → b ≡ false → (if b then x else y) ≡ y
by_false b x y e = rw e refl

pub char_stays : (args : List Data) (part next : Part) (c : ℕ) (cs : List ℕ) → next ≡ part_after args part c cs → stays_between part next ≡ true
    → unlinked_from args part (c ∷ cs) ≡ c ∷ unlinked_from args next cs
char_stays args part next c cs is stays =
    let after : Part = part_after args part c cs in
    by_true (stays_between part after) (c ∷ unlinked_from args after cs) (unlinked_from args after cs) (ap (stays_between part) (sym is) ∙ stays)
    ∙ ap (λ p. c ∷ unlinked_from args p cs) (sym is)

pub char_leaves : (args : List Data) (part next : Part) (c : ℕ) (cs : List ℕ) → next ≡ part_after args part c cs → stays_between part next ≡ false
    → unlinked_from args part (c ∷ cs) ≡ unlinked_from args next cs
char_leaves args part next c cs is leaves =
    let after : Part = part_after args part c cs in
    by_false (stays_between part after) (c ∷ unlinked_from args after cs) (unlinked_from args after cs) (ap (stays_between part) (sym is) ∙ leaves)
    ∙ ap (λ p. unlinked_from args p cs) (sym is)

pub unlinked_empty : (args : List Data) (part : Part) (text : List ℕ) → length text ≡ 0 → unlinked_from args part (chars text) ≡ []
unlinked_empty args part text none = ap (unlinked_from args part) (chars_of_empty text none)
