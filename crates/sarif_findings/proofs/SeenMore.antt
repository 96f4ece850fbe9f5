-- A shown string is visible, and no two `#` are adjacent in it.
use Rattle.std.proofs.Common.{◌≡◌, ◌==◌, ℕ, zero, suc, Bool, true, false, not, ◌&&◌, List, [], ◌∷◌, ◌++◌, map, refl, ap, if◌then◌else◌}
use mathlib.Core.Bool.{and-false}
use Rattle.std.proofs.lemmas.Bool.{and_parts, and_from, or_from, or_parts}
use Rattle.sarif_findings.specs.Shown.{is_concealed, plain, parted_signs, kept, shown_chars}
use Rattle.sarif_links.specs.Address.{has_two_signs}
use Rattle.sarif_findings.specs.ShownLaws.{is_seen, are_seen}
use Rattle.sarif_findings.specs.Shown.{most_characters}

-- ---- no character is concealed

plain_by : (c : ℕ) (b : Bool) → is_concealed c ≡ b → is_seen (if b then 32 else c) ≡ true
plain_by c true e = refl
plain_by c false e = ap not e

pub plain_seen : (c : ℕ) → is_seen (plain c) ≡ true
plain_seen c = plain_by c (is_concealed c) refl

map_seen : (cs : List ℕ) → are_seen (map plain cs) ≡ true
map_seen [] = refl
map_seen (c ∷ cs) = and_from (is_seen (plain c)) (are_seen (map plain cs)) (plain_seen c) (map_seen cs)

parted_by : (b : Bool) (c : ℕ) (rest : List ℕ) → is_seen c ≡ true → are_seen rest ≡ true
    → are_seen ((if b then 32 ∷ c ∷ [] else c ∷ []) ++ rest) ≡ true
parted_by true c rest here there = and_from (is_seen c) (are_seen rest) here there
parted_by false c rest here there = and_from (is_seen c) (are_seen rest) here there

parted_seen : (after : Bool) (cs : List ℕ) → are_seen cs ≡ true → are_seen (parted_signs after cs) ≡ true
parted_seen after [] h = refl
parted_seen after (c ∷ cs) h =
    let parts = and_parts (is_seen c) (are_seen cs) h in
    parted_by (after && c == 35) c (parted_signs (c == 35) cs) parts.0 (parted_seen (c == 35) cs parts.1)

pub kept_seen : (room : ℕ) (cs : List ℕ) → are_seen cs ≡ true → are_seen (kept room cs) ≡ true
unfolding kept
kept_seen zero [] h = refl
kept_seen (suc room) [] h = refl
kept_seen zero (c ∷ cs) h = refl
kept_seen (suc room) (c ∷ cs) h =
    let parts = and_parts (is_seen c) (are_seen cs) h in
    and_from (is_seen c) (are_seen (kept room cs)) parts.0 (kept_seen room cs parts.1)

pub shown_seen : (cs : List ℕ) → are_seen (shown_chars cs) ≡ true
shown_seen cs = kept_seen most_characters (parted_signs false (map plain cs)) (parted_seen false (map plain cs) (map_seen cs))

-- ---- no two signs together

signs_by : (after b : Bool) (c : ℕ) (rest : List ℕ) → (after && c == 35) ≡ b → has_two_signs (c == 35) rest ≡ false
    → has_two_signs after ((if b then 32 ∷ c ∷ [] else c ∷ []) ++ rest) ≡ false
signs_by after true c rest e h = or_from (after && false) (has_two_signs (c == 35) rest) (and-false after) h
signs_by after false c rest e h = or_from (after && c == 35) (has_two_signs (c == 35) rest) e h

parted_apart : (after : Bool) (cs : List ℕ) → has_two_signs after (parted_signs after cs) ≡ false
parted_apart after [] = refl
parted_apart after (c ∷ cs) =
    signs_by after (after && c == 35) c (parted_signs (c == 35) cs) refl (parted_apart (c == 35) cs)

kept_apart : (after : Bool) (room : ℕ) (cs : List ℕ) → has_two_signs after cs ≡ false → has_two_signs after (kept room cs) ≡ false
unfolding kept
kept_apart after zero [] h = refl
kept_apart after (suc room) [] h = refl
kept_apart after zero (c ∷ cs) h = or_from (after && false) false (and-false after) refl
kept_apart after (suc room) (c ∷ cs) h =
    let parts = or_parts (after && c == 35) (has_two_signs (c == 35) cs) h in
    or_from (after && c == 35) (has_two_signs (c == 35) (kept room cs)) parts.0 (kept_apart (c == 35) room cs parts.1)

pub shown_apart : (cs : List ℕ) → has_two_signs false (shown_chars cs) ≡ false
shown_apart cs = kept_apart false most_characters (parted_signs false (map plain cs)) (parted_apart false (map plain cs))
