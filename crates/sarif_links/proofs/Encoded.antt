-- A path that has only characters that stay.
use Rattle.std.proofs.Common.{◌≡◌, ◌++◌, ℕ, Bool, true, false, ◌&&◌, List, [], ◌∷◌, refl, sym, ap, if◌then◌else◌}
use Rattle.std.specs.List.{list_all}
use Rattle.std.proofs.lemmas.Bool.{true≢false}
use Rattle.percent_encoding.specs.Percent.{percent_encode_byte}
use Rattle.sarif_links.specs.Template.{encoded, is_plain}

stays_by : (plain : Bool) (b : ℕ) (path rest : List ℕ) → (list_all is_plain path ≡ true → rest ≡ path) → (plain && list_all is_plain path) ≡ true
    → (if plain then b ∷ [] else percent_encode_byte b) ++ rest ≡ b ∷ path
stays_by true b path rest same h = ap (λ (bs : List ℕ). b ∷ bs) (same h)
stays_by false b path rest same h = absurd (true≢false (sym h))

pub stays : (path : List ℕ) → list_all is_plain path ≡ true → encoded path ≡ path
stays [] h = refl
stays (b ∷ path) h = stays_by (is_plain b) b path (encoded path) (stays path) h
