-- Properties of the text report. A string is a list of characters here.
use Rattle.std.specs.Prelude.{◌≡◌, ℕ, Bool, true, false, ◌&&◌, ◌||◌, ◌==◌, List, [], ◌∷◌, encode_utf8_all}
use Rattle.std.specs.List.{count_by, list_all}
use Rattle.sarif_links.specs.Address.{has_two_signs}
use Rattle.sarif_findings.specs.ShownLaws.{is_seen}

-- whether a line begins with a colon, including the first if a line begins there
abbrev pub has_colon_line : Bool → List ℕ → Bool
has_colon_line begins [] = false
has_colon_line begins (c ∷ cs) = (begins && c == 58) || has_colon_line (c == 10) cs

-- this many lines of visible characters; no line begins with a colon or contains two adjacent `#`
pub record AreLines (count : ℕ) (cs : List ℕ) : Type 0 where
  pub ends : count_by (λ c. c == 10) cs ≡ count
  pub seen : list_all (λ c. c == 10 || is_seen c) cs ≡ true
  pub colons : has_colon_line true cs ≡ false
  pub signs : has_two_signs false cs ≡ false

-- the text of such lines
abbrev pub IsTextOfLines : ℕ → List ℕ → Type 0
IsTextOfLines count text = (cs : List ℕ) × (encode_utf8_all cs ≡ text) × AreLines count cs
