-- The parts that the text of an object is written from, in the order of their names. Only private clauses cite it.
use Rattle.std.specs.Prelude.{ℕ, suc, Bool, true, false, List, [], ◌∷◌, ◌++◌, cond, map, ⊤}
use Rattle.std.specs.Ordering.{nat_cmp, match_ordering}
use Rattle.std.specs.Cmp.Lexicographic.{slice_cmp}
use Rattle.json.specs.Token.{Token}
use Rattle.json.specs.Print.{print, ends_value}
use Rattle.json_parts.specs.Indexed.{json_at}
use Rattle.json_parts.specs.Internal.Around.{name_text}
use Rattle.json_texts.specs.Whole.{written, text_of}
use Rattle.json_texts.specs.Around.{Named}
use Rattle.json_texts.specs.Internal.Walking.{IsWritable}
use Rattle.json_texts.specs.declared.around.Part.{Part}
use Rattle.json_texts.specs.declared.around.Part.TheVariants.{Found, Set}

abbrev pub name_of : Part → List ℕ
name_of (Found m) = m.name.now
name_of (Set s) = s.name.now

-- the text of its value
abbrev pub text_at : Bool → Part → List ℕ
text_at keeps (Found m) = text_of (written keeps (json_at m.value))
text_at keeps (Set s) = s.text.now

abbrev pub named_at : Bool → List Part → Named
named_at keeps ps = map (λ p. (name_of p, text_at keeps p)) ps

abbrev pub is_found : Part → Bool
is_found (Found m) = true
is_found (Set s) = false

abbrev pub IsPart : Part → Type 0
IsPart (Found m) = IsWritable m.value
IsPart (Set s) = ⊤

abbrev pub AreParts : List Part → Type 0
AreParts [] = ⊤
AreParts (p ∷ ps) = IsPart p × AreParts ps

-- the number of the first part whose name is not below this one
abbrev pub place : List ℕ → List Part → ℕ
place name [] = 0
place name (p ∷ ps) = match_ordering (slice_cmp nat_cmp name (name_of p)) 0 0 (suc (place name ps))

-- whether the part there has that name
abbrev pub is_there : List ℕ → List Part → Bool
is_there name [] = false
is_there name (p ∷ ps) = match_ordering (slice_cmp nat_cmp name (name_of p)) false true (is_there name ps)

-- a part with its name, and a comma
abbrev pub part_text : Bool → Part → List ℕ
part_text keeps p = name_text (name_of p) ++ (text_at keeps p ++ (44 ∷ []))

abbrev pub parts_text : Bool → List Part → List ℕ
parts_text keeps [] = []
parts_text keeps (p ∷ ps) = part_text keeps p ++ parts_text keeps ps

-- what is written, with a comma after a value
abbrev pub closed : List ℕ → List Token → List ℕ
closed before ts = before ++ (print ts ++ cond (ends_value ts) (44 ∷ []) [])
