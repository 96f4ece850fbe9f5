-- What was read of indexes, put together, and of the sources whose indexes they are, taken apart.
use Rattle.std.proofs.Common.{◌≡◌, ℕ, Bool, List, [], ◌∷◌, ◌++◌, take, drop, map, Result, length, refl, arith, subst}
use Rattle.std.specs.List.{AllZip}
use denote.Ref.{Bor}
use Rattle.json.specs.Token.{Token}
use Rattle.json_parts.specs.declared.indexing.IndexFault.{IndexFault}
use Rattle.sarif_inputs.specs.Internal.Together.{AreIndexed}
use Rattle.json_parts.specs.Mark.{without_mark}
use Rattle.sarif_inputs.specs.Internal.Parsed.{Parsed, IsParsedFrom, AreParsedFrom, IsReadFrom, AreReadFrom}

abbrev Found : Type 0
Found = Result (List Token) IndexFault

each_read : (allow : Bool) (shown : List (Bor Found)) (rs : List Parsed) → AllZip (λ p r. IsReadFrom allow p.now r) shown rs
    → AreReadFrom allow (map (λ p. p.now) shown) rs
each_read allow [] [] read = tt
each_read allow [] (r ∷ rs) read = absurd read
each_read allow (p ∷ shown) [] read = absurd read
each_read allow (p ∷ shown) (r ∷ rs) read = (read.0, each_read allow shown rs read.1)

-- what was read from references to these was read from these
pub read_shown : (allow : Bool) (shown : List (Bor Found)) (ps : List Found) (rs : List Parsed) → map (λ p. p.now) shown ≡ ps
    → AllZip (λ p r. IsReadFrom allow p.now r) shown rs → AreReadFrom allow ps rs
read_shown allow shown ps rs is read = subst (λ qs. AreReadFrom allow qs rs) is (each_read allow shown rs read)

-- what was read from the indexes of sources was read from the sources
pub parsed_by : (allow : Bool) (bs : List (List ℕ)) (ps : List Found) (rs : List Parsed) → AreIndexed (map without_mark bs) ps
    → AreReadFrom allow ps rs → AreParsedFrom allow bs rs
parsed_by allow [] [] [] indexed read = tt
parsed_by allow [] [] (r ∷ rs) indexed read = absurd read
parsed_by allow [] (p ∷ ps) rs indexed read = absurd indexed
parsed_by allow (b ∷ bs) [] rs indexed read = absurd indexed
parsed_by allow (b ∷ bs) (p ∷ ps) [] indexed read = absurd read
parsed_by allow (b ∷ bs) (p ∷ ps) (r ∷ rs) indexed read = (read.0 b indexed.0, parsed_by allow bs ps rs indexed.1 read.1)

-- the source of the first of these
pub parsed_first : (allow : Bool) (bs : List (List ℕ)) (r : Parsed) (rs : List Parsed)
    → AreParsedFrom allow bs (r ∷ rs) → (b : List ℕ) × (rest : List (List ℕ)) × (bs ≡ b ∷ rest) × IsParsedFrom allow b r × AreParsedFrom allow rest rs
parsed_first allow [] r rs h = absurd h
parsed_first allow (b ∷ rest) r rs h = (b, rest, refl, h.0, h.1)

pub parsed_none : (allow : Bool) (bs : List (List ℕ)) → AreParsedFrom allow bs [] → bs ≡ []
parsed_none allow [] h = refl
parsed_none allow (b ∷ bs) h = absurd h

pub parsed_length : (allow : Bool) (bs : List (List ℕ)) (rs : List Parsed) → AreParsedFrom allow bs rs → length rs ≡ length bs
parsed_length allow [] [] h = refl
parsed_length allow [] (r ∷ rs) h = absurd h
parsed_length allow (b ∷ bs) [] h = absurd h
parsed_length allow (b ∷ bs) (r ∷ rs) h = let rest = parsed_length allow bs rs h.1 in omega (arith, rest)

parsed_apart : (allow : Bool) (bs cs : List (List ℕ)) (rs : List Parsed)
    → AreParsedFrom allow (bs ++ cs) rs → AreParsedFrom allow bs (take (length bs) rs) × AreParsedFrom allow cs (drop (length bs) rs)
parsed_apart allow [] cs rs h = (tt, h)
parsed_apart allow (b ∷ bs) cs [] h = absurd h
parsed_apart allow (b ∷ bs) cs (r ∷ rs) h = let rest = parsed_apart allow bs cs rs h.1 in ((h.0, rest.0), rest.1)

-- the first of some sources, and the others
pub parsed_parts : (allow : Bool) (bs cs : List (List ℕ)) (n : ℕ) (rs : List Parsed)
    → length bs ≡ n → AreParsedFrom allow (bs ++ cs) rs → AreParsedFrom allow bs (take n rs) × AreParsedFrom allow cs (drop n rs)
parsed_parts allow bs cs n rs same h =
    subst (λ k. AreParsedFrom allow bs (take k rs) × AreParsedFrom allow cs (drop k rs)) same (parsed_apart allow bs cs rs h)
