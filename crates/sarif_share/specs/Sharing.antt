-- What the calls of one function give, when threads share them.
use Rattle.std.specs.Prelude.{◌≡◌, ◌<◌, ℕ, ⊤, ◌+◌, ◌++◌, List, [], ◌∷◌, length, map, Result, Ok}
use Rattle.std.specs.List.{All, AllByRecursion, AllZip, flat_map}
use denote.Ref.{Bor}
use denote.Param.Members.{Shared}
use Rattle.std.specs.Fn.{FnReturnsAt}

module _ {F J U E : Type 0} (g : Shared F (J × Unit {0}) (Result U E)) (f : F) where
  -- f may be called with each of these
  abbrev pub AcceptsEach : List J → Type 0
  AcceptsEach js = All (λ j. g.pre f (j, tt)) js

  -- each of these is what a call of f may give with the job at its place
  abbrev pub GivesEach : List J → List U → Type 0
  GivesEach js us = AllZip (λ j u. g.post f (j, tt) (Ok u)) js us

module _ {F T R : Type 0} (g : Shared F (ℕ × (Bor (List T) × Unit {0})) R) (f : F) where
  -- f may be called with each part of xs, and with the place in xs where the part begins
  abbrev pub AcceptsParts : List T → Type 0
  AcceptsParts xs =
      (before after : List T) (p : Bor (List T)) → before ++ (p.now ++ after) ≡ xs
      → g.pre f (length before, (p, tt))

  -- r is what a call of f may give with this part, which begins there
  pub record GivesPart (start : ℕ) (part : List T) (r : R) : Type 0 where
    pub shown : Bor (List T)
    pub shows : shown.now ≡ part
    pub call : g.post f (start, (shown, tt)) r

  -- each of these is what a call of f may give with the part at its place. The first part begins at start
  abbrev pub GivesParts : ℕ → List (List T) → List R → Type 0
  GivesParts start [] [] = ⊤
  GivesParts start [] (r ∷ rs) = ⊥
  GivesParts start (p ∷ ps) [] = ⊥
  GivesParts start (p ∷ ps) (r ∷ rs) = GivesPart start p r × GivesParts (start + length p) ps rs

  -- each of these is what a call of f may give with a part of xs. The parts have elements, and together are xs
  pub record GivesInParts (xs : List T) (rs : List R) : Type 0 where
    pub parts : List (List T)
    pub whole : flat_map (λ p. p) parts ≡ xs
    pub some : AllByRecursion (λ p. 0 < length p) parts
    pub given : GivesParts 0 parts rs

module _ {F T U E : Type 0} (g : Shared F (Bor T × Unit {0}) (Result U E)) (f : F) where
  -- f may be called with a reference to each of these
  abbrev pub AcceptsEachAt : List T → Type 0
  AcceptsEachAt xs = All (λ x. (p : Bor T) → p.now ≡ x → g.pre f (p, tt)) xs

  -- each of these is what a call of f may give with the one at its place
  abbrev pub GivesEachAt : List T → List U → Type 0
  GivesEachAt xs us = AllZip (λ x u. FnReturnsAt g f x (Ok u)) xs us

-- all of these are values, whose contents are us when concatenated
abbrev pub AreJoined : {V U E : Type 0} → (V → List U) → List (Result V E) → List U → Type 0
AreJoined {V} content rs us =
    (values : List V) × (map Ok values ≡ rs) × (flat_map content values ≡ us)
