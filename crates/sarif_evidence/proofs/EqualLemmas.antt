-- Parts of two results that are equal are the same.
use Rattle.std.proofs.Common.{◌≡◌, ℕ, Bool, true, ◌&&◌, ◌==◌, List, [], ◌∷◌, Option, Some, None, bytes_eq, refl, ap, eq-eqb}
use Rattle.std.specs.Option.{option_eq}
use Rattle.std.specs.Cmp.Lexicographic.{pointwise}
use Rattle.std.proofs.lemmas.Bool.{false≢true, and_from, and_parts}
use Rattle.std.proofs.lemmas.Bool.Decides.{Decides-eqb}
use Rattle.std.proofs.lemmas.Slice.Eq.{bytes_eq-Decides}
use Rattle.sarif_model.specs.declared.message.Message.{Message}
use Rattle.sarif_model.specs.declared.place.Place.{Place}
use Rattle.sarif_model.specs.declared.region.Region.{Region}
use Rattle.sarif_evidence.specs.EqualParts.{pairs_eq, place_eq, message_eq, region_eq}

-- equal strings are the same
pub same_text : (a b : List ℕ) → bytes_eq a b ≡ true → a ≡ b
same_text a b e = (bytes_eq-Decides a b).0 e

-- strings
pub text_refl : (a : List ℕ) → bytes_eq a a ≡ true
text_refl a = (bytes_eq-Decides a a).1 refl

pub option_same : (a b : Option (List ℕ)) → option_eq bytes_eq a b ≡ true → a ≡ b
option_same None None e = refl
option_same None (Some b) e = absurd (false≢true e)
option_same (Some a) None e = absurd (false≢true e)
option_same (Some a) (Some b) e = ap Some (same_text a b e)

pub option_refl : (a : Option (List ℕ)) → option_eq bytes_eq a a ≡ true
option_refl None = refl
option_refl (Some a) = text_refl a

module _ {X : Type 0} (E : X → X → Bool) where
  pub list_same : ((x y : X) → E x y ≡ true → x ≡ y) → (xs ys : List X) → pointwise E xs ys ≡ true → xs ≡ ys
  list_same same [] [] e = refl
  list_same same [] (y ∷ ys) e = absurd (false≢true e)
  list_same same (x ∷ xs) [] e = absurd (false≢true e)
  list_same same (x ∷ xs) (y ∷ ys) e =
      let both = and_parts (E x y) (pointwise E xs ys) e in
      let first : x ≡ y = same x y both.0 in
      let rest : xs ≡ ys = list_same same xs ys both.1 in
      λ i. first i ∷ rest i

  pub list_refl : ((x : X) → E x x ≡ true) → (xs : List X) → pointwise E xs xs ≡ true
  list_refl each [] = refl
  list_refl each (x ∷ xs) = and_from (E x x) (pointwise E xs xs) (each x) (list_refl each xs)

pair_same : (p q : List ℕ × List ℕ) → bytes_eq p.0 q.0 && bytes_eq p.1 q.1 ≡ true → p ≡ q
pair_same p q e =
    let both = and_parts (bytes_eq p.0 q.0) (bytes_eq p.1 q.1) e in
    let name : p.0 ≡ q.0 = same_text p.0 q.0 both.0 in
    let value : p.1 ≡ q.1 = same_text p.1 q.1 both.1 in
    λ i. (name i, value i)

pub pairs_same : (a b : List (List ℕ × List ℕ)) → pairs_eq a b ≡ true → a ≡ b
pairs_same a b e = list_same (λ (p q : List ℕ × List ℕ). bytes_eq p.0 q.0 && bytes_eq p.1 q.1) pair_same a b e

pub pairs_refl : (a : List (List ℕ × List ℕ)) → pairs_eq a a ≡ true
pairs_refl a = list_refl (λ (p q : List ℕ × List ℕ). bytes_eq p.0 q.0 && bytes_eq p.1 q.1)
    (λ p. and_from (bytes_eq p.0 p.0) (bytes_eq p.1 p.1) (text_refl p.0) (text_refl p.1)) a

pub place_same : (a b : Place) → place_eq a b ≡ true → a ≡ b
place_same a b e =
    let both = and_parts (option_eq bytes_eq a.uri b.uri) (option_eq bytes_eq a.base b.base) e in
    let uri : a.uri ≡ b.uri = option_same a.uri b.uri both.0 in
    let base : a.base ≡ b.base = option_same a.base b.base both.1 in
    λ i. record { uri = uri i; base = base i }

pub place_refl : (a : Place) → place_eq a a ≡ true
place_refl a = and_from (option_eq bytes_eq a.uri a.uri) (option_eq bytes_eq a.base a.base) (option_refl a.uri) (option_refl a.base)

pub message_same : (a b : Message) → message_eq a b ≡ true → a ≡ b
message_same a b e =
    let both = and_parts (option_eq bytes_eq a.text b.text) (option_eq bytes_eq a.id b.id && pointwise bytes_eq a.args b.args) e in
    let rest = and_parts (option_eq bytes_eq a.id b.id) (pointwise bytes_eq a.args b.args) both.1 in
    let text : a.text ≡ b.text = option_same a.text b.text both.0 in
    let id : a.id ≡ b.id = option_same a.id b.id rest.0 in
    let args : a.args ≡ b.args = list_same bytes_eq same_text a.args b.args rest.1 in
    λ i. record { text = text i; id = id i; args = args i }

pub message_refl : (a : Message) → message_eq a a ≡ true
message_refl a =
    and_from (option_eq bytes_eq a.text a.text) (option_eq bytes_eq a.id a.id && pointwise bytes_eq a.args a.args) (option_refl a.text)
    (and_from (option_eq bytes_eq a.id a.id) (pointwise bytes_eq a.args a.args) (option_refl a.id) (list_refl bytes_eq text_refl a.args))

abbrev pub number_eq : Option ℕ → Option ℕ → Bool
number_eq a b = option_eq (λ m n. m == n) a b

pub number_same : (a b : Option ℕ) → number_eq a b ≡ true → a ≡ b
number_same None None e = refl
number_same None (Some b) e = absurd (false≢true e)
number_same (Some a) None e = absurd (false≢true e)
number_same (Some a) (Some b) e = ap Some ((Decides-eqb a b).0 e)

pub number_refl : (a : Option ℕ) → number_eq a a ≡ true
number_refl None = refl
number_refl (Some a) = eq-eqb a a refl

pub region_same : (a b : Region) → region_eq a b ≡ true → a ≡ b
region_same a b e =
    let both = and_parts (a.start_line == b.start_line)
    (number_eq a.start_column b.start_column && (number_eq a.end_line b.end_line && number_eq a.end_column b.end_column)) e in
    let rest = and_parts (number_eq a.start_column b.start_column) (number_eq a.end_line b.end_line && number_eq a.end_column b.end_column) both.1 in
    let last = and_parts (number_eq a.end_line b.end_line) (number_eq a.end_column b.end_column) rest.1 in
    let start_line : a.start_line ≡ b.start_line = (Decides-eqb a.start_line b.start_line).0 both.0 in
    let start_column : a.start_column ≡ b.start_column = number_same a.start_column b.start_column rest.0 in
    let end_line : a.end_line ≡ b.end_line = number_same a.end_line b.end_line last.0 in
    let end_column : a.end_column ≡ b.end_column = number_same a.end_column b.end_column last.1 in
    λ i. record { start_line = start_line i; start_column = start_column i; end_line = end_line i; end_column = end_column i }

pub region_refl : (a : Region) → region_eq a a ≡ true
region_refl a =
    and_from (a.start_line == a.start_line)
    (number_eq a.start_column a.start_column && (number_eq a.end_line a.end_line && number_eq a.end_column a.end_column))
    (eq-eqb a.start_line a.start_line refl)
    (and_from (number_eq a.start_column a.start_column) (number_eq a.end_line a.end_line && number_eq a.end_column a.end_column) (number_refl a.start_column)
    (and_from (number_eq a.end_line a.end_line) (number_eq a.end_column a.end_column) (number_refl a.end_line) (number_refl a.end_column)))
