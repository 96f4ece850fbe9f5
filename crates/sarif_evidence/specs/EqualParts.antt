-- Whether parts of two results are equal.
use Rattle.std.specs.Prelude.{ℕ, List, Bool, ◌&&◌, ◌==◌, bytes_eq, length}
use Rattle.std.specs.Option.{option_eq}
use Rattle.std.specs.Cmp.Lexicographic.{pointwise}
use Rattle.sarif_model.specs.declared.message.Message.{Message}
use Rattle.sarif_model.specs.declared.place.Place.{Place}
use Rattle.sarif_model.specs.declared.region.Region.{Region}

-- no members
abbrev pub is_empty : List (List ℕ × List ℕ) → Bool
is_empty pairs = length pairs == 0

abbrev pub pairs_eq : List (List ℕ × List ℕ) → List (List ℕ × List ℕ) → Bool
pairs_eq = pointwise (λ p q. bytes_eq p.0 q.0 && bytes_eq p.1 q.1)

abbrev pub place_eq : Place → Place → Bool
place_eq a b = option_eq bytes_eq a.uri b.uri && option_eq bytes_eq a.base b.base

abbrev pub message_eq : Message → Message → Bool
message_eq a b =
    option_eq bytes_eq a.text b.text
    && (option_eq bytes_eq a.id b.id && pointwise bytes_eq a.args b.args)

abbrev pub region_eq : Region → Region → Bool
region_eq a b =
    (a.start_line == b.start_line)
    && (option_eq (λ m n. m == n) a.start_column b.start_column
    && (option_eq (λ m n. m == n) a.end_line b.end_line
    && option_eq (λ m n. m == n) a.end_column b.end_column))
