-- A GUID that is written is read as the same.
use Rattle.std.proofs.Common.{◌≡◌, ℕ, ◌<◌, ◌^◌, All, Some, option_map, refl, sym, ap, ◌∙◌, inl, arith}
use Rattle.std.specs.Int.{w128, to_be_bytes, from_be_bytes}
use Rattle.std.proofs.lemmas.List.Elements.{All-from_recursion}
use Rattle.uuid.specs.Text.{lower}
use Rattle.uuid.proofs.RoundTrips.{parses_hyphenated}
use Rattle.uuid.proofs.OrderLemmas.{from_be_bytes-to_be_bytes_16}
use Rattle.sarif_model.specs.Guid.{guid_of_text, guid_text}

small_bytes : (n : ℕ) → All (λ b. b < 256) (to_be_bytes w128 n)
small_bytes n = All-from_recursion (λ b. b < 256) (to_be_bytes w128 n) (
  omega arith,
  (
    omega arith,
    (
      omega arith,
      (
        omega arith,
        (
          omega arith,
          (
            omega arith,
            (
              omega arith,
              (
                omega arith,
                (omega arith, (omega arith, (omega arith, (omega arith, (omega arith, (omega arith, (omega arith, (omega arith, tt)))))))),
              ),
            ),
          ),
        ),
      ),
    ),
  ),
)

pub guid_back : (guid : ℕ) → guid < 2 ^ 128 → guid_of_text (guid_text guid) ≡ Some guid
unfolding guid_of_text
guid_back guid fits =
    ap (option_map (from_be_bytes w128)) (sym (parses_hyphenated lower (to_be_bytes w128 guid) (inl refl) refl (small_bytes guid)))
    ∙ ap Some (from_be_bytes-to_be_bytes_16 guid fits)
