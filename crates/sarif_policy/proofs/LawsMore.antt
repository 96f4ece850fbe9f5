-- What decimals and filters are.
use Rattle.std.proofs.Common.{◌≡◌, ℕ, ◌==◌, Bool, true, false, cond, List, [], ◌∷◌, ◌++◌, length, length-append, Option, Some, None, refl, arith}
use Rattle.std.specs.Str.Parse.{digits_value}
use Rattle.std.proofs.lemmas.Bool.Decides.{nat_tests}
use Rattle.sarif_model.specs.declared.record.Record.{Record}
use Rattle.sarif_entries.specs.Matching.{hold, matches}
use Rattle.sarif_entries.specs.declared.condition.Condition.{Condition}
use Rattle.sarif_policy.specs.Condition.{filter_with}
use Rattle.sarif_policy.specs.Decimal.{number_with, places, without_zeros}

pub digits_stay : (whole fraction : List ℕ) → digits_value 10 (number_with whole fraction).digits ≡ digits_value 10 (whole ++ fraction)
unfolding without_zeros
digits_stay [] fraction = refl
digits_stay (d ∷ ds) fraction = by_zero (digits_stay ds fraction) (d == 48) refl
  where
    by_zero : digits_value 10 (without_zeros ds ++ fraction) ≡ digits_value 10 (ds ++ fraction)
        → (t : Bool) → (d == 48) ≡ t
        → digits_value 10 (cond (d == 48) (without_zeros ds) (d ∷ ds) ++ fraction) ≡ digits_value 10 ((d ∷ ds) ++ fraction)
    by_zero rest true is =
        let zero_digit : d ≡ 48 = grind (arith, nat_tests) in
        rw (is, zero_digit) rest
    by_zero rest false is = rw is refl

pub places_stay : (whole fraction : List ℕ) → places (number_with whole fraction) ≡ length fraction
places_stay whole fraction = omega (arith, length-append (without_zeros whole) fraction)

pub filters_match : (cs : List Condition) (today : Option ℕ) (r : Record) → matches today (filter_with cs) r ≡ hold cs r
filters_match cs None r = refl
filters_match cs (Some today) r = refl
