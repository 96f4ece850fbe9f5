-- What a result says itself comes before what its rule says.
use Rattle.std.proofs.Common.{◌≡◌, Option, Some, None, refl, sym}
use Rattle.std.specs.Prelude.{option_and_then}
use Rattle.serde_json.specs.Data.{Data, null, boolean, number, string, array, object}
use Rattle.sarif_policy.specs.Decimal.{Number as AnyNumber, decimal_of}
use Rattle.std.specs.Option.{option_or}
use Rattle.sarif_policy.specs.Rating.{rating_found, rating_of, rating_of_number, rating_of_value, severity_in}
use Rattle.sarif_policy.specs.declared.rating.Rating.{Rating}
use Rattle.sarif_ratings.specs.Ratings.{own_or, own_rating, rule_rating}

number_said : (n : Option AnyNumber) (rule : Rating) → own_or (rating_of_number n) rule ≡ rating_of_number n
number_said None rule = refl
number_said (Some n) rule = refl

value_said : (d : Data) (rule : Rating) → own_or (rating_of_value d) rule ≡ rating_of_value d
value_said null rule = refl
value_said (boolean b) rule = refl
value_said (number n) rule = refl
value_said (string s) rule = number_said (decimal_of s) rule
value_said (array ds) rule = refl
value_said (object ms) rule = refl

alone : (o : Option Data) → rating_found (option_or o None) ≡ rating_found o
alone None = refl
alone (Some d) = refl

rule_said : (rule : Option Data) → rating_found (option_and_then severity_in rule) ≡ rule_rating rule
rule_said None = refl
rule_said (Some d) = sym (alone (severity_in d))

joined : (own : Option Data) (rule : Option Data)
    → own_or (rating_found (option_or own None)) (rule_rating rule)
    ≡ rating_found (option_or own (option_and_then severity_in rule))
joined None rule = sym (rule_said rule)
joined (Some d) rule = value_said d (rule_rating rule)

pub own_first : (result : Data) (rule : Option Data)
    → own_or (own_rating result) (rule_rating rule) ≡ rating_of result rule
own_first result rule = joined (severity_in result) rule
