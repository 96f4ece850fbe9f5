-- The security severity of a result.
use Rattle.std.specs.Prelude.{Option, Some, None, option_and_then, codes}
use Rattle.std.specs.Option.{option_or}
use Rattle.serde_json.specs.Data.{Data, null, boolean, number, string, array, object}
use Rattle.serde_json.specs.Find.{get}
use Rattle.sarif_model.specs.Members.{member_at}
use Rattle.sarif_policy.specs.Decimal.{Number, decimal_of}
use Rattle.sarif_policy.specs.declared.rating.Rating.{Rating}
use Rattle.sarif_policy.specs.declared.rating.Rating.TheVariants as ratings

-- `security-severity` of the properties of a result or of a descriptor, if it is there and not null
abbrev pub severity_in : Data → Option Data
severity_in d = option_and_then (member_at (codes "security-severity")) (get (codes "properties") d)

abbrev pub rating_of_number : Option Number → Rating
rating_of_number (Some n) = ratings.Number n
rating_of_number None = ratings.Unknown

-- a decimal is a number; anything else is unknown
abbrev pub rating_of_value : Data → Rating
rating_of_value null = ratings.Unknown
rating_of_value (boolean b) = ratings.Unknown
rating_of_value (number n) = ratings.Unknown
rating_of_value (string s) = rating_of_number (decimal_of s)
rating_of_value (array ds) = ratings.Unknown
rating_of_value (object ms) = ratings.Unknown

abbrev pub rating_found : Option Data → Rating
rating_found None = ratings.Missing
rating_found (Some d) = rating_of_value d

-- the rating of a result: the security severity in its properties, otherwise that in its descriptor's properties
abbrev pub rating_of : Data → Option Data → Rating
rating_of result descriptor =
    rating_found (option_or (severity_in result) (option_and_then severity_in descriptor))
