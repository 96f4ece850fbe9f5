-- The security severity of the results of runs (SARIF 2.1.0, "property bags").
use Rattle.std.specs.Prelude.{List, Option, Some, None}
use Rattle.serde_json.specs.Data.{Data}
use Rattle.sarif_findings.specs.Lookup.{descriptor_of}
use Rattle.sarif_model.specs.Run.{result_at}
use Rattle.sarif_policy.specs.Rating.{rating_of}
use Rattle.sarif_policy.specs.declared.rating.Rating.{Rating}
use Rattle.sarif_policy.specs.declared.rating.Rating.TheVariants.{Missing, Number, Unknown}
use Rattle.sarif_runs.specs.Internal.Spots.{placed_at}
use Rattle.sarif_runs.specs.Placed.{Placed}
use Rattle.sarif_runs.specs.declared.spots.Spot.{Spot}

-- the rating of a result of this run: its own, otherwise that of its descriptor
abbrev pub rating_in : Data → Data → Rating
rating_in run result = rating_of result (descriptor_of run result)

-- the rating of the result at this place
abbrev pub rating_at : List Placed → Spot → Rating
rating_at runs spot =
    let run = (placed_at runs spot.run).run in rating_in run (result_at run spot.seq)

-- what a result or a rule says by itself
abbrev pub own_rating : Data → Rating
own_rating d = rating_of d None

abbrev pub own_rating_at : List Placed → Spot → Rating
own_rating_at runs spot = own_rating (result_at (placed_at runs spot.run).run spot.seq)

-- what a rule says, if there is one
abbrev pub rule_rating : Option Data → Rating
rule_rating None = Missing
rule_rating (Some rule) = own_rating rule

-- the first that isn't missing
abbrev pub own_or : Rating → Rating → Rating
own_or Missing rule = rule
own_or (Number n) rule = Number n
own_or Unknown rule = Unknown
