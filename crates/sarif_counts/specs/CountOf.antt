-- How many results a finished log holds, read from the log itself.
use Rattle.std.specs.Prelude.{◌+◌, List, [], ◌∷◌, Bool, true, false, ◌&&◌, Option, Some, None, option_and_then, codes}
use Rattle.serde_json.specs.Data.{Data, null, boolean, number, string, array, object, Items, no_items, item}
use Rattle.serde_json.specs.Find.{get, as_str}
use Rattle.sarif_model.specs.declared.kinds.Level.{Level}
use Rattle.sarif_model.specs.declared.kinds.State.{State}
use Rattle.sarif_model.specs.declared.kinds.Status.{Status}
use Rattle.sarif_model.specs.declared.kinds.Status.TheVariants.{Accepted, UnderReview, Rejected}
use Rattle.sarif_model.specs.Level.{level_name}
use Rattle.sarif_model.specs.Run.{is_text}
use Rattle.sarif_model.specs.State.{state_name}
use Rattle.sarif_model.specs.Status.{status_named}
use Rattle.sarif_counts.specs.Hits.{Count, count_if}
use Rattle.sarif_counts.specs.Tally.{same_side}

-- the items of an array that may be there
abbrev pub items_in : Option Data → Items
items_in None = no_items
items_in (Some null) = no_items
items_in (Some (boolean b)) = no_items
items_in (Some (number n)) = no_items
items_in (Some (string s)) = no_items
items_in (Some (array ds)) = ds
items_in (Some (object ms)) = no_items

-- `results` of a run (SARIF 2.1.0, "run object")
abbrev pub results_in : Data → Items
results_in run = items_in (get (codes "results") run)

-- `suppressions` of a result (SARIF 2.1.0, "result object")
abbrev pub suppressions_in : Data → Items
suppressions_in result = items_in (get (codes "suppressions") result)

abbrev pub names_accepted : Option Status → Bool
names_accepted None = false
names_accepted (Some Accepted) = true
names_accepted (Some UnderReview) = false
names_accepted (Some Rejected) = false

-- whether a suppression's `status` is `accepted`, as it counts where it is absent
-- (SARIF 2.1.0, suppression object, "status property")
abbrev pub accepts : Option Data → Bool
accepts None = true
accepts (Some null) = true
accepts (Some (boolean b)) = false
accepts (Some (number n)) = false
accepts (Some (string s)) = names_accepted (status_named s)
accepts (Some (array ds)) = false
accepts (Some (object ms)) = false

abbrev pub all_accepted : Items → Bool
all_accepted no_items = true
all_accepted (item d ds) = accepts (get (codes "status") d) && all_accepted ds

-- whether a result with these suppressions is suppressed: there is one, and all are accepted
abbrev pub suppresses : Items → Bool
suppresses no_items = false
suppresses (item d ds) = all_accepted (item d ds)

-- whether a result carries this state and level, and is suppressed (true) or active (false)
abbrev pub carries : State → Level → Bool → Data → Bool
carries state level suppressed result =
    is_text (state_name state) (option_and_then as_str (get (codes "baselineState") result))
    && (is_text (level_name level) (option_and_then as_str (get (codes "level") result))
    && same_side suppressed (suppresses (suppressions_in result)))

-- how many of these results do
abbrev pub count_in : Items → Count
count_in no_items state level suppressed = 0
count_in (item result results) state level suppressed =
    count_if (carries state level suppressed result) 1 + count_in results state level suppressed

-- how many results of these runs do
abbrev pub count_of : List Data → Count
count_of [] state level suppressed = 0
count_of (run ∷ runs) state level suppressed =
    count_in (results_in run) state level suppressed + count_of runs state level suppressed
