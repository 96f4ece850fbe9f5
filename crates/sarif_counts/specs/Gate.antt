-- The object that a merged log carries as `properties.gate`: this project's own format.
use Rattle.std.specs.Prelude.{ℕ, List, [], ◌∷◌, ◌++◌, Bool, true, false, codes, if◌then◌else◌}
use Rattle.serde_json.specs.Data.{Data, number, unsigned, string, array, object, no_items, item, no_members, member}
use Rattle.serde_json.specs.View.{items_of}
use Rattle.sarif_model.specs.declared.kinds.Level.{Level}
use Rattle.sarif_model.specs.declared.kinds.Level.TheVariants.{NoLevel, Note, Warning, Error}
use Rattle.sarif_model.specs.declared.kinds.State.{State}
use Rattle.sarif_model.specs.declared.kinds.State.TheVariants.{New, Unchanged, Updated, Absent}
use Rattle.sarif_model.specs.Level.{level_name}
use Rattle.sarif_model.specs.State.{state_name}
use Rattle.sarif_options.specs.declared.policy.States.{States}
use Rattle.sarif_options.specs.declared.policy.Policy.{Policy}
use Rattle.sarif_options.specs.Policy.{is_listed}
use Rattle.sarif_counts.specs.Hits.{Count, hits_of, verdict_of, verdict_name}

abbrev pub whole_number : ℕ → Data
whole_number n = number (unsigned n)

-- four numbers by falling level
abbrev pub levels_data : (Level → ℕ) → Data
levels_data numbers = array
    (item (whole_number (numbers Error))
    (item (whole_number (numbers Warning))
    (item (whole_number (numbers Note))
    (item (whole_number (numbers NoLevel)) no_items))))

-- the results of one state
abbrev pub state_data : (Level → Bool → ℕ) → Data
state_data numbers = object
    (member (codes "active") (levels_data (λ level. numbers level false))
    (member (codes "suppressed") (levels_data (λ level. numbers level true)) no_members))

abbrev pub counts_data : Count → Data
counts_data count = object
    (member (codes "absent") (state_data (count Absent))
    (member (codes "new") (state_data (count New))
    (member (codes "unchanged") (state_data (count Unchanged))
    (member (codes "updated") (state_data (count Updated)) no_members))))

-- the text of a state, where the policy lists it
abbrev pub if_listed : States → State → List Data
if_listed states state = if is_listed states state then string (state_name state) ∷ [] else []

abbrev pub listed_names : States → List Data
listed_names states =
    if_listed states Absent ++ if_listed states New
    ++ if_listed states Unchanged ++ if_listed states Updated

-- the gate for these counts, this policy, and these numbers of runs without results and of unused suppressions
abbrev pub gate_of : Count → Policy → ℕ → ℕ → Data
gate_of count policy without unused = object
    (member (codes "counts") (counts_data count)
    (member (codes "failOn") (string (level_name policy.fail_on))
    (member (codes "hits") (whole_number (hits_of count policy))
    (member (codes "max") (whole_number policy.max)
    (member (codes "runsWithoutResults") (whole_number without)
    (member (codes "states") (array (items_of (listed_names policy.states)))
    (member (codes "unusedSuppressions") (whole_number unused)
    (member (codes "verdict") (string (verdict_name (verdict_of count policy))) no_members))))))))
