-- The sentences and the headings of a page.
use Rattle.std.specs.Prelude.{ℕ, List, [], ◌∷◌, ◌++◌, ◌==◌, Option, Some, None, codes, if◌then◌else◌}
use Rattle.std.specs.Fmt.{decimal}
use Rattle.sarif_model.specs.declared.kinds.Level.{Level}
use Rattle.sarif_model.specs.declared.kinds.Level.TheVariants.{NoLevel, Note, Warning, Error}
use Rattle.sarif_model.specs.declared.kinds.State.{State}
use Rattle.sarif_model.specs.declared.kinds.State.TheVariants.{New, Unchanged, Updated, Absent}
use Rattle.sarif_model.specs.State.{state_name}
use Rattle.sarif_options.specs.declared.policy.Policy.{Policy}
use Rattle.sarif_options.specs.declared.policy.States.{States}
use Rattle.sarif_conditions.specs.declared.facts.PolicyFacts.{PolicyFacts}
use Rattle.sarif_options.specs.Policy.{is_listed}
use Rattle.sarif_change.specs.declared.spots.Scope.{Scope}
use Rattle.sarif_change.specs.declared.spots.Scope.TheVariants.{Lines, Files}
use Rattle.sarif_scope.specs.declared.facts.ChangeFacts.{ChangeFacts}
use Rattle.sarif_shown.specs.declared.stopping.Stopping.{Stopping}
use Rattle.sarif_shown.specs.declared.stopping.Stopping.TheVariants.{EachHit, NoHit, MarkedHit}
use Rattle.sarif_shown.specs.Sentences.{counted, hits_text}

-- ---- what a hit is

abbrev pub listed_if : States → State → List State
listed_if states state = if is_listed states state then state ∷ [] else []

-- the states that count
abbrev pub listed_states : States → List State
listed_states states =
    listed_if states New ++ (listed_if states Unchanged
    ++ (listed_if states Updated ++ listed_if states Absent))

-- what is between a state and the states after it
abbrev pub joint : List State → List ℕ
joint [] = []
joint (state ∷ []) = codes " or "
joint (state ∷ (next ∷ states)) = codes ", "

-- as `new, updated or absent`
abbrev pub joined : List State → List ℕ
joined [] = []
joined (state ∷ states) = state_name state ++ (joint states ++ joined states)

-- the levels that count, from this one on
abbrev pub levels_from : Level → List ℕ
levels_from NoLevel = codes "any level"
levels_from Note = codes "level note, warning or error"
levels_from Warning = codes "level warning or error"
levels_from Error = codes "level error"

abbrev pub in_scope : Scope → List ℕ
in_scope Lines = codes ", on a line of the change"
in_scope Files = codes ", in a file of the change"

-- the places in which the gate looks for hits, if it checks only a change
abbrev pub in_change : Option ChangeFacts → List ℕ
in_change None = []
in_change (Some facts) = in_scope facts.scope

abbrev pub hit_is : List State → Level → Option ChangeFacts → List ℕ
hit_is [] least change = codes "No state counts, so no result is a hit."
hit_is (state ∷ states) least change =
    codes "A hit is a result that is " ++ (joined (state ∷ states)
    ++ (codes ", of " ++ (levels_from least ++ (in_change change ++ codes ", and not suppressed."))))

-- what a hit is under this policy, and with a change if there is one
unfoldable pub reason : Policy → Option ChangeFacts → List ℕ
reason policy change = hit_is (listed_states policy.states) policy.fail_on change

-- the reason with a policy, if there is one
abbrev pub reason_by : Option PolicyFacts → Policy → Option ChangeFacts → List ℕ
reason_by None policy change = reason policy change
reason_by (Some ruling) policy change =
    codes "A hit is a result that meets a condition of the policy and is not suppressed."

-- ---- the headings of the tables

-- all hits stop the change
abbrev pub all_stop : ℕ → List ℕ
all_stop hits = counted hits (codes " hit stops this change") (codes " hits stop this change")

-- some of the hits do
abbrev pub some_stop : ℕ → ℕ → List ℕ
some_stop marked hits =
    hits_text hits ++ (codes ", "
    ++ counted marked (codes " of them stops this change") (codes " of them stop this change"))

-- the heading of the hits of a policy: their number, and how many of them stop the change
abbrev pub marked_heading : ℕ → ℕ → List ℕ
marked_heading marked hits =
    if marked == 0 then hits_text hits ++ codes ", within the limits"
    else (if marked == hits then all_stop hits else some_stop marked hits)

-- the hits, and whether they stop the change
abbrev pub hits_heading : Stopping → ℕ → ℕ → ℕ → List ℕ
hits_heading EachHit marked hits max = all_stop hits
hits_heading NoHit marked hits max =
    hits_text hits ++ (codes ", within the " ++ (decimal max ++ codes " allowed"))
hits_heading MarkedHit marked hits max = marked_heading marked hits

abbrev pub others_text : ℕ → List ℕ
others_text others = counted others (codes " other result") (codes " other results")
