-- The states of a list: their names, joined by commas, each once and in any order.
use Rattle.std.specs.Prelude.{ℕ, List, [], ◌∷◌, Option, Some, None, false, true, option_and_then, ◌==◌, if◌then◌else◌}
use Rattle.std.specs.List.{slice_split}
use Rattle.sarif_model.specs.declared.kinds.State.{State}
use Rattle.sarif_model.specs.declared.kinds.State.TheVariants.{New, Unchanged, Updated, Absent}
use Rattle.sarif_model.specs.State.{state_named}
use Rattle.sarif_options.specs.declared.policy.States.{States}
use Rattle.sarif_options.specs.Policy.{is_listed}

abbrev pub no_states : States
no_states = record { absent = false; fresh = false; unchanged = false; updated = false }

-- these states and one more
abbrev pub with_state : States → State → States
with_state states New = record states { fresh = true }
with_state states Unchanged = record states { unchanged = true }
with_state states Updated = record states { updated = true }
with_state states Absent = record states { absent = true }

-- the parts of a list: what is before, between and after its commas
abbrev pub parts_of : List ℕ → List (List ℕ)
parts_of text = slice_split (λ byte. byte == 44) text

-- these states and those of the names, if each name is that of a state that is not among them yet
abbrev pub with_named : States → List (List ℕ) → Option States
with_named states [] = Some states
with_named states (name ∷ names) = option_and_then
    (λ state. if is_listed states state then None else with_named (with_state states state) names)
    (state_named name)

-- the states of a list; none if a part is not the name of a state, or is there twice
abbrev pub states_listed : List ℕ → Option States
states_listed text = with_named no_states (parts_of text)
