-- The marks of the results that are written, run by run.
use Rattle.std.specs.Prelude.{◌≡◌, ⊤, Bool, true, false, List, [], ◌∷◌, ◌++◌, take, drop, length, Option, Some, None, option_map}
use Rattle.sarif_model.specs.declared.kinds.State.{State}
use Rattle.sarif_log.specs.Copies.{if_any, places_from}
use Rattle.sarif_log.specs.declared.copies.CopyPlace.{CopyPlace}
use Rattle.sarif_log.specs.declared.merged_text.Side.{Side}
use Rattle.sarif_log.specs.declared.prepared.CopyFlags.{CopyFlags}
use Rattle.sarif_log.specs.declared.run_parts.RunParts.{RunParts}
use Rattle.sarif_log.specs.Internal.Texts.{count_in_parts}

-- the marks of the results of each run
abbrev pub marks_of_parts : List RunParts → List Bool → List (List Bool)
marks_of_parts [] marks = []
marks_of_parts (parts ∷ more) marks =
    let n = count_in_parts parts in
    take n marks ∷ marks_of_parts more (drop n marks)

-- the marks of the results of each run that has a result
abbrev pub marks_of_left : List RunParts → List Bool → List (List Bool)
marks_of_left [] marks = []
marks_of_left (parts ∷ more) marks =
    let n = count_in_parts parts in
    if_any (take n marks) (marks_of_left more (drop n marks))

-- ---- counting

-- the state of a result, where it isn't marked
abbrev pub mask : Bool → Option State → Option State
mask true state = None
mask false state = state

abbrev pub masked : List Bool → List (Option State) → List (Option State)
masked [] states = []
masked (m ∷ marks) [] = []
masked (m ∷ marks) (state ∷ states) = mask m state ∷ masked marks states

-- ---- both sides

-- there is a mark for each result of the sides, if copies aren't counted
abbrev pub AreFlagsIf : Option CopyFlags → Side → Side → Type 0
AreFlagsIf None current baseline = ⊤
AreFlagsIf (Some flags) current baseline =
    (length flags.current.items ≡ length current.drafts.items)
    × (length flags.baseline.items ≡ length baseline.drafts.items)

-- the states of the results that are counted
abbrev pub counted_if : Option (List Bool) → List (Option State) → List (Option State)
counted_if None states = states
counted_if (Some marks) states = masked marks states

abbrev pub current_marks : Option CopyFlags → Option (List Bool)
current_marks copies = option_map (λ flags. flags.current.items) copies

abbrev pub baseline_marks : Option CopyFlags → Option (List Bool)
baseline_marks copies = option_map (λ flags. flags.baseline.items) copies

-- the places of the copies in the merged log, if copies aren't counted
abbrev pub places_by : Option CopyFlags → Side → Side → Option (List CopyPlace)
places_by None current baseline = None
places_by (Some flags) current baseline = Some
    (places_from 0 (marks_of_parts current.runs.items flags.current.items)
    ++ places_from (length current.runs.items)
    (marks_of_left baseline.runs.items flags.baseline.items))
