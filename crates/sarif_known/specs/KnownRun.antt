-- A run of the known log: the tool's name, and results written from their records (SARIF 2.1.0, "run object").
use Rattle.std.specs.Prelude.{ℕ, ◌+◌, List, [], ◌∷◌, map, Option, Some, None, option_map, codes}
use Rattle.serde_json.specs.Data.{Data, string, array, object, no_members, member}
use Rattle.serde_json.specs.View.{items_of}
use Rattle.sarif_model.specs.declared.record.Record.{Record}
use Rattle.sarif_known.specs.Chosen.{Chosen}
use Rattle.sarif_model.specs.Written.{Row, list_if_any}
use Rattle.sarif_known.specs.KnownResult.{known_result, object_from}

-- the base of a place without a URI, which only an artifact can describe
abbrev pub base_without : Option (List ℕ) → Option (List ℕ) → Option (List ℕ)
base_without None base = base
base_without (Some uri) base = None

abbrev pub base_alone : Record → Option (List ℕ)
base_alone r = base_without r.place.uri r.place.base

-- the next number, where one is used
abbrev pub next_number : ℕ → Option (List ℕ) → ℕ
next_number n None = n
next_number n (Some base) = n + 1

-- the results of these records in order; those with a base alone are numbered from n
abbrev pub results_from : ℕ → List Record → List Data
results_from n [] = []
results_from n (r ∷ rs) =
    known_result r (option_map (λ _. n) (base_alone r))
    ∷ results_from (next_number n (base_alone r)) rs

abbrev pub with_some : {A : Type 0} → Option A → List A → List A
with_some None xs = xs
with_some (Some x) xs = x ∷ xs

-- the bases without a URI, in the order of the results
abbrev pub bases_alone : List Record → List (List ℕ)
bases_alone [] = []
bases_alone (r ∷ rs) = with_some (base_alone r) (bases_alone rs)

abbrev pub artifact_at : List ℕ → Data
artifact_at base =
    object (member (codes "location")
    (object (member (codes "uriBaseId") (string base) no_members)) no_members)

abbrev pub tool_named : List ℕ → Data
tool_named name =
    object (member (codes "driver")
    (object (member (codes "name") (string name) no_members)) no_members)

abbrev pub run_rows : Chosen → List Row
run_rows run =
    (codes "artifacts", list_if_any (map artifact_at (bases_alone run.records)))
    ∷ (codes "results", Some (array (items_of (results_from 0 run.records))))
    ∷ (codes "tool", Some (tool_named run.tool))
    ∷ []

abbrev pub known_run : Chosen → Data
known_run run = object_from (run_rows run)
