-- The rules of a tool component by their ids.
use Rattle.std.specs.Prelude.{ℕ, ◌+◌, List, [], ◌∷◌, Option, Some, None, if◌then◌else◌}
use Rattle.std.specs.BTreeMap as tree
use Rattle.std.specs.Borrow.{Bor}
use Rattle.std.specs.Ordering.{nat_cmp}
use Rattle.std.specs.Cmp.Lexicographic.{slice_cmp}
use Rattle.serde_json.specs.Data.{Data}
use Rattle.sarif_findings.specs.Lookup.{has_id}

-- the number that a table has at an id
abbrev pub number_at : tree.BTreeMap (Bor (List ℕ)) ℕ → List ℕ → Option ℕ
number_at table id = tree.get_by (λ key. slice_cmp nat_cmp id key.now) table

-- the number of the first rule with that id; the first of these rules has number n
abbrev pub first_number : List ℕ → ℕ → List Data → Option ℕ
first_number id n [] = None
first_number id n (rule ∷ rules) =
    if has_id id rule then Some n else first_number id (n + 1) rules
