-- The rules of a run's tool components.
use Rattle.std.specs.Prelude.{ℕ, List, [], Option, Some, None, codes, option_map}
use Rattle.std.specs.BTreeMap as tree
use Rattle.std.specs.Borrow.{Bor}
use Rattle.std.specs.Ordering.{nat_cmp}
use Rattle.std.specs.Cmp.Lexicographic.{slice_cmp}
use Rattle.serde_json.specs.Data.{Data}
use Rattle.serde_json.specs.View.{view}
use Rattle.serde_json.specs.declared.value.Value.{Value}
use Rattle.sarif_findings.specs.Lookup.{elements_in}

-- the rule that a table has at an id
abbrev pub rule_at : tree.BTreeMap (Bor (List ℕ)) (Bor Value) → List ℕ → Option Data
rule_at table id =
    option_map (λ rule. view rule.now) (tree.get_by (λ key. slice_cmp nat_cmp id key.now) table)

-- the rules of a component
abbrev pub rules_in : Data → List Data
rules_in component = elements_in (codes "rules") component

-- the rules of a component; no rules if there is no such component
abbrev pub rules_of : Option Data → List Data
rules_of None = []
rules_of (Some component) = rules_in component

-- the extensions of a tool
abbrev pub extensions_of : Option Data → List Data
extensions_of None = []
extensions_of (Some tool) = elements_in (codes "extensions") tool
