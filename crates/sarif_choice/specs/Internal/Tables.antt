-- Strings as tables.
use Rattle.std.specs.Prelude.{◌≡◌, ℕ, List, bytes_eq}
use Rattle.std.specs.List.{list_any}
use Rattle.indexmap.specs.IndexSet.{IndexSet, contains}
use Rattle.sarif_findings.specs.declared.finding.Finding.{Finding}
use Rattle.sarif_choice.specs.Choice.{places_of, rules_of}
use Rattle.sarif_choice.specs.declared.names.Naming.{Naming}
use Rattle.sarif_choice.specs.declared.names.Naming.TheVariants as naming

-- the names of a hit of one kind
abbrev pub names_by : Naming → Finding → List (List ℕ)
names_by naming.Places hit = places_of hit
names_by naming.Rules hit = rules_of hit

-- the table has these strings, and no others
abbrev pub HasTexts : {S : Type 0} → IndexSet (List ℕ) S → List (List ℕ) → Type 0
HasTexts table texts =
    (text : List ℕ) → contains bytes_eq table text ≡ list_any (λ t. bytes_eq t text) texts
