-- A partly read message without its links.
use Rattle.std.specs.Prelude.{◌≡◌, ℕ, ◌-◌, true, List, [], Some, map, chars}
use Rattle.std.specs.Char.{is_ascii_digit}
use Rattle.serde_json.specs.Data.{Data}
use Rattle.serde_json.specs.View.{view}
use Rattle.sarif_findings.specs.declared.links.Part.TheVariants.{Outside}
use Rattle.sarif_findings.specs.declared.unlinked.Unlinked.{Unlinked}
use Rattle.sarif_findings.specs.Links.{unlinked_from}
use Rattle.sarif_findings.specs.Placeholders.{argument_at, filled_from}

-- the characters that are left
abbrev pub left : Unlinked → List ℕ
left reader = unlinked_from (map view reader.args.now) reader.part (chars reader.rest.now)

-- the digit of an argument that is the empty string
abbrev pub NamesEmpty : List Data → ℕ → Type 0
NamesEmpty args digit = (is_ascii_digit digit ≡ true) × (argument_at args (digit - 48) ≡ Some [])

-- the bytes of a placeholder of such an argument
abbrev pub IsEmptied : List Data → ℕ → ℕ → ℕ → Type 0
IsEmptied args first digit last = (first ≡ 123) × ((last ≡ 125) × NamesEmpty args digit)

-- what was passed from one text to the other is replaced by nothing, outside of links
abbrev pub PassesEmpties : List Data → List ℕ → List ℕ → Type 0
PassesEmpties args after text =
    (others : List Data) → filled_from args 0 (unlinked_from others Outside (chars after))
    ≡ filled_from args 0 (unlinked_from others Outside (chars text))
