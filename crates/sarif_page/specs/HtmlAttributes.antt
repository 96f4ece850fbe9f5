-- The attributes of rows: those that a reader of the page finds, and those that are stated for their results.
use Rattle.std.specs.Prelude.{ℕ, ◌||◌, ◌==◌, List, [], ◌∷◌, ◌++◌, Option, Some, None, codes, if◌then◌else◌}
use Rattle.sarif_model.specs.Level.{level_name}
use Rattle.sarif_model.specs.State.{state_name}
use Rattle.sarif_counts.specs.Impacts.{is_hit}
use Rattle.sarif_findings.specs.declared.finding.Finding.{Finding}
use Rattle.sarif_shown.specs.declared.escaping.Escaping.TheVariants.{Page}
use Rattle.sarif_shown.specs.Escaped.{escaped}
use Rattle.sarif_shown.specs.Linked.{place_link}
use Rattle.sarif_page.specs.HtmlRow.{hit_word}

-- ---- a reader

-- an attribute: its name with the `=`, and its value
abbrev pub Attribute : Type 0
Attribute = List ℕ × List ℕ

-- what follows the last space or `<`, one byte later
abbrev pub word_after : List ℕ → ℕ → List ℕ
word_after word b = if b == 32 || b == 60 then [] else word ++ b ∷ []

-- the attributes in a string: a quote begins the value of the word before it, and the next quote ends it. The string is
-- read after this word, and within this part of a value, if there is one
abbrev pub attributes_from : List ℕ → Option (List ℕ) → List ℕ → List Attribute
attributes_from word value [] = []
attributes_from word None (b ∷ bs) =
    if b == 34 then attributes_from word (Some []) bs else attributes_from (word_after word b) None bs
attributes_from word (Some value) (b ∷ bs) =
    if b == 34 then (word, value) ∷ attributes_from [] None bs
    else attributes_from word (Some (value ++ b ∷ [])) bs

abbrev pub attributes_in : List ℕ → List Attribute
attributes_in text = attributes_from [] None text

-- ---- the attributes of a row

abbrev pub data_attributes : Finding → List Attribute
data_attributes f =
    (codes "data-level=", level_name f.level) ∷ (codes "data-state=", state_name f.state)
    ∷ (codes "data-hit=", hit_word (is_hit f.impact)) ∷ []

abbrev pub title_attributes : Option (List ℕ) → List Attribute
title_attributes None = []
title_attributes (Some name) = (codes "title=", escaped Page name) ∷ []

-- the attributes of a link to this address, if there is one
abbrev pub link_attributes : Option (List ℕ) → Option (List ℕ) → List Attribute
link_attributes None name = []
link_attributes (Some address) name =
    (codes "href=", escaped Page address)
    ∷ (title_attributes name ++ (codes "rel=", codes "noopener noreferrer") ∷ [])

-- the attributes of a place without its link
abbrev pub path_attributes : Option (List ℕ) → Option ℕ → List Attribute
path_attributes None line = []
path_attributes (Some path) None = (codes "class=", codes "all") ∷ []
path_attributes (Some path) (Some line) = []

-- no link without a rule
abbrev pub rule_attributes : List ℕ → Option (List ℕ) → Option (List ℕ) → List Attribute
rule_attributes [] help name = []
rule_attributes (b ∷ bs) help name = link_attributes help name

abbrev pub row_attributes : Option (List ℕ) → Finding → List Attribute
row_attributes link f =
    data_attributes f ++ (link_attributes (place_link link f) None
    ++ (path_attributes f.path f.line ++ rule_attributes f.rule f.help f.rule_name))
