-- The JSON of an object around one of its members. The JSON of some members is given.
use Rattle.std.specs.Prelude.{ℕ, List, [], ◌∷◌, ◌++◌, unwrap_or}
use Rattle.std.specs.Ordering.{nat_cmp, match_ordering}
use Rattle.std.specs.Cmp.Lexicographic.{slice_cmp}
use Rattle.json.specs.Find.{as_object}
use Rattle.json.specs.Json.{Json, Members, no_members, member}
use Rattle.serde_json.specs.Data as values
use Rattle.serde_json.specs.Data.{Data}
use Rattle.json_parts.specs.Internal.Around.{Surrounding, name_text}
use Rattle.json_texts.specs.Whole.{text_of}
use Rattle.json_texts.specs.declared.around.SetMember.{SetMember}

-- names in order, each with the text of its value
abbrev pub Named : Type 0
Named = List (List ℕ × List ℕ)

-- the members of an object; a value that is not an object has none
abbrev pub members_of : Json → Members
members_of j = unwrap_or (as_object j) no_members

abbrev pub named : Members → Named
named no_members = []
named (member k j ms) = (k, text_of j) ∷ named ms

-- with the text t at k
abbrev pub put_text : List ℕ → List ℕ → Named → Named
put_text k t [] = (k, t) ∷ []
put_text k t (m ∷ ms) =
    match_ordering (slice_cmp nat_cmp k m.0) ((k, t) ∷ m ∷ ms) ((m.0, t) ∷ ms) (m ∷ put_text k t ms)

-- the members are set in turn
abbrev pub set_texts : List SetMember → Named → Named
set_texts [] ms = ms
set_texts (s ∷ set) ms = set_texts set (put_text s.name.now s.text.now ms)

-- members with these values at the names of `set`
abbrev pub set_values : List SetMember → List Data → values.Members → values.Members
set_values [] ds ms = ms
set_values (s ∷ set) [] ms = ms
set_values (s ∷ set) (d ∷ ds) ms = set_values set ds (values.put s.name.now d ms)

-- the members with names below this one, each followed by a comma
abbrev pub texts_before : List ℕ → Named → List ℕ
texts_before name [] = []
texts_before name (m ∷ ms) =
    match_ordering (slice_cmp nat_cmp name m.0) [] [] (name_text m.0 ++ (m.1 ++ (44 ∷ texts_before name ms)))

-- the members with names above this one
abbrev pub after : List ℕ → Named → Named
after name [] = []
after name (m ∷ ms) = match_ordering (slice_cmp nat_cmp name m.0) (m ∷ ms) ms (after name ms)

-- members after another one, with the closing bracket
abbrev pub texts_later : Named → List ℕ
texts_later [] = 125 ∷ []
texts_later (m ∷ ms) = 44 ∷ (name_text m.0 ++ (m.1 ++ texts_later ms))

-- the text of an object before the value of that member, and after it
abbrev pub around : List ℕ → Named → Surrounding
around name ms = record {
  before = 123 ∷ (texts_before name ms ++ name_text name);
  after = texts_later (after name ms);
}
