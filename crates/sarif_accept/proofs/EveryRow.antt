-- A fact about each value that an entry may have, which putting a member keeps, is a fact about the entry that accepts a
-- result.
use Rattle.std.proofs.Common.{ℕ, List, [], ◌∷◌, map, Option, Some, None, option_map}
use Rattle.std.specs.List.{AllByRecursion}
use Rattle.serde_json.specs.Data.{Data, number, unsigned, string, array, object, Members, no_members, put}
use Rattle.serde_json.specs.View.{items_of}
use Rattle.json_parts.proofs.Keeping.{If}
use Rattle.sarif_entries.specs.declared.condition.Condition.{Condition}
use Rattle.sarif_entries.specs.declared.condition.ConditionKind.{ConditionKind}
use Rattle.sarif_entries.specs.Condition.{all_kinds}
use Rattle.sarif_model.specs.Written.{Row, with_value}
use Rattle.sarif_accept.specs.Entry.{members_from, texts_into, texts_put, value_of, rows_of, entry_rows}
use Rattle.sarif_accept.proofs.EachCondition.{value_has}

-- a fact about members that putting a member keeps, if its value has the other fact
pub record IsKept (P : Data → Type 0) (Q : Members → Type 0) : Type 0 where
  pub none : Q no_members
  pub more : (k : List ℕ) (d : Data) (ms : Members) → P d → Q ms → Q (put k d ms)

-- a fact about each value that an entry with this expiry date may have
pub record IsOfEach (P : Data → Type 0) (until : Option ℕ) : Type 0 where
  pub date : If (λ n. P (number (unsigned n))) until
  pub text : (s : List ℕ) → P (string s)
  pub pairs : (ps : List (List ℕ × List ℕ)) → P (object (texts_put ps))
  pub list : (texts : List (List ℕ)) → P (array (items_of (map string texts)))

module _ {P : Data → Type 0} {Q : Members → Type 0} (kept : IsKept P Q) where
  texts_into_keep : ((s : List ℕ) → P (string s)) → (ms : Members) (ps : List (List ℕ × List ℕ)) → Q ms → Q (texts_into ms ps)
  texts_into_keep text ms [] h = h
  texts_into_keep text ms (p ∷ ps) h = texts_into_keep text (put p.0 (string p.1) ms) ps (kept.more p.0 (string p.1) ms (text p.1) h)

  -- the members of a map of strings
  pub texts_keep : ((s : List ℕ) → P (string s)) → (ps : List (List ℕ × List ℕ)) → Q (texts_put ps)
  texts_keep text ps = texts_into_keep text no_members ps kept.none

  value_keeps : (name : List ℕ) (o : Option Data) (ms : Members) → If P o → Q ms → Q (with_value name o ms)
  value_keeps name None ms one rest = rest
  value_keeps name (Some d) ms one rest = kept.more name d ms one rest

  rows_keep : (rows : List Row) → AllByRecursion (λ row. If P row.1) rows → Q (members_from rows)
  rows_keep [] all = kept.none
  rows_keep (row ∷ rows) all = value_keeps row.0 row.1 (members_from rows) all.0 (rows_keep rows all.1)

module _ {P : Data → Type 0} {until : Option ℕ} (each : IsOfEach P until) where
  date_in : (o : Option ℕ) → If (λ n. P (number (unsigned n))) o → If P (option_map (λ n. number (unsigned n)) o)
  date_in None h = tt
  date_in (Some n) h = h

  text_in : (o : Option (List ℕ)) → If P (option_map string o)
  text_in None = tt
  text_in (Some text) = each.text text

  condition_in : (o : Option Condition) → If P (option_map value_of o)
  condition_in None = tt
  condition_in (Some c) = value_has {P = P} (record { text = each.text; pairs = each.pairs; list = each.list }) c

  also : {A B : Type 0} → A → B → A × B
  also a b = (a, b)

  conditions_have : (f : ConditionKind → Option Condition) (kinds : List ConditionKind) → AllByRecursion (λ row. If P row.1) (rows_of f kinds)
  conditions_have f [] = tt
  conditions_have f (kind ∷ kinds) = also (condition_in (f kind)) (conditions_have f kinds)

  rows_have : (f : ConditionKind → Option Condition) (reason : Option (List ℕ)) → AllByRecursion (λ row. If P row.1) (entry_rows f reason until)
  rows_have f reason = also (date_in until each.date) (also (text_in reason) (conditions_have f all_kinds))

pub entry_keeps : {P : Data → Type 0} {Q : Members → Type 0} → IsKept P Q → (until : Option ℕ) → IsOfEach P until
    → (f : ConditionKind → Option Condition) (reason : Option (List ℕ)) → Q (members_from (entry_rows f reason until))
entry_keeps kept until each f reason = rows_keep kept (entry_rows f reason until) (rows_have each f reason)
