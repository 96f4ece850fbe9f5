-- The tables of results, as the contracts of their functions see them.
use Rattle.std.specs.Prelude.{◌≡◌, ℕ, Bool, true, List}
use Rattle.std.specs.HashMap.{get, HashMap}
use Rattle.std.specs.List.{list_any}
use Rattle.indexmap.specs.IndexSet.{contains, IndexSet}
use Rattle.sarif_model.specs.declared.record.Record.{Record}
use Rattle.sarif_copies.specs.Copies.{are_alike, first_alike, has_line, unadmitted}
use Rattle.sarif_copies.specs.declared.whole_record.WholeRecord.{WholeRecord}
use Rattle.sarif_copies.specs.contracts.whole_record.WholeRecordPartialEq.TheImpl as derived

-- the record that a key borrows from
abbrev pub fields_of : WholeRecord → Record
fields_of key = record {
  tool = key.tool.now;
  rule_id = key.rule_id.now;
  kind = key.kind;
  level = key.level;
  message = key.message.now;
  place = key.place.now;
  guid = key.guid;
  full = key.full.now;
  partial = key.partial.now;
  held = key.held.now;
  region = key.region;
  snippet = key.snippet.now;
  admitted = key.admitted.now;
}

-- the record with these numbers of entries that admit it
abbrev pub with_numbers : Record → List ℕ → Record
with_numbers r numbers = record r { admitted = numbers }

-- whether two keys are equal, field by field
abbrev pub same_whole : WholeRecord → WholeRecord → Bool
same_whole = derived.ghosts.eq

-- the table has the number of the first of these results that is alike to any with a URI and a region
abbrev pub IsTableOf : {S : Type 0} → List Record → HashMap WholeRecord ℕ S → Type 0
IsTableOf before table =
    (key : WholeRecord) → has_line (fields_of key) ≡ true
    → get same_whole table key ≡ first_alike (fields_of key) 0 before

-- the table has those of these results that have a URI and a region, regardless of the entries of a suppression file that
-- admit them
abbrev pub HasThese : {S : Type 0} → List Record → IndexSet WholeRecord S → Type 0
HasThese rs table =
    (key : WholeRecord) → has_line (fields_of key) ≡ true
    → contains same_whole table key ≡ list_any (λ q. are_alike (unadmitted q) (fields_of key)) rs
