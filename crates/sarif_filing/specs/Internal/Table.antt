-- The tables of the numbers of entries, by the condition under which they are filed.
use Rattle.std.specs.Prelude.{◌≡◌, ℕ, List, [], ◌++◌, nat_eq, bytes_eq}
use Rattle.std.specs.Cmp.Lexicographic.{pointwise}
use Rattle.std.specs.List.{flat_map}
use Rattle.std.specs.Option.{option_map_or}
use Rattle.sarif_model.specs.declared.record.Record.{Record}
use Rattle.sarif_entries.specs.declared.entry.Entry.{Entry}
use Rattle.sarif_entries.specs.declared.filing.PairCondition.TheVariants.{Full, Partial}
use Rattle.sarif_entries.specs.declared.filing.TextCondition.TheVariants.{Uri, RuleId, Tool}
use Rattle.sarif_filing.specs.declared.table.PairTables.{PairTables}
use Rattle.sarif_filing.specs.declared.table.Table.{Table}
use Rattle.sarif_filing.specs.declared.table.TextTables.{TextTables}
use Rattle.sarif_entries.specs.Internal.Filing.{asks_for_guid, asks_for_snippet, asks_for_pair, asks_for_message, asks_for_text, asks_for_none, asks_for_number, message_keys, keys_beside}
use Rattle.sarif_entries.specs.Condition.{is_pair}
use Rattle.sarif_evidence.specs.Seen.{packed}
use Rattle.sarif_filing.specs.Numbers.{numbers_from, numbers_at}
use Rattle.sarif_filing.specs.Internal.Snippets.{numbers_within}

-- each table has exactly the entries that are filed under a pair of strings of its kind
pub record ArePairTables {S H : Type 0} (entries : List Entry) (tables : PairTables S H)
    : Type 0 where
  pub full : (pair : List ℕ × List ℕ)
      → numbers_at is_pair tables.full pair ≡ numbers_from (asks_for_pair Full pair) 0 entries
  pub partial : (pair : List ℕ × List ℕ)
      → numbers_at is_pair tables.partial pair
      ≡ numbers_from (asks_for_pair Partial pair) 0 entries

-- each table has exactly the entries that are filed under a string of its kind, or under a key of a message
pub record AreTextTables {S H : Type 0} (entries : List Entry) (tables : TextTables S H)
    : Type 0 where
  pub messages : (key : List (List ℕ))
      → numbers_at (pointwise bytes_eq) tables.messages key
      ≡ numbers_from (asks_for_message key) 0 entries
  pub uris : (uri : List ℕ)
      → numbers_at bytes_eq tables.uris uri ≡ numbers_from (asks_for_text Uri uri) 0 entries
  pub rules : (rule : List ℕ)
      → numbers_at bytes_eq tables.rules rule ≡ numbers_from (asks_for_text RuleId rule) 0 entries
  pub tools : (tool : List ℕ)
      → numbers_at bytes_eq tables.tools tool ≡ numbers_from (asks_for_text Tool tool) 0 entries

-- each table has exactly the entries that are filed in it
pub record IsTable {S H : Type 0} (entries : List Entry) (table : Table S H) : Type 0 where
  pub guids : (guid : ℕ)
      → numbers_at nat_eq table.guids guid ≡ numbers_from (asks_for_guid guid) 0 entries
  pub snippets : (snippet : List ℕ) (key : List (List ℕ))
      → numbers_within table.snippets snippet key
      ≡ numbers_from (asks_for_snippet snippet key) 0 entries
  pub pairs : ArePairTables entries table.pairs
  pub texts : AreTextTables entries table.texts
  pub limited : (number : ℕ)
      → numbers_at nat_eq table.limited number ≡ numbers_from (asks_for_number number) 0 entries
  pub rest : table.others.items ≡ numbers_from asks_for_none 0 entries

-- the numbers of the entries that are filed under that snippet and one of these keys
abbrev pub under_snippet : List Entry → List ℕ → List (List (List ℕ)) → List ℕ
under_snippet es snippet keys =
    flat_map (λ key. numbers_from (asks_for_snippet snippet key) 0 es) keys

-- the numbers of the entries that are filed under values of a result, except prefixes, of those that are compared with
-- each result, and of those with `max` that admit the result
abbrev pub candidates : List Entry → Record → List ℕ
candidates es r =
    option_map_or (λ guid. numbers_from (asks_for_guid guid) 0 es) r.guid []
    ++ (option_map_or (λ text. under_snippet es (packed text) (keys_beside r)) r.snippet []
    ++ (flat_map (λ pair. numbers_from (asks_for_pair Full pair) 0 es) r.full
    ++ (flat_map (λ pair. numbers_from (asks_for_pair Partial pair) 0 es) r.partial
    ++ (flat_map (λ key. numbers_from (asks_for_message key) 0 es) (message_keys r)
    ++ (option_map_or (λ uri. numbers_from (asks_for_text Uri uri) 0 es) r.place.uri []
    ++ (numbers_from (asks_for_text RuleId r.rule_id) 0 es
    ++ (numbers_from (asks_for_text Tool r.tool) 0 es
    ++ (flat_map (λ number. numbers_from (asks_for_number number) 0 es) r.admitted
    ++ numbers_from asks_for_none 0 es))))))))
