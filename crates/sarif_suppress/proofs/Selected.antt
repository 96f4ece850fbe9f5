-- The entries that match a result, in order: those of the candidates that match.
use Rattle.std.proofs.Common.{◌≡◌, ℕ, List, [], ◌++◌, filter, Option}
use Rattle.std.specs.Option.{option_map_or}
use Rattle.sarif_model.specs.declared.record.Record.{Record}
use Rattle.sarif_entries.specs.declared.entry.Entry.{Entry}
use Rattle.sarif_entries.specs.Matching.{matches}
use Rattle.sarif_filing.specs.declared.prefixes.PrefixTable.{PrefixTable}
use Rattle.sarif_filing.specs.Numbers.{numbers_from}
use Rattle.sarif_filing.specs.Internal.Prefixes.{IsPrefixTable, found_for}
use Rattle.sarif_filing.specs.Internal.Table.{candidates}
use Rattle.sarif_filing.proofs.Candidates.{among}
use Rattle.sarif_suppress.specs.Internal.Numbers.{passes_at, with_numbers}
use Rattle.sarif_suppress.proofs.Rising.{selected_from}

-- the matching ones among these, in order, are all matching entries
pub selected : {S H : Type 0} (today : Option ℕ) (r : Record) (es : List Entry) (table : PrefixTable S H) (numbers : List ℕ)
    → IsPrefixTable es table → numbers ≡ candidates es r ++ option_map_or (found_for table) r.place.uri []
    → with_numbers [] (filter (passes_at (λ e. matches today e r) es) numbers) ≡ numbers_from (λ e. matches today e r) 0 es
selected today r es table numbers is found =
    rw found (selected_from (λ e. matches today e r) es (candidates es r ++ option_map_or (found_for table) r.place.uri []) (among today r es table is))
