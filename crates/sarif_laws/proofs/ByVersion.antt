-- A baseline that has the current results in turn with its others: each current result is matched with itself, and
-- exactly the others stay unmatched, in both versions.
use Rattle.std.proofs.Common.{◌≡◌, ℕ, List, ◌++◌, Some, None, slice_get, slice_index_or}
use Rattle.std.proofs.lemmas.List.Concat.{flat_map-append}
use Rattle.sarif_model.specs.declared.record.Record.{Record}
use Rattle.sarif_evidence.specs.declared.version.MatchingVersion.{MatchingVersion}
use Rattle.sarif_evidence.specs.declared.version.MatchingVersion.TheVariants.{Two, Three}
use Rattle.sarif_match.specs.Partners.{partners_in}
use Rattle.sarif_known.specs.Chosen.{Chosen}
use Rattle.sarif_known.specs.Order.{in_turn}
use Rattle.sarif_known.specs.Selected.{unmatched_of}
use Rattle.sarif_log.specs.LogBy.{partner_in, taken_of}
use Rattle.sarif_laws.proofs.Adopted.{matched, unmatched}
use Rattle.sarif_laws.proofs.Arranged.{of_tool}
use Rattle.sarif_laws.proofs.ByTool.{records_among}
use Rattle.sarif_laws.proofs.FromEnd.{matched_from_end, unmatched_from_end}
use Rattle.sarif_laws.proofs.Keyed.{tool_of}

-- the results of a version's known log
abbrev pub turn : MatchingVersion → List Record → List Record → List Record
turn Two cs more = cs ++ more
turn Three cs more = more ++ cs

pub turn_among : (v : MatchingVersion) (now before : List Chosen) → records_among (in_turn v now before) ≡ turn v (records_among now) (records_among before)
turn_among Two now before = flat_map-append (λ (run : Chosen). run.records) now before
turn_among Three now before = flat_map-append (λ (run : Chosen). run.records) before now

pub matched_in : (v : MatchingVersion) (cs more bs : List Record) → ((t : List ℕ) → of_tool tool_of t bs ≡ of_tool tool_of t (turn v cs more))
    → (i : ℕ) (r : Record) → slice_get cs i ≡ Some r → partner_in bs (slice_index_or (partners_in v cs bs) i None) ≡ Some r
matched_in Two cs more bs same i r is = matched cs more bs same i r is
matched_in Three cs more bs same i r is = matched_from_end cs more bs same i r is

pub unmatched_in : (v : MatchingVersion) (cs more bs : List Record) → ((t : List ℕ) → of_tool tool_of t bs ≡ of_tool tool_of t (turn v cs more))
    → (t : List ℕ) → of_tool tool_of t (unmatched_of bs (taken_of v cs bs)) ≡ of_tool tool_of t more
unmatched_in Two cs more bs same t = unmatched cs more bs same t
unmatched_in Three cs more bs same t = unmatched_from_end cs more bs same t
