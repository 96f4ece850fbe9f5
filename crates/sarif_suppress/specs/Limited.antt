-- Which results the entries with `max` match: of the results that meet an entry, the first ones in order. An entry with
-- `max` matches a result only if its number is among the result's numbers: it admits the result.
use Rattle.std.specs.Prelude.{◌≡◌, ℕ, Bool, false, not, ◌&&◌, List, [], ◌∷◌, ◌++◌, Option, count_by, is_none, is_some, nat_le}
use Rattle.std.specs.List.{AllByRecursion, list_all}
use Rattle.std.specs.Option.{option_map_or}
use Rattle.sarif_model.specs.declared.record.Record.{Record}
use Rattle.sarif_entries.specs.declared.entry.Entry.{Entry}
use Rattle.sarif_entries.specs.File.{File}
use Rattle.sarif_entries.specs.Matching.{is_met}
use Rattle.sarif_filing.specs.Numbers.{numbers_from}

-- how many of the results meet the entry: it isn't expired, and its conditions hold
abbrev pub met_by : Option ℕ → Entry → List Record → ℕ
met_by today e rs = count_by (is_met today e) rs

-- the entry has a `max`, and these results use it up
abbrev pub is_used_up_by : Option ℕ → List Record → Entry → Bool
is_used_up_by today rs e = option_map_or (λ limit. nat_le limit.most (met_by today e rs)) e.limit false

-- the entry has a `max`, and these results don't use it up
abbrev pub has_room_after : Option ℕ → List Record → Entry → Bool
has_room_after today rs e = is_some e.limit && not (is_used_up_by today rs e)

-- the numbers of the entries with `max` that a result meets and that the results before it don't use up
abbrev pub admitted_after : File → List Record → Record → List ℕ
admitted_after file before r =
    numbers_from (λ e. is_met file.today e r && has_room_after file.today before e) 0 file.entries

-- the result with these numbers
abbrev pub with_admitted : Record → List ℕ → Record
with_admitted r numbers = record r { admitted = numbers }

-- these numbers for each of some results after others
abbrev pub all_admitted_after : File → List Record → List Record → List (List ℕ)
all_admitted_after file before [] = []
all_admitted_after file before (r ∷ rs) =
    admitted_after file before r ∷ all_admitted_after file (before ++ r ∷ []) rs

-- for each result the numbers of the entries that admit it
abbrev pub all_admitted : File → List Record → List (List ℕ)
all_admitted file rs = all_admitted_after file [] rs

-- some results after others, each with the numbers of the entries that admit it
abbrev pub limited_after : File → List Record → List Record → List Record
limited_after file before [] = []
limited_after file before (r ∷ rs) =
    with_admitted r (admitted_after file before r) ∷ limited_after file (before ++ r ∷ []) rs

-- the results, each with the numbers of the entries that admit it
abbrev pub limited : File → List Record → List Record
limited file rs = limited_after file [] rs

-- no entry admits any of the results
abbrev pub AreUnadmitted : List Record → Type 0
AreUnadmitted rs = AllByRecursion (λ r. r.admitted ≡ []) rs

-- no entry has a `max`
abbrev pub is_unlimited : File → Bool
is_unlimited file = list_all (λ e. is_none e.limit) file.entries
