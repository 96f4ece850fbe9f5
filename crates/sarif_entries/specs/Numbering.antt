-- Entries as they are numbered in another file, in which they have other positions.
use Rattle.std.specs.Prelude.{ℕ, ◌+◌, List, [], ◌∷◌, Option, option_map}
use Rattle.sarif_entries.specs.declared.entry.Entry.{Entry}
use Rattle.sarif_entries.specs.declared.limit.Limit.{Limit}
use Rattle.sarif_entries.specs.File.{File}

-- the limit of entry n, if it has one
abbrev pub limit_with : ℕ → Option Limit → Option Limit
limit_with n limit = option_map (λ (own : Limit). record own { number = n }) limit

-- the entry as entry n
abbrev pub with_number : ℕ → Entry → Entry
with_number n e = record e { limit = limit_with n e.limit }

-- the entries with numbers in order; the first entry has number n
abbrev pub numbered_from : ℕ → List Entry → List Entry
numbered_from n [] = []
numbered_from n (e ∷ es) = with_number n e ∷ numbered_from (n + 1) es

-- the file whose entries have the numbers of their positions
abbrev pub renumbered : File → File
renumbered file = record { entries = numbered_from 0 file.entries; today = file.today }
