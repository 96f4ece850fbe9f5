-- The entries that are filed under a URI prefix, found by the hashes of the prefixes of a URI. The only known
-- property of a hash is that equal strings have equal hashes.
use Rattle.std.specs.Prelude.{◌≡◌, ℕ, ◌+◌, ◌*◌, ◌%◌, Bool, false, List, [], ◌∷◌, length, map, take, nat_eq, slice_get, if◌then◌else◌}
use Rattle.std.specs.List.{flat_map, fold, list_any}
use Rattle.std.specs.Option.{option_map_or}
use Rattle.sarif_entries.specs.declared.entry.Entry.{Entry}
use Rattle.sarif_filing.specs.declared.prefixes.PrefixTable.{PrefixTable}
use Rattle.sarif_entries.specs.Internal.Filing.{filed, prefix_key}
use Rattle.sarif_filing.specs.Numbers.{numbers_from, numbers_at}

-- the hash of a string with one more byte, from the hash of the string
unfoldable pub next_hash : ℕ → ℕ → ℕ → ℕ
next_hash base hash byte = (base * hash + byte + 1) % 4294967291

-- the hash of a string
abbrev pub hash_of : ℕ → List ℕ → ℕ
hash_of base text = fold (next_hash base) 0 text

-- all prefixes of a string, from the empty string to the whole string
abbrev pub beginnings : List ℕ → List (List ℕ)
beginnings [] = [] ∷ []
beginnings (b ∷ bs) = [] ∷ map (λ front. b ∷ front) (beginnings bs)

-- the length is marked
abbrev pub is_listed : List Bool → ℕ → Bool
is_listed lengths n = option_map_or (λ listed. listed) (slice_get lengths n) false

-- the entry is filed under a prefix of that length, or under one of that hash
abbrev pub has_length : ℕ → Entry → Bool
has_length n e = option_map_or (λ prefix. nat_eq (length prefix) n) (filed e (prefix_key e.conditions)) false

abbrev pub asks_for_hash : ℕ → ℕ → Entry → Bool
asks_for_hash base hash e =
    option_map_or (λ prefix. nat_eq (hash_of base prefix) hash) (filed e (prefix_key e.conditions)) false

-- one of the entries is filed under a prefix of that length
abbrev pub is_length : ℕ → List Entry → Bool
is_length n entries = list_any (has_length n) entries

-- the table has the lengths and the hashes of the prefixes of these entries
pub record IsPrefixTable {S H : Type 0} (entries : List Entry) (table : PrefixTable S H)
    : Type 0 where
  pub lengths : (n : ℕ) → is_listed table.lengths.items n ≡ is_length n entries
  pub hashes : (hash : ℕ)
      → numbers_at nat_eq table.by_hash hash
      ≡ numbers_from (asks_for_hash table.base hash) 0 entries

module _ {S H : Type 0} (table : PrefixTable S H) where
  -- the numbers of the entries that the table has for a string with that length and hash
  abbrev pub found_with : ℕ → ℕ → List ℕ
  found_with n hash =
      if is_listed table.lengths.items n then numbers_at nat_eq table.by_hash hash else []

  -- the numbers of the entries that the table has for a string
  abbrev pub found_under : List ℕ → List ℕ
  found_under text = found_with (length text) (hash_of table.base text)

  -- the numbers of the entries that the table has for the prefixes of a URI with a length that some filed prefix has
  abbrev pub found_for : List ℕ → List ℕ
  found_for uri = flat_map found_under (beginnings (take (length table.lengths.items) uri))
