-- How strings are hashed. A long string is hashed by a number that is computed once and stored with it, so that
-- hashing a string that many results share costs its bytes only once.
use Rattle.std.specs.Prelude.{ℕ, List, [], ◌∷◌, length, nat_le, slice_index, if◌then◌else◌}
use Rattle.std.specs.Int.{w64, from_be_bytes}
use Rattle.std.specs.Hash as fed
use Rattle.std.specs.Hash.{HashWrites}
use Rattle.sha2.specs.Sha256.{sha256}

-- the first 64 bits of a digest
abbrev pub first_bits : List ℕ → ℕ
first_bits d =
    from_be_bytes w64 (slice_index d 0 ∷ slice_index d 1 ∷ slice_index d 2 ∷ slice_index d 3
    ∷ slice_index d 4 ∷ slice_index d 5 ∷ slice_index d 6 ∷ slice_index d 7 ∷ [])

-- the first 64 bits of the SHA-256 digest of a string (FIPS 180-4)
unfoldable pub digest_of : List ℕ → ℕ
digest_of text = first_bits (sha256 text)

-- the length in bytes of the longest string whose bytes are hashed each time
abbrev pub longest_hashed : ℕ
longest_hashed = 1024

-- what a hasher is fed for a string: its bytes if it is not longer than that, otherwise the digest
unfoldable pub fed_of : List ℕ → HashWrites
fed_of text = if nat_le (length text) longest_hashed then fed.str text else fed.u64 (digest_of text)
