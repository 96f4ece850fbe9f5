-- The byte order mark that a log may begin with.
use Rattle.std.specs.Prelude.{ℕ, List, [], ◌∷◌, take, drop, bytes_eq, if◌then◌else◌}

-- one leading byte order mark is dropped
abbrev pub without_mark : List ℕ → List ℕ
without_mark bytes = if bytes_eq (take 3 bytes) (239 ∷ 187 ∷ 191 ∷ []) then drop 3 bytes else bytes
