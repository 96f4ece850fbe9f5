-- The limits of judging.
use Rattle.std.specs.Prelude.{ℕ}

-- how many parcels of the workers wait at most in a merge
abbrev pub merge_room : ℕ
merge_room = 256
