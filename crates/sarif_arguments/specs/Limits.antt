-- The limits of a file of arguments.
use Rattle.std.specs.Prelude.{ℕ}

abbrev pub most_file_bytes : ℕ
most_file_bytes = 1048576

abbrev pub most_file_lines : ℕ
most_file_lines = 10000
