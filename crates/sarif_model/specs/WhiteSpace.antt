-- White space in a string.
use Rattle.std.specs.Prelude.{ℕ, Bool, ◌||◌, ◌==◌}

-- a space, a tab, a line feed, a form feed or a carriage return
abbrev pub is_white_space : ℕ → Bool
is_white_space b = (b == 32) || ((b == 9) || ((b == 10) || ((b == 12) || (b == 13))))
