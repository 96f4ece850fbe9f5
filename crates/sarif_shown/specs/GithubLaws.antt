-- Properties of the report for GitHub Actions, for any strings of a log.
use Rattle.std.specs.Prelude.{ℕ, Bool, true, not, ◌&&◌, ◌||◌, ◌==◌, nat_eq, List, [], ◌∷◌, codes}
use Rattle.std.specs.List.{starts_with}

-- whether the string starts with one of the three commands
abbrev pub begins_command : List ℕ → Bool
begins_command bs =
    starts_with nat_eq bs (codes "::error ")
    || (starts_with nat_eq bs (codes "::warning ")
    || starts_with nat_eq bs (codes "::notice "))

-- whether each line begins with a command, including the first if a line begins there
abbrev pub are_commands : Bool → List ℕ → Bool
are_commands begins [] = true
are_commands begins (b ∷ bs) = (not begins || begins_command (b ∷ bs)) && are_commands (b == 10) bs
