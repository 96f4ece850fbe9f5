-- How large a policy may be.
use Rattle.std.specs.Prelude.{ℕ}

-- the greatest number of conditions of a policy
abbrev pub most_conditions : ℕ
most_conditions = 100

-- the greatest number of filters in a list
abbrev pub most_filters : ℕ
most_filters = 1000

-- the greatest length of the name of a condition
abbrev pub longest_name : ℕ
longest_name = 50
