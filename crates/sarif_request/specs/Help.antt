-- What the help shows besides the options.
use Rattle.std.specs.Prelude.{◌≡◌, ◌≢◌, ◌⊎◌, ◌++◌, pos, codes}
use Rattle.std.specs.Str.{trim_end}
use Rattle.clap.specs.Words.{Text}
use Rattle.sarif_model.specs.Limits.{first_day, last_day}
use Rattle.sarif_request.specs.declared.option_rows.OptionKind.{OptionKind}
use Rattle.sarif_request.specs.declared.option_rows.OptionKind.TheVariants.{Number}
use Rattle.sarif_request.specs.declared.option_rows.Group.{Group}
use Rattle.sarif_request.specs.declared.option_rows.Group.TheVariants as group

-- the heading of a group of options
abbrev pub heading_of : Group → Text
heading_of group.Inputs = codes "Inputs"
heading_of group.Gate = codes "Gate"
heading_of group.Outputs = codes "Outputs"
heading_of group.Upkeep = codes "Upkeep"
heading_of group.Other = codes "Other"

-- a kind of option that takes a date: a number from the first date to the last
abbrev pub IsDate : OptionKind → Type 0
IsDate kind = kind ≡ Number (pos first_day) (pos last_day)

-- a string that is not in another one
abbrev pub IsAbsent : Text → Text → Type 0
IsAbsent part whole = (before rest : Text) → whole ≢ before ++ (part ++ rest)

-- these options without the white space at their end, a row, and what comes after them
abbrev pub row_between : Text → Text → Text → Text → Text
row_between options row after rest =
    trim_end options ++ (codes "\n" ++ (row ++ (codes "\n\n" ++ (after ++ rest))))

-- a help with a row added after its options, which are before `after`
abbrev pub GetsRow : Text → Text → Text → Text → Type 0
GetsRow row after old new = (options rest : Text)
    × (old ≡ options ++ (after ++ rest))
    × (new ≡ row_between options row after rest)

-- a help is unchanged if what comes after the options is not in it
abbrev pub HasRow : Text → Text → Text → Text → Type 0
HasRow row after old new = (IsAbsent after old × (new ≡ old)) ⊎ GetsRow row after old new
