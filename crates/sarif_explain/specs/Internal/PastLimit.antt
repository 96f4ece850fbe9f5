-- Whether a suppression file is past a limit itself.
use Rattle.std.specs.Prelude.{ℕ, Bool, true, false, List, length, option_and_then, nat_lt, codes}
use Rattle.std.specs.Option.{option_map_or}
use Rattle.serde_json.specs.Data.{Data}
use Rattle.serde_json.specs.Find.{get, as_array}
use Rattle.json_parts.specs.Indexed.{json_of}
use Rattle.json_parts.specs.Mark.{without_mark}
use Rattle.sarif_model.specs.Limits.{most_bytes, most_entries}
use Rattle.sarif_model.specs.Members.{elements}
use Rattle.sarif_model.specs.declared.fault.Fault.TheVariants.{TooMany}
use Rattle.sarif_model.specs.declared.merge_fault.Cause.{Cause}
use Rattle.sarif_model.specs.declared.merge_fault.Cause.TheVariants.{Of, TooLong}

-- a value with an array `suppressions` of more elements than a suppression file may have entries
abbrev pub has_many_entries : Data → Bool
has_many_entries file = option_map_or (λ ds. nat_lt most_entries (length (elements ds)))
    (option_and_then as_array (get (codes "suppressions") file)) false

-- bytes that are JSON, and such a value
abbrev pub has_many_in : List ℕ → Bool
has_many_in bytes = option_map_or has_many_entries (json_of bytes) false

-- a file with these bytes is past the limit of this cause; if the cause has no limit, it is treated as past it
abbrev pub is_past_limit : Cause → List ℕ → Bool
is_past_limit TooLong bytes = nat_lt most_bytes (length bytes)
is_past_limit (Of TooMany) bytes = has_many_in (without_mark bytes)
is_past_limit _ bytes = true
