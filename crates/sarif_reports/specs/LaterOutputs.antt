-- The outputs for later merges, which are made with the merged log.
use Rattle.std.specs.Prelude.{ℕ, List, [], Option, option_and_then, unwrap_or}
use Rattle.std.specs.Option.{option_map_or}
use Rattle.sarif_counts.specs.declared.life.Life.{Life}

-- the new suppression file
abbrev pub suppressions_text : Option Life → List ℕ
suppressions_text life =
    option_map_or (λ file. file.text) (option_and_then (λ all. all.suppressions) life) []

-- the known log
abbrev pub known_text : Option Life → List ℕ
known_text life = option_map_or (λ log. log.text) (option_and_then (λ all. all.known) life) []

-- the list of unused entries
abbrev pub unused_text : Option Life → List ℕ
unused_text life = unwrap_or (option_and_then (λ all. all.unused) life) []
