use Rattle.std.proofs.Common.{◌≡◌, drop, map, string_bytes}
use Rattle.std.specs.List.{list_any}
use Rattle.sarif_arguments.specs.Replaced.{is_end}
use Rattle.sarif_arguments.proofs.replacing.have_end.Given as goal

-- none of the arguments gone through is `--`
abbrev pub invariant-loop-word : goal.invariant-loop-word
invariant-loop-word l =
    list_any is_end (map string_bytes (drop l.word-index l.words)) ≡ list_any is_end (map string_bytes l.words)
