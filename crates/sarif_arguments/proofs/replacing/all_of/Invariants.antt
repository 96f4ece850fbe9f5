use Rattle.std.proofs.Common.{drop, map, string_bytes}
use Rattle.sarif_arguments.proofs.Leading.{Leads}
use Rattle.sarif_arguments.proofs.replacing.all_of.Given as goal

-- what replaces the arguments so far is followed by what replaces the others
abbrev pub invariant-loop-word : goal.invariant-loop-word
invariant-loop-word g l =
    Leads (g.F.ArgumentFiles.gives l.files) l.is_ended (map string_bytes (drop l.word-index l.words))
    (map string_bytes l.all.items) (map string_bytes l.words)
