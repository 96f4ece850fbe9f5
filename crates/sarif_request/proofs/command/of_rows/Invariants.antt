use Rattle.std.proofs.Common.{◌≡◌, map, take}
use Rattle.clap.specs.Words.{app_of}
use Rattle.sarif_request.specs.Command.{argument_of, start, with_arguments}
use Rattle.sarif_request.proofs.command.of_rows.Given as goal

-- the options of the rows gone through are added
abbrev pub invariant-loop-row : goal.invariant-loop-row
invariant-loop-row l =
    app_of l.command ≡ with_arguments l.levels start (map argument_of (take l.row-index l.row-items))
