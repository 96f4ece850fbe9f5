-- The options of the rows gone through, with the option of the next row.
use Rattle.std.proofs.Common.{◌≡◌, ◌∙◌, ap, ℕ, ◌+◌, ◌<◌, List, length, map, take, get_or}
use Rattle.std.proofs.lemmas.List.{take_more, map-append}
use Rattle.std.proofs.lemmas.List.Sums.{fold-append}
use Rattle.clap.specs.Words.{App}
use Rattle.clap.specs.declared.builder.value_parser.ValueParser.{ValueParser}
use Rattle.sarif_request.specs.declared.option_rows.OptionRow.{OptionRow}
use Rattle.sarif_request.specs.Command.{argument_of, start, with_argument, with_arguments}

pub added : (levels : ValueParser) (rows : List OptionRow) (i : ℕ) (d : OptionRow) (old new : App) → i < length rows
    → old ≡ with_arguments levels start (map argument_of (take i rows))
    → new ≡ with_argument levels old (argument_of (get_or rows i d))
    → new ≡ with_arguments levels start (map argument_of (take (i + 1) rows))
added levels rows i d old new within so_far is =
    rw (take_more rows i d within, map-append, fold-append)
    (is ∙ ap (λ (app : App). with_argument levels app (argument_of (get_or rows i d))) so_far)
