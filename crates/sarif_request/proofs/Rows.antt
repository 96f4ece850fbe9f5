-- The parser's matches as rows under the names of their arguments, and that its contract covers this program.
use Rattle.std.proofs.Common.{◌≡◌, ◌∙◌, true, refl, sym, ap, List, Option, Some, None, option_map}
use Rattle.std.specs.Prelude.{bytes_eq, find, option_and_then}
use Rattle.std.specs.Borrow.{Bor}
use Rattle.clap.specs.Words.{Text, all_of, first_of, first_value, is_simple, is_simple_and_free, matched_of, raw_values, rows_of}
use Rattle.clap.specs.Facts.{Entry}
use Rattle.clap.specs.Walk.{Row, row_of}
use Rattle.clap.specs.declared.parser.matches.Found.{Found}
use Rattle.clap.specs.declared.parser.matches.MatchedArg.{MatchedArg}
use Rattle.clap.proofs.WalkLemmas.{find_row, first_value-rows, raw_values-rows}
use Rattle.clap.proofs.OnLiterals.{clap_on_literals}
use Rattle.sarif_request.specs.Command.{program}
use Rattle.sarif_request.specs.Words.{source_of}

pub first_in_rows : (f : Found) (id : Text) → first_value f id ≡ first_of id (rows_of f)
first_in_rows f id = first_value-rows f id

pub all_in_rows : (f : Found) (id : Text) → option_map raw_values (matched_of f id) ≡ all_of id (rows_of f)
all_in_rows f id = raw_values-rows f id

-- where a value comes from
pub source_in_rows : (f : Found) (id : Text) → option_and_then (λ (a : MatchedArg). a.source) (matched_of f id) ≡ source_of id (rows_of f)
source_in_rows f id =
    go (find (λ (e : Entry). bytes_eq e.0.now id) f.entries.items)
    ∙ ap (option_and_then (λ (r : Row). r.source)) (sym (find_row f.entries.items id))
  where
    go : (o : Option Entry) → option_and_then (λ (a : MatchedArg). a.source) (option_map (λ e. e.1) o) ≡ option_and_then (λ (r : Row). r.source) (option_map row_of o)
    go None = refl
    go (Some e) = refl

pub program_is_simple : (levels : Bor (List (Bor Text))) → is_simple (program levels) ≡ true
unfolding program clap_on_literals
program_is_simple levels = refl

pub program_is_free : (levels : Bor (List (Bor Text))) → is_simple_and_free (program levels) ≡ true
unfolding program clap_on_literals
program_is_free levels = refl
