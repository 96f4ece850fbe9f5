-- The matches that were found are those of the program's options, and the arguments are valid if they were found.
use Rattle.std.proofs.Common.{◌≡◌, ◌∙◌, ap, sym, subst, true, [], List}
use Rattle.std.specs.Borrow.{Bor}
use Rattle.clap.specs.Words.{App, Row, Text, fault_of, is_simple, is_simple_and_free, matches_of}
use Rattle.sarif_request.specs.declared.request.Request.{Request}
use Rattle.sarif_request.specs.Command.{program}
use Rattle.sarif_request.specs.Words.{AsksFor}
use Rattle.sarif_request.proofs.Rows.{program_is_simple, program_is_free}

-- the arguments are valid, and these are their matches
pub matched : (levels : Bor (List (Bor Text))) (app : App) (words : List Text) (rows : List Row)
    → app ≡ program levels → (is_simple_and_free app ≡ true → fault_of app words ≡ [])
    → (is_simple app ≡ true → rows ≡ matches_of app words)
    → (fault_of (program levels) words ≡ []) × (rows ≡ matches_of (program levels) words)
matched levels app words rows is right found =
    let free : is_simple_and_free app ≡ true = ap is_simple_and_free is ∙ program_is_free levels in
    let simple : is_simple app ≡ true = ap is_simple is ∙ program_is_simple levels in
    (ap (λ (a : App). fault_of a words) (sym is) ∙ right free, found simple ∙ ap (λ (a : App). matches_of a words) is)

pub asked : (levels : Bor (List (Bor Text))) (app : App) (words : List Text) (rows : List Row) (request : Request)
    → app ≡ program levels → (is_simple_and_free app ≡ true → fault_of app words ≡ [])
    → (is_simple app ≡ true → rows ≡ matches_of app words) → AsksFor rows request
    → (fault_of (program levels) words ≡ []) × AsksFor (matches_of (program levels) words) request
asked levels app words rows request is right found asks =
    let so = matched levels app words rows is right found in
    (so.0, subst (λ (r : List Row). AsksFor r request) so.1 asks)
