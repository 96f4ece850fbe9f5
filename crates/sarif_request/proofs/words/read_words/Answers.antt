use Rattle.std.proofs.Common.{◌≡◌, ◌∙◌, List, ap, sym, subst, rules, true, None, Some, map, string_bytes}
use Rattle.std.proofs.lemmas.Result.{err_from_is_err_and}
use Rattle.clap.specs.Words.{App, app_of, fault_of, found_of, is_simple_and_free, HasKind, Row, kind_of, rows_of}
use Rattle.sarif_request.specs.Command.{program}
use Rattle.sarif_request.specs.Names.{clash_of, names_of}
use Rattle.sarif_request.specs.Together.{misfit_of}
use Rattle.sarif_request.specs.Words.{AreGiven, link_in, scope_in, show_in, states_in}
use Rattle.sarif_request.proofs.Asked.{asked, matched}
use Rattle.sarif_request.proofs.Rows.{program_is_free}
use Rattle.sarif_request.proofs.Told.{told, clashing, misfitting, nameless, same_names, scopeless, stateless, templateless}
use Rattle.sarif_request.proofs.words.read_words.Goals as goal

pub returns-in_default : goal.returns-in_default
returns-in_default c =
    let found = c.in_ok-command.ensures in
    let words = map string_bytes c.args.words.now in
    let are = matched found.0 (app_of c.in_ok-command.command) words (rows_of (found_of c.in-Ok.matches)) found.2 c.in-Ok.ensures.kinds
    (λ simple. (c.in-Ok.ensures.matches simple).0) in
    let none : states_in (rows_of (found_of c.in-Ok.matches)) ≡ None = search rules in
    stateless found.0 words c.usage_of.result found.1 (are.0, ap states_in (sym are.1) ∙ none) c.usage_of.ensures

pub returns-in_default-named_show : goal.returns-in_default-named_show
returns-in_default-named_show c =
    let found = c.in_ok-command.ensures in
    let words = map string_bytes c.args.words.now in
    let are = matched found.0 (app_of c.in_ok-command.command) words (rows_of (found_of c.in-Ok.matches)) found.2 c.in-Ok.ensures.kinds
    (λ simple. (c.in-Ok.ensures.matches simple).0) in
    let none : show_in (rows_of (found_of c.in-Ok.matches)) ≡ None = search rules in
    nameless found.0 words c.usage_of-in_default-named_show.result found.1 (are.0, ap show_in (sym are.1) ∙ none) c.usage_of-in_default-named_show.ensures

pub returns-in_default-named_scope : goal.returns-in_default-named_scope
returns-in_default-named_scope c =
    let found = c.in_ok-command.ensures in
    let words = map string_bytes c.args.words.now in
    let are = matched found.0 (app_of c.in_ok-command.command) words (rows_of (found_of c.in-Ok.matches)) found.2 c.in-Ok.ensures.kinds
    (λ simple. (c.in-Ok.ensures.matches simple).0) in
    let none : scope_in (rows_of (found_of c.in-Ok.matches)) ≡ None = search rules in
    scopeless found.0 words c.usage_of-in_default-named_scope.result found.1 (are.0, ap scope_in (sym are.1) ∙ none) c.usage_of-in_default-named_scope.ensures

pub returns-in_default-linked : goal.returns-in_default-linked
returns-in_default-linked c =
    let found = c.in_ok-command.ensures in
    let words = map string_bytes c.args.words.now in
    let are = matched found.0 (app_of c.in_ok-command.command) words (rows_of (found_of c.in-Ok.matches)) found.2 c.in-Ok.ensures.kinds
    (λ simple. (c.in-Ok.ensures.matches simple).0) in
    let none : link_in (rows_of (found_of c.in-Ok.matches)) ≡ None = search rules in
    templateless found.0 words c.usage_of-in_default-linked.result found.1 (are.0, ap link_in (sym are.1) ∙ none) c.usage_of-in_default-linked.ensures

pub returns-in-Some-misfit_of : goal.returns-in-Some-misfit_of
returns-in-Some-misfit_of c =
    let found = c.in_ok-command.ensures in
    let words = map string_bytes c.args.words.now in
    let are = matched found.0 (app_of c.in_ok-command.command) words (rows_of (found_of c.in-Ok.matches)) found.2 c.in-Ok.ensures.kinds
    (λ simple. (c.in-Ok.ensures.matches simple).0) in
    let given = c.given_of.result in
    let misfit : misfit_of given ≡ Some c.in-Some-misfit_of.misfit = search rules in
    misfitting found.0 words c.usage_of-in-Some-misfit_of.result found.1
    (are.0, c.in-Some-misfit_of.misfit, (given, subst (λ (rows : List Row). AreGiven rows given) are.1 c.given_of.ensures, misfit))
    c.usage_of-in-Some-misfit_of.ensures

pub returns-in_err-found-in-Ok : goal.returns-in_err-found-in-Ok
returns-in_err-found-in-Ok c =
    let stop = c.from_residual-in_err-found-in-Ok in
    let p = err_from_is_err_and stop.result stop.ensures.1 in
    rw (p.1, p.2) tt

pub returns-in-Some-found : goal.returns-in-Some-found
returns-in-Some-found c =
    let found = c.in_ok-command.ensures in
    let request = c.in_ok-request-in-Ok.request in
    let is = asked found.0 (app_of c.in_ok-command.command) (map string_bytes c.args.words.now) _ request found.2
    c.in-Ok.ensures.kinds (λ simple. (c.in-Ok.ensures.matches simple).0) c.in_ok-request-in-Ok.ensures in
    let same = same_names _ request is.1 in
    let clash : Some c.in-Some-found.clash ≡ clash_of (names_of request) = search rules in
    clashing found.0 (map string_bytes c.args.words.now) c.usage_of-in-Some-found.result found.1
    (is.0, c.in-Some-found.clash, ap clash_of (sym same) ∙ sym clash) c.usage_of-in-Some-found.ensures

pub returns-in_default-found : goal.returns-in_default-found
returns-in_default-found c =
    let found = c.in_ok-command.ensures in
    let request = c.in_ok-request-in-Ok.request in
    let is = asked found.0 (app_of c.in_ok-command.command) (map string_bytes c.args.words.now) _ request found.2
    c.in-Ok.ensures.kinds (λ simple. (c.in-Ok.ensures.matches simple).0) c.in_ok-request-in-Ok.ensures in
    let none : clash_of (names_of request) ≡ None = search rules in
    let are = matched found.0 (app_of c.in_ok-command.command) (map string_bytes c.args.words.now)
    (rows_of (found_of c.in-Ok.matches)) found.2 c.in-Ok.ensures.kinds (λ simple. (c.in-Ok.ensures.matches simple).0) in
    let given = c.given_of.result in
    let fits : misfit_of given ≡ None = search rules in (
      found.0,
      found.1,
      is.0,
      is.1,
      (given, subst (λ (rows : List Row). AreGiven rows given) are.1 c.given_of.ensures, fits),
      ap clash_of (sym (same_names _ request is.1)) ∙ none,
    )

pub returns-in-Err : goal.returns-in-Err
returns-in-Err c =
    let found = c.in_ok-command.ensures in
    let words = map string_bytes c.args.words.now in
    let free : is_simple_and_free (app_of c.in_ok-command.command) ≡ true = ap is_simple_and_free found.2 ∙ program_is_free found.0 in
    let has : HasKind (fault_of (program found.0) words) c.in-Err.error =
    subst (λ (a : App). HasKind (fault_of a words) c.in-Err.error) found.2 (c.in-Err.ensures.kinds free) in
    told found.0 words (kind_of c.in-Err.error) c.fault_of.result found.1 has c.fault_of.ensures
