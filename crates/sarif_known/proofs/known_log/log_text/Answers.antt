use Rattle.std.proofs.Common.{◌∙◌, ◌++◌, ap, map}
use Rattle.json.specs.Layout.{pretty}
use Rattle.sarif_known.specs.Chosen.{all_chosen, run_as}
use Rattle.sarif_known.specs.Internal.Tokens.{log_opening}
use Rattle.sarif_known.proofs.RunsAdded.{log_made, log_lost}
use Rattle.sarif_known.proofs.known_log.log_text.Goals as goal

pub returns-in-Err-clause-lost : goal.returns-in-Err-clause-lost
returns-in-Err-clause-lost c =
    log_lost c.open_log.new.out (map (run_as c.args.regions) (all_chosen c.args.runs.now)) c.in-Err.fault
    (c.in_ok-open_log.ensures ∙ ap (λ ts. ts ++ log_opening) c.new-out.ensures) c.in-Err.ensures.lost

pub returns-clause-text : goal.returns-clause-text
returns-clause-text c =
    c.in_ok-text.ensures.text
    ∙ ap pretty
    (log_made c.open_log.new.out c.push_runs.new.out c.close_log.new.out (map (run_as c.args.regions) (all_chosen c.args.runs.now))
    (c.in_ok-open_log.ensures ∙ ap (λ ts. ts ++ log_opening) c.new-out.ensures) c.in_default.ensures.added c.in_ok-close_log.ensures)

pub returns-clause-tokens : goal.returns-clause-tokens
returns-clause-tokens c =
    c.in_ok-text.ensures.tokens
    ∙ log_made c.open_log.new.out c.push_runs.new.out c.close_log.new.out (map (run_as c.args.regions) (all_chosen c.args.runs.now))
    (c.in_ok-open_log.ensures ∙ ap (λ ts. ts ++ log_opening) c.new-out.ensures) c.in_default.ensures.added c.in_ok-close_log.ensures
