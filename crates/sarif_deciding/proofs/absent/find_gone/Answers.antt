use Rattle.std.proofs.Common.{rules, ◌≡◌, ◌∙◌, map, true, ap}
use Rattle.sarif_runs.specs.Internal.Opened.{placed_of}
use Rattle.sarif_deciding.specs.Asked.{ratchets}
use Rattle.sarif_deciding.specs.Results.{is_gone_by}
use Rattle.sarif_deciding.proofs.GoneTests.{all_gone}
use Rattle.sarif_deciding.proofs.Unmarked.{if_asked}
use Rattle.sarif_deciding.proofs.absent.find_gone.Goals as goal

pub returns-in_ok-gone : goal.returns-in_ok-gone
returns-in_ok-gone c =
    let file = c.args.merge.now.file.now in
    let runs = map placed_of c.args.merge.now.current.runs.now in
    let asked : ratchets c.args.conditions.now ≡ true = search rules in
    c.in_ok-gone.ensures
    ∙ all_gone file runs c.in_ok-test.test c.in_ok-test.ensures (map (λ r. r.now) c.args.records.now)
    ∙ ap (map (is_gone_by file runs)) c.requires.records
    ∙ if_asked (ratchets c.args.conditions.now) _ _ asked
