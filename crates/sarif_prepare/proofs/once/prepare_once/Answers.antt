use Rattle.std.proofs.lemmas.Result.{err_from_is_err_and}
use Rattle.sarif_results.specs.Internal.Judged.{placed_in}
use Rattle.sarif_prepare.proofs.once.prepare_once.Goals as goal

pub prepare_split-requires-clause-apart : goal.prepare_split-requires-clause-apart
prepare_split-requires-clause-apart g c κs within = (placed_in c.args.current, placed_in c.args.baseline, c.in_ok-split.ensures)

pub returns-clause-prepared : goal.returns-clause-prepared
returns-clause-prepared g c = c.in_ok-prepared.ensures.prepared (placed_in c.args.current) (placed_in c.args.baseline) c.in_ok-split.ensures

pub returns-clause-kept : goal.returns-clause-kept
returns-clause-kept g c = c.in_ok-prepared.ensures.kept (placed_in c.args.current) (placed_in c.args.baseline) c.in_ok-split.ensures

pub returns-in_err-prepared-clause-unkept : goal.returns-in_err-prepared-clause-unkept
returns-in_err-prepared-clause-unkept g c =
    let p = err_from_is_err_and c.from_residual-in_err-prepared.result c.from_residual-in_err-prepared.ensures.1 in
    rw (p.1, p.2) (c.in_err-prepared.ensures.unkept (placed_in c.args.current) (placed_in c.args.baseline) c.in_ok-split.ensures)

pub returns-clause-expired : goal.returns-clause-expired
returns-clause-expired g c = c.in_ok-prepared.ensures.expired
