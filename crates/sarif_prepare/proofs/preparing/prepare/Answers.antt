use Rattle.std.proofs.lemmas.Result.{err_from_is_err_and}
use Rattle.sarif_results.specs.Internal.Judged.{placed_in}
use Rattle.sarif_prepare.proofs.WrittenSides.{together}
use Rattle.sarif_prepare.proofs.preparing.prepare.Goals as goal

pub gather_baselines-requires : goal.gather_baselines-requires
gather_baselines-requires g c = (c.args.rules.now.file.now, c.requires.baseline)

pub pair_sides-requires-clause-found : goal.pair_sides-requires-clause-found
pair_sides-requires-clause-found g c κs within = (
  c.args.rules.now.file.now,
  placed_in c.args.current,
  placed_in c.args.baseline,
  (together c.args.rules.now.file.now c.args.current c.args.baseline c.in_ok-current.current c.in_ok-baselines.baselines c.requires.current c.requires.baseline
      (c.in_ok-current.ensures c.args.rules.now.file.now c.requires.current) c.in_ok-baselines.ensures),
  c.in_ok-changes.ensures,
)

pub prepare_sides-requires-clause-together : goal.prepare_sides-requires-clause-together
prepare_sides-requires-clause-together g c κs within = (
  placed_in c.args.current,
  placed_in c.args.baseline,
  c.in_ok-sides.ensures.together c.args.rules.now.file.now (placed_in c.args.current) (placed_in c.args.baseline)
      (together c.args.rules.now.file.now c.args.current c.args.baseline c.in_ok-current.current c.in_ok-baselines.baselines c.requires.current
      c.requires.baseline (c.in_ok-current.ensures c.args.rules.now.file.now c.requires.current) c.in_ok-baselines.ensures)
      c.in_ok-changes.ensures,
)

pub returns-clause-prepared : goal.returns-clause-prepared
returns-clause-prepared g c =
    c.in_ok-prepared.ensures.prepared (placed_in c.args.current) (placed_in c.args.baseline)
    (c.in_ok-sides.ensures.together c.args.rules.now.file.now (placed_in c.args.current) (placed_in c.args.baseline)
    (together c.args.rules.now.file.now c.args.current c.args.baseline c.in_ok-current.current c.in_ok-baselines.baselines c.requires.current
    c.requires.baseline (c.in_ok-current.ensures c.args.rules.now.file.now c.requires.current) c.in_ok-baselines.ensures)
    c.in_ok-changes.ensures)

pub returns-clause-kept : goal.returns-clause-kept
returns-clause-kept g c =
    c.in_ok-prepared.ensures.kept (placed_in c.args.current) (placed_in c.args.baseline)
    (c.in_ok-sides.ensures.together c.args.rules.now.file.now (placed_in c.args.current) (placed_in c.args.baseline)
    (together c.args.rules.now.file.now c.args.current c.args.baseline c.in_ok-current.current c.in_ok-baselines.baselines c.requires.current
    c.requires.baseline (c.in_ok-current.ensures c.args.rules.now.file.now c.requires.current) c.in_ok-baselines.ensures)
    c.in_ok-changes.ensures)

pub returns-in_err-prepared-clause-unkept : goal.returns-in_err-prepared-clause-unkept
returns-in_err-prepared-clause-unkept g c =
    let p = err_from_is_err_and c.from_residual-in_err-prepared.result c.from_residual-in_err-prepared.ensures.1 in
    rw (p.1, p.2) (c.in_err-prepared.ensures.unkept (placed_in c.args.current) (placed_in c.args.baseline)
    (c.in_ok-sides.ensures.together c.args.rules.now.file.now (placed_in c.args.current) (placed_in c.args.baseline)
    (together c.args.rules.now.file.now c.args.current c.args.baseline c.in_ok-current.current c.in_ok-baselines.baselines c.requires.current
    c.requires.baseline (c.in_ok-current.ensures c.args.rules.now.file.now c.requires.current) c.in_ok-baselines.ensures)
    c.in_ok-changes.ensures))
