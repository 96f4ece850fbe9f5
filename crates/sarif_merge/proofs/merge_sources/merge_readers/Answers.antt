use Rattle.std.proofs.Common.{◌≡◌, Err, arith, inl, inr, refl, rules}
use Rattle.std.proofs.lemmas.Result.{err_from_is_err_and}
use Rattle.sarif_streams.specs.WereRead.{contents_of}
use Rattle.sarif_merge.specs.FromReaders.{AreFew}
use Rattle.sarif_streams.proofs.ReadersRead.{none_has_fallen}
use Rattle.sarif_merge.proofs.merge_sources.merge_readers.Goals as goal

pub returns-in_err-check_numbers-clause-risen : goal.returns-in_err-check_numbers-clause-risen
returns-in_err-check_numbers-clause-risen g c =
    let all = c.args.readers.now in
    record { logs = none_has_fallen all.logs.items; baselines = none_has_fallen all.baselines.items; suppressions = omega arith; policy = omega arith; diff = omega arith }

pub returns-in_err-made-clause-refused : goal.returns-in_err-made-clause-refused
returns-in_err-made-clause-refused g c =
    let fault = c.in_err-made.field-0.0 in
    let p = err_from_is_err_and c.from_residual-in_err-made.result c.from_residual-in_err-made.ensures.1 in
    let is : c.from_residual-in_err-made.result ≡ Err fault = rw (p.1, p.2) refl in
    let few : AreFew c.args.readers.now = (search rules, search rules) in
    let contents = contents_of c.in_ok-sources.sources in
    rw is (elim c.in_err-made.ensures.refused [
      | inl same ↦ inl (inr (few, inr (contents, c.in_ok-sources.ensures.read, same)))
      | inr large ↦ inr (few, (contents, c.in_ok-sources.ensures.read, large.0, large.1))
    ])

pub returns-clause-merged : goal.returns-clause-merged
returns-clause-merged g c = (contents_of c.in_ok-sources.sources, c.in_ok-sources.ensures.read, c.in_ok-made.ensures.merged, c.in_ok-made.ensures.life)
