use Rattle.std.proofs.Common.{◌≡◌, ◌<◌, ◌^◌, map, ◌++◌, [], ◌∷◌, false, get_or, subst, arith, ap, ◌∙◌}
use Rattle.std.proofs.lemmas.Grind.{common_steps}
use Rattle.std.proofs.lemmas.List.{map-append}
use Rattle.std.proofs.lemmas.List.Elements.{All-get_or}
use Rattle.std.proofs.lemmas.Result.{err_from_is_err_and}
use Rattle.sarif_streams.specs.AreRead.{HasStopped}
use Rattle.sarif_streams.specs.Counted.{failed_calls}
use Rattle.sarif_model.specs.Internal.SourceKind.{source_of}
use Rattle.sarif_streams.proofs.ReadersRead.{same_at, same_after, are_read_more, stops_at, no_fall, none_falls_at}
use Rattle.sarif_streams.proofs.reading.read_readers.Goals as goal

pub read_reader-requires : goal.read_reader-requires
read_reader-requires g c =
    let i = c.loop-number.number in
    let d = c.index-readers-number.result in
    let few : failed_calls (get_or c.args.readers.now i d) < 2 ^ 63 =
    All-get_or (λ reader. failed_calls reader < 2 ^ 63) c.args.readers.now i d (omega arith) c.requires.faults in
    omega (arith, few, ap failed_calls (same_at c.loop-number.readers c.args.readers.now i d c.loop-number.invariant.left))

pub returns-in_err-bytes-clause-stopped : goal.returns-in_err-bytes-clause-stopped
returns-in_err-bytes-clause-stopped g c =
    let i = c.loop-number.number in
    let d = c.index-readers-number.result in
    let now = c.loop-number.readers in
    let remaining = g.R.Read.remaining in
    let bytes = map (λ v. v.items) c.loop-number.sources.items in
    let fault = c.in_err-bytes.field-0.0 in
    let p = err_from_is_err_and c.from_residual.result c.from_residual.ensures.1 in
    let stopped : HasStopped remaining (source_of c.args.kind i) (get_or now i d) c.read_reader.new.reader fault =
    subst (λ source. HasStopped remaining source (get_or now i d) c.read_reader.new.reader fault) c.source.ensures c.in_err-bytes.ensures.stopped in
    rw (p.1, p.2)
    (stops_at remaining (source_of c.args.kind) c.args.readers.now now bytes i d c.read_reader.new.reader fault (omega arith)
    (omega arith) c.loop-number.invariant.left c.loop-number.invariant.read stopped)

pub returns-in_err-push-clause-stopped : goal.returns-in_err-push-clause-stopped
returns-in_err-push-clause-stopped g c =
    let i = c.loop-number.number in
    let d = c.index-readers-number.result in
    let bytes = map (λ v. v.items) c.loop-number.sources.items in
    let p = err_from_is_err_and c.from_residual-in_err-push.result c.from_residual-in_err-push.ensures.1 in
    rw (p.1, p.2)
    (stops_at g.R.Read.remaining (source_of c.args.kind) c.args.readers.now c.loop-number.readers bytes i d c.read_reader.new.reader _
    (omega arith) (omega arith) c.loop-number.invariant.left c.loop-number.invariant.read c.in_ok-bytes.ensures.read.3)

pub returns-in_err-bytes-clause-risen : goal.returns-in_err-bytes-clause-risen
returns-in_err-bytes-clause-risen g c =
    let i = c.loop-number.number in
    let d = c.index-readers-number.result in
    none_falls_at c.args.readers.now c.loop-number.readers i d c.read_reader.new.reader (omega arith) c.loop-number.invariant.risen
    (no_fall _ _ _ c.in_err-bytes.ensures.read_failed)

pub returns-in_err-push-clause-risen : goal.returns-in_err-push-clause-risen
returns-in_err-push-clause-risen g c =
    let i = c.loop-number.number in
    let d = c.index-readers-number.result in
    none_falls_at c.args.readers.now c.loop-number.readers i d c.read_reader.new.reader (omega arith) c.loop-number.invariant.risen
    (no_fall false _ _ c.in_ok-bytes.ensures.read_failed)

pub loop-number-preserved : goal.loop-number-preserved
loop-number-preserved g c =
    let i = c.loop-number.number in
    let d = c.index-readers-number.result in
    let now = c.loop-number.readers in
    let given = c.args.readers.now in
    let remaining = g.R.Read.remaining in
    let bytes = c.in_ok-bytes.bytes in
    let reader = c.read_reader.new.reader in
    let before = map (λ v. v.items) c.loop-number.sources.items in
    let more = are_read_more remaining given now before i d reader bytes.items (omega arith)
    (omega arith) c.loop-number.invariant.left c.loop-number.invariant.read c.in_ok-bytes.ensures.read in
    let pushed : map (λ v. v.items) c.push.new.self.items ≡ before ++ bytes.items ∷ [] =
    ap (map (λ v. v.items)) c.in_ok-push.ensures.items ∙ map-append (λ v. v.items) c.loop-number.sources.items (bytes ∷ []) in
    record {
      left = same_after now given i reader c.loop-number.invariant.left;
      read = rw pushed more;
      number = grind (arith, common_steps);
      quiet = grind (arith, common_steps, c.in_ok-bytes.ensures.read_failed, c.loop-number.invariant.quiet);
      risen = none_falls_at given now i d reader (omega arith) c.loop-number.invariant.risen (no_fall false _ _ c.in_ok-bytes.ensures.read_failed);
    }
