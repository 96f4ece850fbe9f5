use Rattle.std.proofs.Common.{◌∙◌}
use Rattle.std.specs.Io.KnownBytes.{Appends}
use Rattle.std.specs.Prelude.{take}
use Rattle.sarif_streams.specs.Counted.{inner_of}
use Rattle.sarif_merge.proofs.Alone.{partly_written}
use Rattle.sarif_merge.proofs.merge_sources.merge_to.Goals as goal

pub returns-in-Err-clause-part : goal.returns-in-Err-clause-part
returns-in-Err-clause-part g c = λ fails.
    let before = g.W.Write.contents (inner_of c.args.out.now) in
    let after = g.W.Write.contents (inner_of c.write_out.new.out) in
    let bytes = c.as_bytes.result.now in
    let n = c.in-Err.field-0 in
    let written : Appends before after (take n bytes) = c.in-Err.ensures.prefix in
    partly_written g.R.Read.remaining c.args.readers.now c.merge_readers.new.readers c.args.options.now c.in_ok-merged.merged before after bytes n
    c.in_ok-merged.ensures.merged (c.as_bytes.ensures.value ∙ c.as_str.ensures) c.in-Err.ensures.part written
