use Rattle.sarif_inputs.proofs.IndexedTexts.{each_indexed}
use Rattle.sarif_inputs.proofs.indexes.index_texts.Goals as goal

pub returns : goal.returns
returns g c = each_indexed (λ job. job.bytes.now) c.args.jobs.items c.in_ok-found.found.items c.in_ok-found.ensures
