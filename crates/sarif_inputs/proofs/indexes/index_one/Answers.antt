use Rattle.sarif_inputs.proofs.IndexedTexts.{indexed_by}
use Rattle.sarif_inputs.proofs.indexes.index_one.Goals as goal

pub returns : goal.returns
returns c = indexed_by c.args.job.bytes.now c.index_text.result c.index_text.ensures.ok c.index_text.ensures.ordered c.index_text.ensures.err
