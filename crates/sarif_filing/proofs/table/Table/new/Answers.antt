use Rattle.sarif_filing.proofs.table.Table.new.Goals as goal

pub returns : goal.returns
returns g c = record {
  guids = c.in_ok-guids.ensures;
  snippets = c.in_ok-snippets.ensures;
  pairs = c.in_ok-pairs.ensures;
  texts = c.in_ok-texts.ensures;
  limited = c.in_ok-limited.ensures;
  rest = c.in_ok-others.ensures;
}
