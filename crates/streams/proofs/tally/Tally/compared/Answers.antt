-- `streams::tally::Tally::compared` meets its contract: an answer that differs is counted among those that differ.
use Rattle.streams.proofs.tally.Tally.compared.Goals as goal

pub returns-clause-counts : goal.returns-clause-counts
returns-clause-counts g c = record {
  line_is = c.more-line.ensures;
  compared_is = c.more-compared.ensures;
  differ_is = rw c.if-same.false c.more.ensures;
}
