use Rattle.grid.proofs.Tallies.{ones_count}
use Rattle.grid.proofs.counts.word_count.Goals as goal

pub returns-clause-value : goal.returns-clause-value
returns-clause-value c = ones_count 64 c.args.word c.ranges.word.fits
