use Rattle.std.proofs.Common.{arith}
use Rattle.list.proofs.Listings.{listing_none, listing_edgeless}
use Rattle.list.proofs.Told.{listed}
use Rattle.list.proofs.List.blank.Goals as goal

pub invariant_of-result-clause-tally : goal.invariant_of-result-clause-tally
invariant_of-result-clause-tally c = listing_edgeless c.args.n c.args.cells.now

pub invariant_of-result-clause-listed : goal.invariant_of-result-clause-listed
invariant_of-result-clause-listed c =
    let xs = c.args.cells.now in
    listed c.args.n 0 xs (omega arith) (λ i j l m. absurd (omega arith)) (λ i l. absurd (omega arith)) (listing_edgeless c.args.n xs)

pub returns-clause-graph : goal.returns-clause-graph
returns-clause-graph c = listing_none c.args.n c.args.cells.now
