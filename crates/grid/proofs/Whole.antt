-- What the facts of a grid say.
use Rattle.graph.specs.Graph.{Simple}
use Rattle.grid.specs.Rows.{few_vertices}
use Rattle.grid.specs.Meaning.{graph_of}
use Rattle.grid.specs.declared.Grid.{Grid}

-- The graph that a grid means is simple.
pub simple_of : (m : Grid) → Simple (graph_of m)
simple_of m = record { some = m.some; small = few_vertices m.n m.small; symmetric = m.even; irreflexive = m.loose; bounded = m.within }
