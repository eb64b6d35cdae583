-- What stands in the buffers of a workspace.
--
--   Buffers   the contents of the buffers for edges, vertices, runs and routes
use Rattle.std.specs.Prelude.{ℕ, List}
use Rattle.cuts.specs.declared.edge.Edge.{Edge}
use Rattle.cuts.specs.declared.run.Run.{Run}

-- A cut of edges, a cut of vertices, runs, and the bytes of routes.
pub record Buffers : Type 0 where
  pub edges : List Edge
  pub vertices : List ℕ
  pub runs : List Run
  pub routes : List ℕ
