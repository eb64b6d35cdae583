-- What the table of refusals says of a join where there is room.
use Rattle.std.proofs.Common.{◌≡◌, ℕ, ◌-◌, ◌*◌, ◌<◌, false, Ok, ap, ◌∙◌, mul-one, arith}
use native.Mathlib.Nat.{mul-sub}
use Rattle.std.proofs.lemmas.Bool.{lt-ltb, ne_eqb, lt-leb}
use Rattle.graph.specs.Graph.{Graph, Simple, edges}
use Rattle.graph.proofs.Edges.{edges_room}
use Rattle.model.specs.Model.{bare}
use Rattle.model.specs.Table.{reply_on}
use Rattle.model.specs.declared.call.Call.TheVariants.{Join}
use Rattle.grid.specs.Rows.{pairs}

-- Two different vertices.
module _ (g : Graph) (m u v : ℕ) (hu : u < g.order) (hv : v < g.order) (ne : u ≡ v → ⊥) where
  -- A join of others is accepted where there is room.
  pub join_laid : g.joined u v ≡ false → edges g < m → Ok tt ≡ reply_on (bare g m) (Join u v)
  join_laid off free = rw (off, lt-leb m (edges g) free, lt-ltb u g.order hu, lt-ltb v g.order hv, ne_eqb u v ne)

-- A simple graph that lacks an edge has fewer edges than pairs of vertices.
pub pairs_free : (g : Graph) → Simple g → (u v : ℕ) → u < g.order → v < g.order → (u ≡ v → ⊥) → g.joined u v ≡ false → edges g < pairs g.order
pairs_free g s u v hu hv ne off =
    let n = g.order in
    let free = edges_room n g.joined u v hu hv ne off (s.symmetric v u ∙ off) in
    let e : n * (n - 1) ≡ n * n - n = mul-sub n n 1 ∙ ap (λ (x : ℕ). n * n - x) (mul-one n) in
    omega (arith, free, e)
