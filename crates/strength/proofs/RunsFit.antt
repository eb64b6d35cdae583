-- The runs fit: different pairs of unjoined vertices are at most as many as there are such pairs.
use Rattle.std.proofs.Common.{◌≡◌, ℕ, ◌<◌, ◌≤◌, Bool, true, not, ◌&&◌, List, [], ◌∷◌, length, sym, refl, ap, subst, ap₂, inl, inr, arith}
use Rattle.std.proofs.lemmas.Bool.{cases_Bool, and_from, not_from_false}
use Rattle.graph.specs.Graph.{Graph, Simple, edges_below, removed}
use Rattle.graph.proofs.Edges.{same_edge_swap, edges_removed}
use Rattle.cuts.specs.declared.run.Run.{Run}
use Rattle.cuts.specs.Choices.{In}
use Rattle.cuts.specs.Computations.{Computed, vertex_runs, vertex_computation}
use Rattle.cuts.specs.Cuts.{complete}
use Rattle.cuts.specs.RouteRules.{Pairwise}
use Rattle.cuts.proofs.RouteCounts.{all_in_list}
use Rattle.strength.specs.Memory.{RunsFit}
use Rattle.strength.proofs.EdgeRuns.{few_edge_runs_lem}
use Rattle.strength.proofs.RunsApart.{Differ, runs_apart}
use Rattle.strength.proofs.VertexStrength.{runs_fair, computed_runs, computed_whole}

-- A run of two different numbers below n that pass a test.
record Passing (n : ℕ) (j : ℕ → ℕ → Bool) (run : Run) : Type 0 where
  from_below : run.from < n
  to_below : run.to < n
  differ : run.from ≡ run.to → ⊥
  passes : j run.from run.to ≡ true

-- Different pairs that pass are at most as many as all that pass: each one taken away leaves one fewer.
different_pairs : (n : ℕ) (runs : List Run) (j : ℕ → ℕ → Bool) → ((u v : ℕ) → j u v ≡ j v u) → ((run : Run) → In run runs → Passing n j run) → Pairwise Differ runs
    → length runs ≤ edges_below n j
different_pairs n [] j even each apart = omega arith
different_pairs n (x ∷ runs) j even each apart =
    let p = each x (inl refl) in
    let rest = different_pairs n runs (removed j x.from x.to)
    (λ u v. ap₂ (λ (a b : Bool). a && not b) (even u v) (same_edge_swap x.from x.to u v))
    (λ y i. let q = each y (inr i) in
    record {
      from_below = q.from_below;
      to_below = q.to_below;
      differ = q.differ;
      passes = and_from _ _ q.passes (not_from_false _ (all_in_list (Differ x) y runs apart.0 i));
    })
    apart.1 in
    omega (arith, rest, edges_removed n j x.from x.to p.from_below p.to_below p.differ even p.passes)

-- What the vertex computation runs: different pairs, at most as many as are unjoined.
abbrev Fits : Graph → List Run → Type 0
Fits g runs = Pairwise Differ runs × (length runs ≤ edges_below g.order (λ u v. not (g.joined u v)))

-- The vertex runs fit.
vertex_runs_fit : (g : Graph) → Simple g → Fits g (vertex_runs g)
vertex_runs_fit g s = (
  runs_apart g s,
  different_pairs g.order (vertex_runs g) (λ u v. not (g.joined u v)) (λ u v. ap not (s.symmetric u v))
      (λ run i. let f = runs_fair g s run i in
      record { from_below = f.from_below; to_below = f.to_below; differ = f.differ; passes = not_from_false _ f.unjoined })
      (runs_apart g s),
)

-- So does what the computation hands on, which is nothing on a complete graph.
computed_fit : (g : Graph) → Simple g → Fits g (vertex_computation g).runs
computed_fit g s =
    elim (cases_Bool (complete g)) [
      | inl e ↦ subst (λ (c : Computed ℕ). Fits g c.runs) (sym (computed_whole g e)) (tt, omega arith)
      | inr e ↦ subst (λ (c : Computed ℕ). Fits g c.runs) (sym (computed_runs g e)) (vertex_runs_fit g s)
    ]

-- The edge runs are even fewer than half the vertices.
pub runs_fit : RunsFit
runs_fit g s two = let f = computed_fit g s in (omega (arith, few_edge_runs_lem g s two), f.0, f.1)
