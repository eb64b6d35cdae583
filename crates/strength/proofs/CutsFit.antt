-- Cuts are small: no pair has a value above the degree of an end.
use Rattle.std.proofs.Common.{◌≡◌, ℕ, ◌-◌, ◌<◌, ◌≤◌, true, false, length, ap, ⊎_elim, arith}
use Rattle.std.proofs.lemmas.Bool.{cases_Bool, cond-true}
use Rattle.graph.specs.Graph.{Graph, degree}
use Rattle.graph.proofs.Edges.{few_edges_lem}
use Rattle.cuts.specs.Cuts.{nearest_edge_cut, nearest_vertex_cut, complete}
use Rattle.cuts.specs.Computations.{Computed, edge_computation, vertex_computation}
use Rattle.cuts.proofs.EdgeNearest.{nearest_edge_cut_laws}
use Rattle.cuts.proofs.VertexFlow.{nearest_cut}
use Rattle.cuts.proofs.VertexLaws.{vertex_value_laws_lem}
use Rattle.strength.specs.Memory.{CutsFit}
use Rattle.strength.proofs.EdgeComputed.{edge_pair_lem, edge_cut_found_lem, edge_value_laws_lem}
use Rattle.strength.proofs.VertexFew.{vertex_pair_lem}
use Rattle.strength.proofs.VertexFound.{vertex_cut_found_lem}

-- A complete graph has no cut.
complete_cut : (g : Graph) → complete g ≡ true → length (vertex_computation g).cut ≡ 0
unfolding vertex_computation
complete_cut g h = ap (λ (x : Computed ℕ). length x.cut) (cond-true (complete g) _ _ h)

pub cuts_fit : CutsFit
cuts_fit g simple two = (by_edges, by_vertices, edge_fits, vertex_fits)
  where
    small : (u : ℕ) → degree g u < g.order
    small = (few_edges_lem g simple).1

    by_edges : (a b : ℕ) → a < g.order → b < g.order → (a ≡ b → ⊥) → length (nearest_edge_cut g a b) ≤ g.order - 1
    by_edges a b ha hb ne =
        let laws = nearest_edge_cut_laws g a b simple ha hb ne in
        omega (arith, (laws.1 _ laws.0).1, (edge_value_laws_lem g a b simple ha hb ne).1, small a)

    by_vertices : (a b : ℕ) → a < g.order → b < g.order → (a ≡ b → ⊥) → g.joined a b ≡ false → length (nearest_vertex_cut g a b) ≤ g.order - 1
    by_vertices a b ha hb ne off =
        let laws = nearest_cut g a b simple ha hb ne off in
        omega (arith, (laws.1 _ laws.0).1, (vertex_value_laws_lem g a b simple ha hb ne off).1, small a)

    edge_fits : length (edge_computation g).cut ≤ g.order - 1
    edge_fits =
        let p = edge_pair_lem g simple two in
        omega (arith, (edge_cut_found_lem g simple two).1, p.6, (edge_value_laws_lem g p.0 p.1 simple p.3 p.4 p.5).1, small p.0)

    vertex_fits : length (vertex_computation g).cut ≤ g.order - 1
    vertex_fits =
        ⊎_elim
        (λ h. omega (arith, complete_cut g h))
        (λ h. let p = vertex_pair_lem g simple two h in
        omega (arith, (vertex_cut_found_lem g simple two h).1, p.7, (vertex_value_laws_lem g p.0 p.1 simple p.3 p.4 p.5 p.6).1, small p.0))
        (cases_Bool (complete g))
