-- The cut of the vertex computation is a vertex cut of the strength's size and parts the named
-- pair; its runs have the values of their pairs.
use Rattle.std.proofs.Common.{◌≡◌, ℕ, ◌<◌, true, false, List, length, Some, sym, ap, ◌∙◌, subst, inl, inr}
use Rattle.std.proofs.lemmas.Bool.{cases_Bool, cond-true}
use Rattle.graph.specs.Graph.{Graph, Simple}
use Rattle.cuts.specs.declared.run.Run.{Run}
use Rattle.cuts.specs.Cuts.{vertices_part, others, nearest_vertex_cut, complete}
use Rattle.cuts.specs.Choices.{In}
use Rattle.cuts.specs.Computations.{Computed, least_value, first_with, vertex_runs, vertex_computation}
use Rattle.cuts.proofs.Smallest.{Sub, smallest_each}
use Rattle.cuts.proofs.VertexLists.{sub_among}
use Rattle.cuts.proofs.VertexLaws.{others_are, no_end}
use Rattle.cuts.proofs.VertexFlow.{nearest_cut}
use Rattle.cuts.proofs.Parting.{vertices_part_by_routes_lem, vertex_cut_by_routes_lem}
use Rattle.strength.specs.Strength.{VertexRunsTrue, VertexCutFound, VertexCutParts}
use Rattle.strength.proofs.VertexFew.{named}
use Rattle.strength.proofs.VertexStrength.{runs_fair, computed_runs}

-- The named pair and the cut: two different vertices, and as many others as the strength, which part them.
record Shown (g : Graph) : Type 0 where
  from : ℕ
  to : ℕ
  named : (vertex_computation g).pair ≡ Some (from, to)
  from_in : from < g.order
  to_in : to < g.order
  differ : from ≡ to → ⊥
  inner : Sub (vertex_computation g).cut (others g from to)
  parted : vertices_part g from to (vertex_computation g).cut ≡ true
  sized : length (vertex_computation g).cut ≡ (vertex_computation g).strength

-- They are the first run of the least value and its nearest cut.
vertex_shown : (g : Graph) → Simple g → complete g ≡ false → Shown g
vertex_shown g simple h =
    let whole = computed_runs g h in
    let r = first_with (least_value g.order (vertex_runs g)) (vertex_runs g) in
    let n = named g simple h in
    let f = runs_fair g simple r n.0 in
    let laws = nearest_cut g r.from r.to simple f.from_below f.to_below f.differ f.unjoined in
    let near = laws.1 (nearest_vertex_cut g r.from r.to) laws.0 in
    let sub = (smallest_each (vertices_part g r.from r.to) (others g r.from r.to) _ laws.0).0 in
    let cut = ap (λ (x : Computed ℕ). x.cut) whole in
    record {
      from = r.from;
      to = r.to;
      named = ap (λ (x : Computed ℕ). x.pair) whole;
      from_in = f.from_below;
      to_in = f.to_below;
      differ = f.differ;
      inner = subst (λ (c : List ℕ). Sub c (others g r.from r.to)) (sym cut) sub;
      parted = ap (vertices_part g r.from r.to) cut ∙ near.0;
      sized = ap length cut ∙ near.1 ∙ sym f.worth ∙ n.1 ∙ sym (ap (λ (x : Computed ℕ). x.strength) whole);
    }

-- The cut is a vertex cut of the strength's size.
pub vertex_cut_found_lem : VertexCutFound
vertex_cut_found_lem g simple two h =
    let s = vertex_shown g simple h in
    let ends = no_end g s.from s.to (vertex_computation g).cut s.inner in
    let none = (vertices_part_by_routes_lem g s.from s.to _ simple s.from_in).0.0 s.parted in
    ((vertex_cut_by_routes_lem g _ simple).0.1 (s.from, s.to, (s.from_in, ends.0), (s.to_in, ends.1), s.differ, none), s.sized)

-- It is made of vertices of the graph, has neither end of the named pair, and parts them.
pub vertex_cut_parts_lem : VertexCutParts
vertex_cut_parts_lem g simple two h =
    let s = vertex_shown g simple h in
    let ends = no_end g s.from s.to (vertex_computation g).cut s.inner in
    (s.from, s.to, s.named, λ v m. (others_are g s.from s.to v (sub_among s.inner v m)).0, ends.0, ends.1, s.parted)

-- A complete graph has no run.
no_run : (g : Graph) → complete g ≡ true → (r : Run) → In r (vertex_computation g).runs → ⊥
unfolding vertex_computation
no_run g full r i = subst (λ (c : Computed ℕ). In r c.runs) (cond-true (complete g) _ _ full) i

-- Each run has the value of its pair, two vertices that are not joined.
pub vertex_runs_true_lem : VertexRunsTrue
vertex_runs_true_lem g simple two r i =
    elim (cases_Bool (complete g)) [
      | inl full ↦ absurd (no_run g full r i)
      | inr h ↦
          (let f = runs_fair g simple r (subst (λ (c : Computed ℕ). In r c.runs) (computed_runs g h) i) in
          (f.from_below, f.to_below, f.differ, f.unjoined, f.worth))
    ]
