-- No list of vertices that parts two vertices, and has neither, is shorter than their value,
-- whether or not it is a sublist of the other vertices.
use Rattle.std.proofs.Common.{◌≡◌, ℕ, ◌<◌, ◌≤◌, Bool, not, ◌&&◌, ◌||◌, List, length, filter, ap, ◌∙◌, ap₂, arith}
use Rattle.std.proofs.lemmas.Bool.{lt-ltb}
use Rattle.graph.specs.Graph.{Graph}
use Rattle.flows.specs.Lists.{upto, among}
use Rattle.flows.proofs.Reached.{reached_same}
use Rattle.cuts.specs.Edges.{without_vertices}
use Rattle.cuts.specs.Cuts.{vertices_part, others, vertex_value}
use Rattle.cuts.specs.Pairs.{VertexValueLeast}
use Rattle.cuts.proofs.Smallest.{size_least}
use Rattle.cuts.proofs.EdgeLists.{kept_count}
use Rattle.cuts.proofs.VertexLists.{count_among, among_filter}
use Rattle.cuts.proofs.VertexLaws.{kept_others}

-- The vertices of a list, ascending and each once.
tidy : Graph → List ℕ → List ℕ
tidy g d = filter (among d) (upto g.order)

-- They have the same vertices.
tidy_among : (g : Graph) (d : List ℕ) (v : ℕ) → v < g.order → among (tidy g d) v ≡ among d v
unfolding tidy
tidy_among g d v l = among_filter (among d) g.order v ∙ ap (λ (b : Bool). b && among d v) (lt-ltb v g.order l)

-- They are no more than the list is long.
tidy_length : (g : Graph) (d : List ℕ) → length (tidy g d) ≤ length d
unfolding tidy
tidy_length g d = omega (arith, kept_count (among d) g.order, count_among d g.order)

-- Without them the same is left.
tidy_left : (g : Graph) (d : List ℕ) (u v : ℕ) → u < g.order → v < g.order → (without_vertices g (tidy g d)).joined u v ≡ (without_vertices g d).joined u v
tidy_left g d u v hu hv = ap₂ (λ (x y : Bool). g.joined u v && not (x || y)) (tidy_among g d u hu) (tidy_among g d v hv)

-- So they part the same.
tidy_parts : (g : Graph) (a b : ℕ) (d : List ℕ) → a < g.order → vertices_part g a b (tidy g d) ≡ vertices_part g a b d
tidy_parts g a b d ha = ap not (reached_same g.order (without_vertices g (tidy g d)).joined (without_vertices g d).joined a ha (tidy_left g d) b)

-- The value is at most how many they are.
pub vertex_value_least_lem : VertexValueLeast
unfolding vertex_value tidy
vertex_value_least_lem g a b s ha hb ab loose d fa fb parts =
    omega (
      arith,
      tidy_length g d,
      size_least (vertices_part g a b) (others g a b) (tidy g d) (kept_others g a b (among d) fa fb) (tidy_parts g a b d ha ∙ parts),
    )
