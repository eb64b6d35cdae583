-- What is answered when the value and the nearest cut of two vertices are asked for.
--
--   ends_reply     whether enough memory is lent, and two numbers are two vertices
--   edge_ends      the same, of what an edge question needs
--   loose_ends     the same, of what a vertex question needs, and the two are not joined
--   answered       a value, unless the question is refused
--   edge_reply, vertex_reply         what the two questions are answered
--   edge_cut_in, vertex_cut_in       the buffers after the two questions
use Rattle.std.specs.Prelude.{ℕ, cond, List, Ok, Err, Result}
use Rattle.graph.specs.Graph.{Graph}
use Rattle.model.specs.Sizes.{below}
use Rattle.model.specs.Table.{Reply}
use Rattle.model.specs.declared.refusal.Refusal.{Refusal}
use Rattle.model.specs.declared.refusal.Refusal.TheVariants.{ShortMemory, Adjacent}
use Rattle.model.specs.declared.sizes.Sizes.{Sizes}
use Rattle.store.specs.Ends.{ends_reply as two_reply}
use Rattle.flows.specs.Lists.{in_front}
use Rattle.cuts.specs.declared.edge.Edge.{Edge}
use Rattle.cuts.specs.Cuts.{edge_value, vertex_value}
use Rattle.workspace.specs.Buffers.{Buffers}
use Rattle.connectivity.specs.Needed.{edges_needed, vertices_needed}

-- The smallest number that fits: memory, and then what is asked of any two numbers.
abbrev pub ends_reply : Sizes → Sizes → ℕ → ℕ → ℕ → Reply
ends_reply lent needed order a b = cond (below lent needed) (Err ShortMemory) (two_reply order a b)

abbrev pub edge_ends : Sizes → Graph → ℕ → ℕ → Reply
edge_ends lent g a b = ends_reply lent (edges_needed g.order) g.order a b

-- A pair that is joined has no vertex cut; where nothing else fits, that is the reason.
abbrev pub then_loose : Reply → Graph → ℕ → ℕ → Reply
then_loose (Ok _) g a b = cond (g.joined a b) (Err Adjacent) (Ok tt)
then_loose (Err e) g a b = Err e

abbrev pub loose_ends : Sizes → Graph → ℕ → ℕ → Reply
loose_ends lent g a b = then_loose (ends_reply lent (vertices_needed g.order) g.order a b) g a b

-- An accepted question is answered by the value.
abbrev pub answered : Reply → ℕ → Result ℕ Refusal
answered (Ok _) v = Ok v
answered (Err e) v = Err e

-- The edge value of two vertices, and the vertex value of two that are not joined.
abbrev pub edge_reply : Sizes → Graph → ℕ → ℕ → Result ℕ Refusal
edge_reply lent g a b = answered (edge_ends lent g a b) (edge_value g a b)

abbrev pub vertex_reply : Sizes → Graph → ℕ → ℕ → Result ℕ Refusal
vertex_reply lent g a b = answered (loose_ends lent g a b) (vertex_value g a b)

-- The cut stands in front of the buffer; a refused question leaves the buffer as it was.
abbrev pub cut_in : {X : Type 0} → Result ℕ Refusal → List X → List X → List X
cut_in (Ok v) cut buffer = in_front cut buffer
cut_in (Err e) cut buffer = buffer

-- Each question has its own buffer for its cut, and leaves the other buffers as they were.
abbrev pub edge_cut_in : Result ℕ Refusal → List Edge → Buffers → Buffers
edge_cut_in r cut b = record b { edges = cut_in r cut b.edges }

abbrev pub vertex_cut_in : Result ℕ Refusal → List ℕ → Buffers → Buffers
vertex_cut_in r cut b = record b { vertices = cut_in r cut b.vertices }
