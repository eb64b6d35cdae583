-- What a call tells: its answer, with what stands in the buffers for it.
--
--   Told, plain           an answer with its lists; an answer that has none
--   edges_shown, ..       how many items of each list an answer has
--   told                  an answer, with its lists read off the buffers
--   Said, said            what a call tells, or why it was refused
--   left_by               the buffers after a call
use Rattle.std.specs.Prelude.{ℕ, List, [], take, Ok, Err, Result}
use Rattle.flows.specs.Lists.{in_front}
use Rattle.cuts.specs.declared.edge.Edge.{Edge}
use Rattle.cuts.specs.declared.run.Run.{Run}
use Rattle.cuts.specs.RouteBytes.{bytes_of, routes_in}
use Rattle.model.specs.declared.call.Answer.{Answer}
use Rattle.model.specs.declared.refusal.Refusal.{Refusal}
use Rattle.workspace.specs.Buffers.{Buffers}

-- An answer with its cut, its runs and its routes; a list that it does not have is empty.
pub record Told : Type 0 where
  pub answer : Answer
  pub edges : List Edge
  pub vertices : List ℕ
  pub runs : List Run
  pub routes : List (List ℕ)

-- An answer that has no list.
abbrev pub plain : Answer → Told
plain a = record { answer = a; edges = []; vertices = []; runs = []; routes = [] }

-- How many edges of a cut an answer has.
abbrev pub edges_shown : Answer → ℕ
edges_shown a = 0

-- How many vertices of a cut.
abbrev pub vertices_shown : Answer → ℕ
vertices_shown a = 0

-- How many runs.
abbrev pub runs_shown : Answer → ℕ
runs_shown a = 0

-- How many routes.
abbrev pub routes_shown : Answer → ℕ
routes_shown a = 0

-- An answer with what stands in the buffers for it.
abbrev pub told : Answer → Buffers → Told
told a b = record {
  answer = a;
  edges = take (edges_shown a) b.edges;
  vertices = take (vertices_shown a) b.vertices;
  runs = take (runs_shown a) b.runs;
  routes = routes_in (routes_shown a) b.routes;
}

-- What a call said: what it tells, or why it was refused.
abbrev pub Said : Type 0
Said = Result Told Refusal

abbrev pub said : Result Answer Refusal → Buffers → Said
said (Ok a) b = Ok (told a b)
said (Err r) b = Err r

-- The buffers after a call: what it tells stands in front, and all else is as it was.
abbrev pub left_by : Said → Buffers → Buffers
left_by (Ok t) b = record {
  edges = in_front t.edges b.edges;
  vertices = in_front t.vertices b.vertices;
  runs = in_front t.runs b.runs;
  routes = in_front (bytes_of t.routes) b.routes;
}
left_by (Err r) b = b
