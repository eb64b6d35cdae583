-- The parts of a workspace, as clauses see them.
--
--   buffers      what stands in the buffers
--   sizes_of     how many entries each part has
--   SameMemory   the same memory is still lent, wherever it lies
--   Untouched    nothing at all was written
use Rattle.std.specs.Prelude.{◌≡◌, length}
use Rattle.model.specs.declared.sizes.Sizes.{Sizes}
use Rattle.workspace.specs.declared.Workspace.{Workspace}
use Rattle.workspace.specs.Buffers.{Buffers}

-- What stands in the buffers.
abbrev pub buffers : Workspace → Buffers
buffers w = record { edges = w.edges.now; vertices = w.vertices.now; runs = w.runs.now; routes = w.routes.now }

-- How many entries each part has.
abbrev pub sizes_of : Workspace → Sizes
sizes_of w = record {
  words = length w.words.now;
  numbers = length w.numbers.now;
  nodes = length w.nodes.now;
  steps = length w.steps.now;
  edges = length w.edges.now;
  vertices = length w.vertices.now;
  runs = length w.runs.now;
  routes = length w.routes.now;
}

-- The same memory is still lent.
abbrev pub SameMemory : Workspace → Workspace → Type 0
SameMemory old new =
    (new.words.ghost_name ≡ old.words.ghost_name)
    × (new.numbers.ghost_name ≡ old.numbers.ghost_name)
    × (new.nodes.ghost_name ≡ old.nodes.ghost_name)
    × (new.steps.ghost_name ≡ old.steps.ghost_name)
    × (new.edges.ghost_name ≡ old.edges.ghost_name)
    × (new.vertices.ghost_name ≡ old.vertices.ghost_name)
    × (new.runs.ghost_name ≡ old.runs.ghost_name)
    × (new.routes.ghost_name ≡ old.routes.ghost_name)

-- Nothing at all was written.
abbrev pub Untouched : Workspace → Workspace → Type 0
Untouched old new =
    (buffers new ≡ buffers old)
    × (new.words.now ≡ old.words.now)
    × (new.numbers.now ≡ old.numbers.now)
    × (new.nodes.now ≡ old.nodes.now)
    × (new.steps.now ≡ old.steps.now)
