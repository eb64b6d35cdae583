-- How much of a workspace is lent with a call, and how much the call needs.
--
--   no_sizes     nothing at all
--   work_sizes   the work memory that a question needs, whatever the graph
--   needed       how much a call on a graph needs
--   below        less is lent than is needed
use Rattle.std.specs.Prelude.{Bool, ◌||◌, nat_lt}
use Rattle.graph.specs.Graph.{Graph}
use Rattle.model.specs.declared.call.Call.{Call}
use Rattle.model.specs.declared.sizes.Sizes.{Sizes}

-- Nothing at all.
abbrev pub no_sizes : Sizes
no_sizes = record { words = 0; numbers = 0; nodes = 0; steps = 0; edges = 0; vertices = 0; runs = 0; routes = 0 }

-- 4,096 words, 2,048 numbers, and 1,024 cells for each kind of item that waits in a search.
abbrev pub work_sizes : Sizes
work_sizes = record no_sizes { words = 4096; numbers = 2048; nodes = 1024; steps = 1024 }

-- How much a call on a graph needs. Edits need nothing.
abbrev pub needed : Graph → Call → Sizes
needed g c = no_sizes

-- One of the sizes is below what is needed.
abbrev pub below : Sizes → Sizes → Bool
below s t =
    nat_lt s.words t.words || (nat_lt s.numbers t.numbers || (nat_lt s.nodes t.nodes || (nat_lt s.steps t.steps
    || (nat_lt s.edges t.edges || (nat_lt s.vertices t.vertices || (nat_lt s.runs t.runs || nat_lt s.routes t.routes))))))
