-- The check maps, by computing.
use Rattle.std.proofs.Common.{All, refl}
use Rattle.std.specs.List.{AllByRecursion}
use Rattle.std.proofs.lemmas.List.Elements.{All-from_recursion}
use Rattle.graph.specs.Graph.{count}
use Rattle.flows.specs.Lists.{upto, any, all}
use Rattle.flows.specs.Reach.{rounds, reached}
use Rattle.cuts.specs.Edges.{edges_of}
use Rattle.cuts.specs.Choices.{choices, smallest_from, find, least}
use Rattle.cuts.specs.Cuts.{edge_value, nearest_edge_cut, vertex_value, nearest_vertex_cut}
use Rattle.cuts.specs.Computations.{greedy, edge_runs, edge_computation, more_runs, vertex_runs, vertex_computation}
use Rattle.cuts.specs.Maps.{Computes, check_maps}

each_computed : AllByRecursion Computes check_maps
unfolding count upto any all rounds reached edges_of choices smallest_from find least edge_value nearest_edge_cut vertex_value nearest_vertex_cut greedy edge_runs edge_computation more_runs vertex_runs vertex_computation
each_computed =
    ((refl, refl), ((refl, refl), ((refl, refl), ((refl, refl), ((refl, refl), ((refl, refl), ((refl, refl), ((refl, refl), tt))))))))

pub computed : All Computes check_maps
computed = All-from_recursion Computes check_maps each_computed
