-- Routes are no more than the value of their ends: the nearest cut parts these.
use Rattle.std.proofs.Common.{arith}
use Rattle.cuts.specs.Cuts.{vertices_part, others, nearest_edge_cut, nearest_vertex_cut}
use Rattle.cuts.specs.RouteRules.{NoMoreEdgeRoutes, NoMoreVertexRoutes}
use Rattle.cuts.proofs.Smallest.{smallest_each}
use Rattle.cuts.proofs.EdgeNearest.{nearest_edge_cut_laws}
use Rattle.cuts.proofs.RouteMeets.{edge_routes_few, vertex_routes_few}
use Rattle.cuts.proofs.VertexLaws.{no_end}
use Rattle.cuts.proofs.VertexFlow.{nearest_cut}

-- Edge routes.
pub no_more_edge_routes_lem : NoMoreEdgeRoutes
no_more_edge_routes_lem g a b routes simple ha hb ne rules =
    let laws = nearest_edge_cut_laws g a b simple ha hb ne in
    let near = laws.1 (nearest_edge_cut g a b) laws.0 in
    omega (arith, edge_routes_few g simple a b ha routes rules (nearest_edge_cut g a b) near.0, near.1)

-- Vertex routes of an unjoined pair; the cut has neither end.
pub no_more_vertex_routes_lem : NoMoreVertexRoutes
no_more_vertex_routes_lem g a b routes simple ha hb ne loose rules =
    let laws = nearest_cut g a b simple ha hb ne loose in
    let near = laws.1 (nearest_vertex_cut g a b) laws.0 in
    let ends = no_end g a b (nearest_vertex_cut g a b) (smallest_each (vertices_part g a b) (others g a b) _ laws.0).0 in
    omega (arith, vertex_routes_few g simple a b ha routes rules (nearest_vertex_cut g a b) ends.0 ends.1 near.0, near.1)
