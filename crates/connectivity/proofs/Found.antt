-- What a search found is a path among the nodes, and pushing along it adds one.
--
--   read_nodes    what is read back from the notes are heads of the arcs
--   read_held     after a push along them the memory holds the run with a unit more
--   value_most    a flow's value is at most the number of nodes
use Rattle.std.proofs.Common.{◌≡◌, ℕ, ◌<◌, ◌≤◌, Bool, List, reverse, All, subst, ◌∙◌, arith}
use Rattle.graph.specs.Graph.{node_limit}
use Rattle.graph.proofs.Counts.{count_most}
use Rattle.flows.specs.Flow.{Digraph, Sound, Flow, residual, pushed}
use Rattle.flows.proofs.Largest.{residual_ranged}
use Rattle.flows.proofs.Routes.{walk_inside}
use Rattle.flows.proofs.Push.{push_adds_one_lem}
use Rattle.flows.proofs.Ends.{pushed_none_out, pushed_none_in}
use Rattle.augment.specs.Trails.{Trail, walk_back, pushed_back}
use Rattle.augment.proofs.Trails.{read_reversed, all_reverse}
use Rattle.augment.proofs.PushBacks.{pushed_is_back}
use Rattle.rows.specs.Flow.{carried}
use Rattle.rows.specs.declared.flow.Arcs.{Arcs}
use Rattle.connectivity.specs.declared.run.Searching.{Searching}
use Rattle.connectivity.specs.Runs.{Held, grown}

-- A unit leaves s for each node at most.
pub value_most : (d : Digraph) (s t : ℕ) (f : ℕ → ℕ → Bool) (v : ℕ) → Flow d s t f v → v ≤ d.nodes
value_most d s t f v fl = omega (arith, fl.value, count_most (λ q. f s q) d.nodes)

-- A run and what the memory holds of it, and a trail from end to end that was noted.
module _ (d : Digraph) (run : Searching) (arcs : Arcs) (small : d.nodes ≤ node_limit) (sound : Sound d) (held : Held d run arcs) (hs : run.from < d.nodes)
    (before : List ℕ) (trail : Trail (residual d (carried arcs)) run.from run.to before) where
  -- The nodes of the trail are among the nodes.
  trail_nodes : All (λ x. x < d.nodes) trail.nodes
  trail_nodes =
      walk_inside (residual d (carried arcs)) d.nodes (λ p q e. (residual_ranged d (carried arcs) sound held.flow.along p q e).1)
      run.from run.to trail.nodes hs trail.route.walk

  -- So they are numbers that the notes have a place for.
  trail_small : All (λ x. x < node_limit) trail.nodes
  trail_small k z l = omega (arith, small, trail_nodes k z l)

  -- What is read back is the trail turned round.
  read : reverse trail.nodes ≡ walk_back before run.from run.to node_limit
  read = read_reversed (residual d (carried arcs)) run.from run.to before node_limit trail trail_small

  -- Heads of the arcs are read back.
  pub read_nodes : All (λ x. x < arcs.heads) (walk_back before run.from run.to node_limit)
  read_nodes =
      rw held.heads (subst (λ (xs : List ℕ). All (λ x. x < d.nodes) xs) read (all_reverse (λ x. x < d.nodes) trail.nodes trail_nodes))

  -- After a push back along them the memory holds the run with a unit more.
  module _ (apart : run.from ≡ run.to → ⊥) (next : Arcs) (size : next.heads ≡ arcs.heads)
      (after : carried next ≡ pushed_back (carried arcs) (walk_back before run.from run.to node_limit)) where
    -- It is a push along the trail.
    along : carried next ≡ pushed (carried arcs) trail.nodes
    along = after ∙ pushed_is_back (residual d (carried arcs)) run.from run.to before node_limit trail (carried arcs) trail_small

    pub read_held : Held d (grown run) next
    read_held = record {
      heads = size ∙ held.heads;
      flow = rw along (push_adds_one_lem d run.from run.to (carried arcs) run.value trail.nodes sound held.flow hs apart trail.route);
      starts = rw along (pushed_none_in (residual d (carried arcs)) run.from run.to (carried arcs) trail.nodes trail.route.walk trail.route.apart held.starts);
      ends = rw along (pushed_none_out (residual d (carried arcs)) run.from run.to (carried arcs) trail.nodes trail.route.walk trail.route.apart held.ends);
    }
