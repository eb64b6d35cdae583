-- The reference model of a session: what is laid and what is struck, from the calls alone, and
-- what is lent with a call.
--
--   make_limit, strike_limit   the most vertices a make accepts; the most edges struck at a time
--   Model, blank, bare         an order, a capacity, edges laid and struck; with none; with none struck
--   in_force                   the graph of the edges laid and not struck
--   subject                    the graph that questions are about
--   Room                       what the memory of a make is good for
--   Lent, lent_of              all that is lent with a call
--   State                      before an accepted make, or after it
use Rattle.std.specs.Prelude.{ℕ, Bool, false, not, ◌&&◌}
use Rattle.graph.specs.Graph.{Graph, added, removed}
use Rattle.model.specs.declared.sizes.Sizes.{Sizes}

abbrev pub make_limit : ℕ
make_limit = 200

abbrev pub strike_limit : ℕ
strike_limit = 16

-- Edges are laid by join and taken up by part. A strike takes a laid edge out of force
-- without taking it up, and a lift ends that.
pub record Model : Type 0 where
  pub order : ℕ
  pub capacity : ℕ
  pub laid : ℕ → ℕ → Bool
  pub struck : ℕ → ℕ → Bool

-- A model just made: no edge.
abbrev pub blank : ℕ → ℕ → Model
blank order capacity = record { order = order; capacity = capacity; laid = λ u v. false; struck = λ u v. false }

-- A graph with room for so many edges, nothing struck.
abbrev pub bare : Graph → ℕ → Model
bare g capacity = record { order = g.order; capacity = capacity; laid = g.joined; struck = λ u v. false }

-- The graph in force: the laid edges that are not struck. `Joined` means joined in it.
abbrev pub in_force : Model → Graph
in_force m = record { order = m.order; joined = λ u v. not (m.struck u v) && m.laid u v }

-- The graph that questions are about.
abbrev pub subject : Model → Graph
subject m = in_force m

abbrev pub lay : Model → ℕ → ℕ → Model
lay m u v = record m { laid = added m.laid u v }

abbrev pub take_up : Model → ℕ → ℕ → Model
take_up m u v = record m { laid = removed m.laid u v }

abbrev pub strike_out : Model → ℕ → ℕ → Model
strike_out m u v = record m { struck = added m.struck u v }

abbrev pub lift_up : Model → ℕ → ℕ → Model
lift_up m u v = record m { struck = removed m.struck u v }

-- What the memory of a make is good for: whether it is enough for a map of so many vertices, and
-- how many edges that map then takes.
pub record Room : Type 0 where
  pub enough : ℕ → Bool
  pub capacity : ℕ → ℕ

-- All that is lent with a call: the memory of a map, which only a make takes, and a workspace.
pub record Lent : Type 0 where
  pub room : Room
  pub sizes : Sizes

abbrev pub lent_of : Room → Sizes → Lent
lent_of room sizes = record { room = room; sizes = sizes }

pub data State : Type 0 where
  unmade : State
  made : Model → State
