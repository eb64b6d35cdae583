-- The nodes that wait as the items of a queue, and what the answers of the code say of them.
--
--   each                               what two equal tests say of each number
--   first_marks                        the marks after the first node is marked
--   found_at, none_at                  what was found below a bound that is the same as another
--   along_found, along_none            what the next arc with room is, in such a plan
--   value_in, found_in                 how the goal is found, in such a plan
--   taken_first                        the first of a queue is taken to be looked at
--   arcs_done                          its arcs have been looked at
use Rattle.std.proofs.Common.{◌≡◌, ℕ, ◌+◌, ◌-◌, ◌<◌, ◌≤◌, Bool, true, false, ◌||◌, eqb, List, ◌∷◌, map, length, Some, None, Option, sym, ap, ◌∙◌, subst, MatchOption}
use Rattle.graph.specs.Graph.{first}
use Rattle.graph.proofs.Firsts.{Found, first_some, first_all}
use Rattle.flows.specs.Flow.{Digraph, residual}
use Rattle.augment.specs.Trails.{Trail}
use Rattle.rows.proofs.Fresh as Fresh
use Rattle.search.specs.Goals.{way_on, goal_from, goal_noted}
use Rattle.rows.specs.Marks.{fresh}
use Rattle.search.specs.Steps.{along}
use Rattle.search.proofs.States.{State, Nobody, unmarked}
use Rattle.search.proofs.Turns.{Turn, taken, recounted, along_all}

-- Equal tests say the same of each number.
pub each : {test test' : ℕ → Bool} → test ≡ test' → (k : ℕ) → test k ≡ test' k
each e k = ap (λ (t : ℕ → Bool). t k) e

-- After all marks are cleared and s is marked, s alone is.
pub first_marks : {m m' : ℕ → Bool} (s : ℕ) → m ≡ (λ k. false) → m' ≡ (λ k. m k || eqb k s) → (k : ℕ) → m' k ≡ eqb k s
first_marks s clear with-s k = each with-s k ∙ ap (λ (t : ℕ → Bool). t k || eqb k s) clear

module _ (test : ℕ → Bool) (w : ℕ) {n n' : ℕ} (bound : n ≡ n') where
  -- What was found below a bound that is the same as another.
  pub found_at : {q : ℕ} → Some q ≡ first test w (n - w) → Found test w n' q
  found_at {q} h = first_some test w n' q (sym (h ∙ ap (λ (x : ℕ). first test w (x - w)) bound))

  -- The same where nothing was found.
  pub none_at : None ≡ first test w (n - w) → (k : ℕ) → w ≤ k → k < n' → test k ≡ false
  none_at h = first_all test w n' (sym (h ∙ ap (λ (x : ℕ). first test w (x - w)) bound))

-- A plan is as it was.
module _ {X : Type 0} (D : X → Digraph) {a b : X} (same : a ≡ b) where
  -- What its arcs say.
  module _ (f : ℕ → ℕ → Bool) (m : ℕ → Bool) (p w : ℕ) where
    -- The next fresh node to which an arc with room leads from p is the one that was.
    pub along_found : {q : ℕ} → Some q ≡ first (fresh m (along (D a) f p)) w ((D a).nodes - w) → Found (fresh m (along (D b) f p)) w (D b).nodes q
    along_found = Fresh.found_in (λ (x : X). fresh m (along (D x) f p)) (λ x. (D x).nodes) w same

    -- There is no more.
    pub along_none : None ≡ first (fresh m (along (D a) f p)) w ((D a).nodes - w) → (k : ℕ) → w ≤ k → k < (D b).nodes → fresh m (along (D b) f p) k ≡ false
    along_none = Fresh.none_in (λ (x : X). fresh m (along (D x) f p)) (λ x. (D x).nodes) w same

  -- The goal is found with q.
  module _ (f : ℕ → ℕ → Bool) (closed : ℕ → Bool) (goal : Option ℕ) (q : ℕ) where
    -- Whether it is, is as it was.
    pub value_in : {found : Bool} → found ≡ goal_from goal closed (way_on (D a) f closed q) q → found ≡ true
        → goal_from goal closed (way_on (D b) f closed q) q ≡ true
    value_in value yes_found = ap (λ (x : X). goal_from goal closed (way_on (D x) f closed q) q) (sym same) ∙ sym value ∙ yes_found

    -- And so are the notes that lead to it.
    pub found_in : (s : ℕ) (noted : List ℕ) {after : List ℕ} → after ≡ goal_noted goal closed (way_on (D a) f closed q) q noted
        → MatchOption goal ⊥ (λ t. Trail (residual (D b) f) s t (goal_noted goal closed (way_on (D b) f closed q) q noted))
        → MatchOption goal ⊥ (λ t. Trail (residual (D b) f) s t after)
    found_in s noted notes =
        subst (λ (z : List ℕ). MatchOption goal ⊥ (λ t. Trail (residual (D b) f) s t z))
        (ap (λ (x : X). goal_noted goal closed (way_on (D x) f closed q) q noted) (sym same) ∙ sym notes)

-- A node p is looked at, in a plan of n nodes that is as it was.
module _ {X : Type 0} (D : X → Digraph) {f : ℕ → ℕ → Bool} {s : ℕ} {stop : ℕ → Bool} {n p : ℕ} {m : ℕ → Bool} {before : List ℕ} where
  -- It has been taken from the queue.
  pub taken_first : {E : Type 0} (node : E → ℕ) {a b : X} {xs ys : List E} {x : E} → b ≡ a → n ≡ (D b).nodes → p ≡ node x → xs ≡ x ∷ ys
      → State (D a) f s stop Nobody (map node xs) m before
      → Turn (D b) f s stop p 0 0 (map node ys) m before (length (map node ys) + unmarked m n)
  taken_first node {b = b} {ys = ys} same nodes e items st =
      let here : State (D b) f s stop Nobody (p ∷ map node ys) m before = rw (same, e) (rw items at st) in recounted (taken here) nodes

  -- No more arc with room leads from p to a node that is not marked.
  pub arcs_done : {a b c : X} {queue : List ℕ} {v e : ℕ} → a ≡ b → c ≡ a → n ≡ (D b).nodes → None ≡ first (fresh m (along (D a) f p)) v ((D a).nodes - v)
      → Turn (D b) f s stop p v 0 queue m before e → Turn (D c) f s stop p n 0 queue m before (length queue + unmarked m n)
  arcs_done {v = v} ab ca nodes h t = rw (ca, ab) (recounted (along_all t nodes (along_none D ab f m p v h)) nodes)
