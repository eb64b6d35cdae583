-- What stays true of a search: each marked node has a trail, and is waiting or leads to marked
-- nodes only.
--
--   Seen      a marked node is reached, by a trail over marked nodes
--   State     what holds between two nodes, and while the nodes that Cur says are looked at
--   begun     the start is marked and waits
--   ended     nothing waits any more
--   Entry     one node more is found, marked and noted
--   entered   it waits too
use Rattle.std.proofs.Common.{◌≡◌, ℕ, Option, Some, None, ◌+◌, ◌<◌, ◌≤◌, Bool, true, false, not, ◌||◌, eqb, ◌⊎◌, List, [], ◌∷◌, ◌++◌, length, set, sym, refl, ap, ◌∙◌, subst, inl, inr, ⊎_elim, arith, length-append}
use Rattle.std.proofs.Math.Bool.{or-false}
use Rattle.std.proofs.lemmas.Bool.{both_ways, eq-eqb, eqb-true, ne_eqb, or_cases, or_left, or_right, not_from_true, not_from_false}
use Rattle.graph.specs.Graph.{count}
use Rattle.graph.proofs.Counts.{count_one, count_miss}
use Rattle.flows.specs.Lists.{among}
use Rattle.flows.specs.Routes.{Route}
use Rattle.flows.specs.Flow.{Digraph, residual, residual_side}
use Rattle.flows.proofs.Lists.{any_nil, among_one, among_push, never_true}
use Rattle.flows.proofs.Reached.{reached_self, reached_step, reached_is}
use Rattle.flows.proofs.Routes.{walk_push, apart_push}
use Rattle.augment.specs.Trails.{Noted, Trail}
use Rattle.search.proofs.Notes.{noted_still, noted_push}

-- How many numbers below n are not marked.
unfoldable pub unmarked : (ℕ → Bool) → ℕ → ℕ
unmarked m n = count (λ k. not (m k)) n

-- Reached, by a trail all of whose nodes are marked.
pub record Seen (d : Digraph) (f : ℕ → ℕ → Bool) (s : ℕ) (m : ℕ → Bool) (before : List ℕ) (q : ℕ) : Type 0 where
  pub reached : residual_side d f s q ≡ true
  pub nodes : List ℕ
  pub route : Route (residual d f) s q nodes
  pub noted : Noted before nodes
  pub within : (v : ℕ) → among nodes v ≡ true → m v ≡ true

-- Each residual step out of p leads to a marked node.
pub record Done (d : Digraph) (f : ℕ → ℕ → Bool) (m : ℕ → Bool) (p : ℕ) : Type 0 where
  pub all : (q : ℕ) → q < d.nodes → residual d f p q ≡ true → m q ≡ true

-- The queue and the nodes that are not marked are no more than the nodes, and no marked node is one at
-- which the search leaves off, as `stop` says.
pub record State (d : Digraph) (f : ℕ → ℕ → Bool) (s : ℕ) (stop : ℕ → Bool) (Cur : ℕ → Type 0) (queue : List ℕ) (m : ℕ → Bool) (before : List ℕ)
    : Type 0 where
  pub below : s < d.nodes
  pub seen : (q : ℕ) → m q ≡ true → Seen d f s m before q
  pub start : m s ≡ true
  pub queued : (q : ℕ) → among queue q ≡ true → m q ≡ true
  pub left : length queue + unmarked m d.nodes ≤ d.nodes
  pub off : (q : ℕ) → m q ≡ true → stop q ≡ false
  pub shut : (p : ℕ) → m p ≡ true → (among queue p ≡ true) ⊎ (Done d f m p ⊎ Cur p)

-- No node is looked at.
abbrev pub Nobody : ℕ → Type 0
Nobody x = ⊥

-- Where a search leaves off when it finds a node: at the goal, or at an open node. Without a goal it never
-- does.
abbrev pub leaves_off : Option ℕ → (ℕ → Bool) → ℕ → Bool
leaves_off None closed q = false
leaves_off (Some t) closed q = eqb q t || not (closed q)

-- At no node a search leaves off.
abbrev pub nowhere : ℕ → Bool
nowhere x = false

module _ {d : Digraph} {f : ℕ → ℕ → Bool} {s : ℕ} {stop : ℕ → Bool} {queue : List ℕ} {m : ℕ → Bool} {before : List ℕ} where
  -- A search that leaves off nowhere has marked the same.
  pub unstopped : {Cur : ℕ → Type 0} → State d f s stop Cur queue m before → State d f s nowhere Cur queue m before
  unstopped st = record {
    below = st.below;
    seen = st.seen;
    start = st.start;
    queued = st.queued;
    left = st.left;
    off = λ q h. refl;
    shut = st.shut;
  }

  -- At first the start alone is marked, and waits.
  pub begun : s < d.nodes → ((k : ℕ) → m k ≡ eqb k s) → stop s ≡ false → queue ≡ s ∷ [] → State d f s stop Nobody queue m before
  unfolding unmarked
  begun l with-s goes alone =
      subst (λ (z : List ℕ). State d f s stop Nobody z m before) (sym alone) (record {
        below = l;
        seen = λ q h. let e : q ≡ s = eqb-true q s (sym (with-s q) ∙ h) in subst (λ (x : ℕ). Seen d f s m before x) (sym e) first_seen;
        start = here;
        queued = λ q h. with-s q ∙ sym (among_one s q) ∙ h;
        left = omega (arith, count_miss (λ k. not (m k)) s d.nodes l (not_from_true (m s) here));
        off = λ q h. ap stop (eqb-true q s (sym (with-s q) ∙ h)) ∙ goes;
        shut = λ p h. inl (among_one s p ∙ sym (with-s p) ∙ h);
      })
    where
      -- The start is marked.
      here : m s ≡ true
      here = with-s s ∙ eq-eqb s s refl

      -- It is a trail by itself.
      first_seen : Seen d f s m before s
      first_seen = record {
        reached = reached_self d.nodes (residual d f) s l;
        nodes = s ∷ [];
        route = record { walk = (refl, refl); apart = (any_nil (eqb s), tt) };
        noted = tt;
        within = λ v h. with-s v ∙ sym (among_one s v) ∙ h;
      }

  -- A trail leads to each marked node.
  pub found_here : {Cur : ℕ → Type 0} {q : ℕ} → State d f s stop Cur queue m before → m q ≡ true → Trail (residual d f) s q before
  found_here {q = q} st h = let y = st.seen q h in record { nodes = y.nodes; route = y.route; noted = y.noted }

  -- When nothing waits, what is marked is what is reached.
  pub ended : queue ≡ [] → State d f s stop Nobody queue m before → (q : ℕ) → m q ≡ residual_side d f s q
  ended empty st =
      reached_is d.nodes (residual d f) s st.below m st.start
      (λ p q _ l h e. ⊎_elim
      (λ a. absurd (both_ways _ (any_nil (eqb p)) (ap (λ (z : List ℕ). among z p) (sym empty) ∙ a)))
      (⊎_elim (λ o. o.all q l e) (λ z. absurd z))
      (st.shut p h))
      (λ q h. (st.seen q h).reached)

  -- Then no node at which the search leaves off is reached.
  pub missed : queue ≡ [] → State d f s stop Nobody queue m before → (t : ℕ) → stop t ≡ true → residual_side d f s t ≡ false
  missed empty st t h = sym (ended empty st t) ∙ never_true (m t) (λ e. both_ways (stop t) (st.off t e) h)

-- A residual step leads from a marked node p to a node q that is not marked. Now q is marked, and
-- there is room to note p for it.
pub record Entry (d : Digraph) (f : ℕ → ℕ → Bool) (s : ℕ) (stop : ℕ → Bool) (Cur : ℕ → Type 0) (queue : List ℕ) (m m' : ℕ → Bool) (before : List ℕ)
    (p q : ℕ) : Type 0 where
  pub state : State d f s stop Cur queue m before
  pub from : m p ≡ true
  pub free : m q ≡ false
  pub node : q < d.nodes
  pub step : residual d f p q ≡ true
  pub wide : q < length before
  pub with_q : (k : ℕ) → m' k ≡ (m k || eqb k q)

module _ {d : Digraph} {f : ℕ → ℕ → Bool} {s : ℕ} {stop : ℕ → Bool} {Cur : ℕ → Type 0} {queue : List ℕ} {m m' : ℕ → Bool} {before : List ℕ} {p q : ℕ}
    (new : Entry d f s stop Cur queue m m' before p q) where
  -- What was marked is.
  pub grown : (k : ℕ) → m k ≡ true → m' k ≡ true
  grown k h = new.with_q k ∙ or_left (m k) (eqb k q) h

  -- So is q.
  pub new_marked : m' q ≡ true
  new_marked = new.with_q q ∙ or_right (m q) (eqb q q) (eq-eqb q q refl)

  -- And nothing else.
  pub split : (k : ℕ) → m' k ≡ true → (k ≡ q) ⊎ (m k ≡ true)
  split k h = ⊎_elim inr (λ e. inl (eqb-true k q e)) (or_cases (m k) (eqb k q) (sym (new.with_q k) ∙ h))

  -- No trail so far goes over q.
  clear_of : (x : ℕ) (y : Seen d f s m before x) → among y.nodes q ≡ false
  clear_of x y = never_true _ (λ h. both_ways (m q) new.free (y.within q h))

  -- So the trails so far stay as they are.
  still : (x : ℕ) → Seen d f s m before x → Seen d f s m' (set before q p) x
  still x y = record {
    reached = y.reached;
    nodes = y.nodes;
    route = y.route;
    noted = noted_still before q p y.nodes (clear_of x y) y.noted;
    within = λ v h. grown v (y.within v h);
  }

  -- The trail to p, made longer by q.
  longer : Seen d f s m before p → Seen d f s m' (set before q p) q
  longer y = record {
    reached = reached_step d.nodes (residual d f) s new.state.below p q new.node y.reached new.step;
    nodes = y.nodes ++ (q ∷ []);
    route = record {
      walk = walk_push (residual d f) s p q y.nodes y.route.walk new.step;
      apart = apart_push y.nodes q y.route.apart (clear_of p y);
    };
    noted = noted_push (residual d f) s before q p y.nodes new.wide y.route.walk (clear_of p y) y.noted;
    within = λ v h. ⊎_elim (λ a. grown v (y.within v a)) (λ e. new.with_q v ∙ or_right (m v) (eqb v q) e)
        (or_cases (among y.nodes v) (eqb v q) (sym (among_push y.nodes q v) ∙ h));
  }

  -- A trail leads to q.
  pub trail : Trail (residual d f) s q (set before q p)
  trail = let y = longer (new.state.seen p new.from) in record { nodes = y.nodes; route = y.route; noted = y.noted }

  -- The same of a search that leaves off nowhere.
  pub free_of : Entry d f s nowhere Cur queue m m' before p q
  free_of = record { state = unstopped new.state; from = new.from; free = new.free; node = new.node; step = new.step; wide = new.wide; with_q = new.with_q }

  -- One node less is not marked.
  pub fewer : unmarked m d.nodes ≡ unmarked m' d.nodes + 1
  unfolding unmarked
  fewer =
      count_one (λ k. not (m' k)) (λ k. not (m k)) q d.nodes new.node (not_from_true (m' q) new_marked) (not_from_false (m q) new.free)
      (λ k _ ne. let e = new.with_q k in let n = ne_eqb k q ne in grind (arith, or-false))

  -- So what waits is fewer than the nodes.
  pub roomy : length queue < d.nodes
  roomy = omega (arith, new.state.left, fewer)

  -- Each marked node has a trail.
  all_seen : (x : ℕ) → m' x ≡ true → Seen d f s m' (set before q p) x
  all_seen x h =
      ⊎_elim
      (λ e. subst (λ (y : ℕ). Seen d f s m' (set before q p) y) (sym e) (longer (new.state.seen p new.from)))
      (λ o. still x (new.state.seen x o))
      (split x h)

  -- Each marked node waits, has been looked at or is looked at.
  all_shut : (x : ℕ) → m' x ≡ true → (among (queue ++ (q ∷ [])) x ≡ true) ⊎ (Done d f m' x ⊎ Cur x)
  all_shut x h =
      ⊎_elim
      (λ e. inl (among_push queue q x ∙ or_right (among queue x) (eqb x q) (eq-eqb x q e)))
      (λ o. ⊎_elim
      (λ a. inl (among_push queue q x ∙ or_left (among queue x) (eqb x q) a))
      (λ b. inr (⊎_elim (λ o. inl (record { all = λ k l e. grown k (o.all k l e) })) inr b))
      (new.state.shut x o))
      (split x h)

  -- Unless the search leaves off at q, it goes on with q waiting.
  pub entered : stop q ≡ false → State d f s stop Cur (queue ++ (q ∷ [])) m' (set before q p)
  entered ng = record {
    below = new.state.below;
    seen = all_seen;
    start = grown s new.state.start;
    queued = λ x h. ⊎_elim (λ a. grown x (new.state.queued x a)) (λ e. new.with_q x ∙ or_right (m x) (eqb x q) e)
        (or_cases (among queue x) (eqb x q) (sym (among_push queue q x) ∙ h));
    left = omega (arith, new.state.left, fewer, length-append queue (q ∷ []));
    off = λ x h. ⊎_elim (λ e. ap stop e ∙ ng) (new.state.off x) (split x h);
    shut = all_shut;
  }
