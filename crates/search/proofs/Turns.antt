-- What stays true while the steps out of one node are looked at.
--
--   Passed        the nodes below v that pass a test are marked
--   Turn          the search while it looks at p: arcs up to v, the flow up to w
--   taken         p is taken from the front of the queue
--   by_along, by_back     a fresh node is found, and is marked, noted and waiting
--   along_all, back_all   no more fresh node is there
use Rattle.std.proofs.Common.{◌≡◌, ℕ, ◌+◌, ◌<◌, ◌≤◌, Bool, true, false, not, ◌&&◌, ◌||◌, eqb, ◌⊎◌, List, [], ◌∷◌, ◌++◌, length, set, IfSome, Option, sym, refl, ap, ◌∙◌, subst, inl, inr, ⊎_elim, arith, length-append, MatchOption}
use Rattle.std.proofs.lemmas.Bool.{cases_lt, cases_eq, or_cases, or_left}
use Rattle.graph.proofs.Firsts.{Found}
use Rattle.flows.specs.Flow.{Digraph, back, residual}
use Rattle.flows.proofs.Lists.{among_head, among_tail, among_cases}
use Rattle.search.specs.Goals.{Closed, way_on, goal_from, goal_noted}
use Rattle.rows.specs.Marks.{fresh}
use Rattle.search.specs.Steps.{along}
use Rattle.augment.specs.Trails.{Trail}
use Rattle.rows.proofs.Fresh.{fresh_parts, fresh_done}
use Rattle.search.proofs.Fresh.{along_step}
use Rattle.search.proofs.States.{leaves_off, State, Done, Nobody, Entry, unmarked, grown, new_marked, entered, fewer, roomy}
use Rattle.search.proofs.Finds.{found_with}

-- Each number below v that passes the test is marked.
pub record Passed (m test : ℕ → Bool) (v : ℕ) : Type 0 where
  pub all : (k : ℕ) → k < v → test k ≡ true → m k ≡ true

-- Nothing is below 0.
passed_none : (m test : ℕ → Bool) → Passed m test 0
passed_none m test = record { all = λ k l e. absurd (omega arith) }

-- The next fresh number is found and marked.
passed_more : {m m' test : ℕ → Bool} {v n q : ℕ} → Passed m test v → Found (fresh m test) v n q → ((k : ℕ) → m k ≡ true → m' k ≡ true) → m' q ≡ true
    → Passed m' test (q + 1)
passed_more {m} {m'} {test} {v} {n} {q} h f up here = record {
  all = λ k l e.
      ⊎_elim (λ x. ap m' x ∙ here)
      (λ ne. up k (⊎_elim (λ a. h.all k a e) (λ a. fresh_done m test k (f.none k a (omega (arith, ne))) e) (cases_lt k v)))
      (cases_eq k q);
}

-- There is no more fresh number.
passed_all : {m test : ℕ → Bool} {v n : ℕ} → Passed m test v → ((k : ℕ) → v ≤ k → k < n → fresh m test k ≡ false) → Passed m test n
passed_all {m} {test} {v} h none = record {
  all = λ k l e. ⊎_elim (λ a. h.all k a e) (λ a. fresh_done m test k (none k a l) e) (cases_lt k v);
}

-- What was marked stays so.
passed_kept : {m m' test : ℕ → Bool} {v : ℕ} → Passed m test v → ((k : ℕ) → m k ≡ true → m' k ≡ true) → Passed m' test v
passed_kept h up = record { all = λ k l e. up k (h.all k l e) }

-- While p is looked at: arcs up to v, the flow up to w. What waits and what is not marked are e together.
pub record Turn (d : Digraph) (f : ℕ → ℕ → Bool) (s : ℕ) (stop : ℕ → Bool) (p v w : ℕ) (queue : List ℕ) (m : ℕ → Bool) (before : List ℕ) (e : ℕ)
    : Type 0 where
  pub state : State d f s stop (λ x. x ≡ p) queue m before
  pub here : m p ≡ true
  pub ahead : Passed m (along d f p) v
  pub behind : Passed m (back f p) w
  pub sum : length queue + unmarked m d.nodes ≡ e

module _ (d : Digraph) (f : ℕ → ℕ → Bool) (p q : ℕ) where
  -- A step back along the flow is a residual step.
  back_step : back f p q ≡ true → residual d f p q ≡ true
  back_step h = or_left (f q p) (d.arc p q && not (f p q)) h

  -- There are no others.
  either_step : residual d f p q ≡ true → (back f p q ≡ true) ⊎ (along d f p q ≡ true)
  unfolding along
  either_step h = or_cases (f q p) (d.arc p q && not (f p q)) h

module _ {d : Digraph} {f : ℕ → ℕ → Bool} {s : ℕ} {stop : ℕ → Bool} {p : ℕ} {queue : List ℕ} {m : ℕ → Bool} {before : List ℕ} where
  -- The first of the queue is taken to be looked at.
  pub taken : State d f s stop Nobody (p ∷ queue) m before → Turn d f s stop p 0 0 queue m before (length queue + unmarked m d.nodes)
  taken st = record {
    state = record {
      below = st.below;
      seen = st.seen;
      start = st.start;
      queued = λ q h. st.queued q (among_tail p queue q h);
      left = omega (arith, st.left);
      off = st.off;
      shut = λ x h. ⊎_elim
          (λ a. ⊎_elim (λ e. inr (inr e)) inl (among_cases p queue x a))
          (⊎_elim (λ o. inr (inl o)) (λ z. absurd z))
          (st.shut x h);
    };
    here = st.queued p (among_head p queue);
    ahead = passed_none m (along d f p);
    behind = passed_none m (back f p);
    sum = refl;
  }

  module _ {v w e : ℕ} (t : Turn d f s stop p v w queue m before e) where
    -- What waits and what is not marked, counted anew.
    pub recounted : {n : ℕ} → n ≡ d.nodes → Turn d f s stop p v w queue m before (length queue + unmarked m n)
    recounted nodes =
        record { state = t.state; here = t.here; ahead = t.ahead; behind = t.behind; sum = ap (λ (k : ℕ). length queue + unmarked m k) (sym nodes) }

    -- No arc with room leads from p to a node that is not marked.
    pub along_all : {n : ℕ} → n ≡ d.nodes → ((k : ℕ) → v ≤ k → k < d.nodes → fresh m (along d f p) k ≡ false) → Turn d f s stop p n w queue m before e
    along_all nodes none =
        record { state = t.state; here = t.here; ahead = passed_all t.ahead (λ k a b. none k a (omega arith)); behind = t.behind; sum = t.sum }

    -- Nor does the flow lead to p from one: p has been looked at.
    pub back_all : v ≡ d.nodes → ((k : ℕ) → w ≤ k → k < d.nodes → fresh m (back f p) k ≡ false) → State d f s stop Nobody queue m before
    back_all nodes none = record {
      below = t.state.below;
      seen = t.state.seen;
      start = t.state.start;
      queued = t.state.queued;
      left = t.state.left;
      off = t.state.off;
      shut = λ x h. ⊎_elim inl
          (⊎_elim (λ o. inr (inl o)) (λ e. inr (inl (subst (λ (y : ℕ). Done d f m y) (sym e) done))))
          (t.state.shut x h);
    }
      where
        -- Each residual step out of p leads to a marked node.
        done : Done d f m p
        done = record {
          all = λ q l r.
              ⊎_elim (λ b. (passed_all t.behind none).all q l b) (λ b. t.ahead.all q (omega arith) b) (either_step d f p q r);
        }

    -- A node q is found from p, and there is room to note p for it; the notes after that.
    module _ {q : ℕ} (wide : q < length before) {after : List ℕ} (note : after ≡ set before q p) where
      -- It is found by a test that leads along residual steps, and marked.
      found_new : (test : ℕ → Bool) {m' : ℕ → Bool} {u : ℕ} → ((k : ℕ) → m' k ≡ (m k || eqb k q)) → Found (fresh m test) u d.nodes q
          → (test q ≡ true → residual d f p q ≡ true) → Entry d f s stop (λ x. x ≡ p) queue m m' before p q
      found_new test with_q o step =
          let a = fresh_parts m test q o.here in
          record { state = t.state; from = t.here; free = a.0; node = o.below; step = step a.1; wide = wide; with_q = with_q }

      -- With it the goal is found.
      pub found : (goal : Option ℕ) (closed : ℕ → Bool) → ((x : ℕ) → stop x ≡ false → leaves_off goal closed x ≡ false) → (test : ℕ → Bool) {u : ℕ}
          → Found (fresh m test) u d.nodes q → (test q ≡ true → residual d f p q ≡ true)
          → IfSome goal (λ t. (t < d.nodes) × Closed d f t closed) → d.nodes ≤ length after → goal_from goal closed (way_on d f closed q) q ≡ true
          → MatchOption goal ⊥ (λ t. Trail (residual d f) s t (goal_noted goal closed (way_on d f closed q) q after))
      found goal closed offs test o step asked fits g = found_with closed goal (found_new test {m' = λ k. m k || eqb k q} (λ k. refl) o step) offs fits asked note g

      -- There is room for it to wait.
      pub has_room : (test : ℕ → Bool) {u : ℕ} → Found (fresh m test) u d.nodes q → (test q ≡ true → residual d f p q ≡ true) → length queue < d.nodes
      has_room test o step = roomy (found_new test {m' = λ k. m k || eqb k q} (λ k. refl) o step)

      -- It is not the goal; it is marked and waits.
      module _ {m' : ℕ → Bool} {queue' : List ℕ} (with_q : (k : ℕ) → m' k ≡ (m k || eqb k q)) (longer : queue' ≡ queue ++ (q ∷ []))
          (ng : stop q ≡ false) where
        -- The turn goes on, with what was passed.
        waits : {v' w' : ℕ} → Entry d f s stop (λ x. x ≡ p) queue m m' before p q → Passed m' (along d f p) v' → Passed m' (back f p) w'
            → Turn d f s stop p v' w' queue' m' after e
        waits {v'} {w'} new ahead behind =
            subst (λ (b : List ℕ). Turn d f s stop p v' w' queue' m' b e) (sym note)
            (subst (λ (z : List ℕ). Turn d f s stop p v' w' z m' (set before q p) e) (sym longer) (record {
              state = entered new ng;
              here = grown new p t.here;
              ahead = ahead;
              behind = behind;
              sum = omega (arith, t.sum, length-append queue (q ∷ []), fewer new);
            }))

        -- It goes on behind q after an arc.
        pub by_along : Found (fresh m (along d f p)) v d.nodes q → Turn d f s stop p (q + 1) w queue' m' after e
        by_along o =
            let new = found_new (along d f p) with_q o (along_step d f p q) in
            waits new (passed_more t.ahead o (grown new) (new_marked new)) (passed_kept t.behind (grown new))

        -- It goes on behind q after a step back.
        pub by_back : Found (fresh m (back f p)) w d.nodes q → Turn d f s stop p v (q + 1) queue' m' after e
        by_back o =
            let new = found_new (back f p) with_q o (back_step d f p q) in
            waits new (passed_kept t.ahead (grown new)) (passed_more t.behind o (grown new) (new_marked new))
