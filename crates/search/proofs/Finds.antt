-- How a search finds its goal: at a node that it has found, one step on from it, or two.
--
--   goal_missed             the goal is not reached
--   closed_from             the closed nodes are those far from the goal, and those from which the flow goes to it
--   no_goal                 where no goal is found with q, the search does not leave off there, and nothing is noted
--   passed_by               the same of the notes after p was noted for q
--   found_on                from a marked node, one step or two lead to the goal
--   found_with              the goal is found with a node that was found just now
use Rattle.std.proofs.Common.{◌≡◌, ℕ, ◌-◌, ◌<◌, ◌≤◌, Bool, true, false, not, ◌&&◌, ◌||◌, eqb, ◌⊎◌, List, length, set, IfSome, Some, None, Option, sym, refl, ap, ◌∙◌, subst, inl, inr, ⊎_elim, arith, length-set, MatchOption}
use Rattle.std.specs.Prelude.{is_some}
use Rattle.std.proofs.lemmas.Bool.{both_ways, cases_Bool, eq-eqb, eqb-true, ne_eqb, or_left, or_parts, or_from, not-true, not-false}
use Rattle.graph.specs.Graph.{first}
use Rattle.graph.proofs.Firsts.{Found, first_some}
use Rattle.flows.specs.Flow.{Digraph, residual}
use Rattle.flows.proofs.Lists.{never_true}
use Rattle.augment.specs.Trails.{Trail}
use Rattle.search.specs.Goals.{Far, Closed, way_on, goal_from, on_noted, goal_noted}
use Rattle.rows.specs.Marks.{fresh}
use Rattle.search.specs.Steps.{along}
use Rattle.rows.proofs.Fresh.{fresh_parts}
use Rattle.search.proofs.Fresh.{along_step}
use Rattle.search.proofs.States.{leaves_off, State, Entry, nowhere, found_here, free_of, new_marked, split, trail, entered}

-- What is looked for is not reached, if no node at which the search leaves off is.
pub goal_missed : (goal : Option ℕ) (closed : ℕ → Bool) {reached : ℕ → Bool} → ((t : ℕ) → leaves_off goal closed t ≡ true → reached t ≡ false)
    → IfSome goal (λ t. reached t ≡ false)
goal_missed None closed h = tt
goal_missed (Some t) closed h = h t (or_left (eqb t t) (not (closed t)) (eq-eqb t t refl))

-- Where there is no arc, or no room on it, no arc with room is.
turned : (a b : Bool) → (not a || b) ≡ not (a && not b)
turned true true = refl
turned true false = refl
turned false b = refl

-- The nodes far from t, and those from which the flow goes to t, are closed.
pub closed_from : (f : ℕ → ℕ → Bool) (t : ℕ) (far closed : ℕ → Bool) → ((q : ℕ) → closed q ≡ (far q || f q t)) → (d : Digraph) → Far d t far
    → Closed d f t closed
unfolding along
closed_from f t far closed both d apart q l = both q ∙ ap (λ (b : Bool). b || f q t) (apart q l) ∙ turned (d.arc q t) (f q t)

module _ (goal : Option ℕ) (closed : ℕ → Bool) (on : Option ℕ) (q : ℕ) where
  -- Where no goal is found with q, the search does not leave off at q, and nothing is noted.
  pub no_goal : (before : List ℕ) → goal_from goal closed on q ≡ false
      → (leaves_off goal closed q ≡ false) × (goal_noted goal closed on q before ≡ before)
  no_goal before h = go goal on h
    where
      -- By the goal, if there is one, and the way on.
      go : (goal on : Option ℕ) → goal_from goal closed on q ≡ false → (leaves_off goal closed q ≡ false) × (goal_noted goal closed on q before ≡ before)
      go None on h = (refl, refl)
      go (Some t) None h =
          let no = or_parts (eqb q t) (not (closed q) || false) h in
          let shut = not-false (closed q) (or_parts (not (closed q)) false no.1).0 in
          (or_from (eqb q t) (not (closed q)) no.0 (or_parts (not (closed q)) false no.1).0, rw (no.0, shut) refl)
      go (Some t) (Some r) h =
          let no = or_parts (eqb q t) (not (closed q) || true) h in absurd (both_ways true (or_parts (not (closed q)) true no.1).1 refl)

  -- After p was noted for q and no goal was found with q, nothing else is noted.
  pub passed_by : (before : List ℕ) (p : ℕ) {found : Bool} {noted after : List ℕ} → found ≡ goal_from goal closed on q → found ≡ false
      → after ≡ goal_noted goal closed on q noted → noted ≡ set before q p → (leaves_off goal closed q ≡ false) × (after ≡ set before q p)
  passed_by before p {noted = noted} value none notes e = let a = no_goal noted (sym value ∙ none) in (a.0, notes ∙ a.1 ∙ e)

-- All that is marked but q is closed, and not the goal t. The notes have a place for each node.
module _ {d : Digraph} {f : ℕ → ℕ → Bool} {s t q : ℕ} {closed : ℕ → Bool} {Cur : ℕ → Type 0} {queue : List ℕ} {m : ℕ → Bool} {before : List ℕ}
    (st : State d f s nowhere Cur queue m before) (here : m q ≡ true) (below : q < d.nodes) (wide : d.nodes ≤ length before)
    (others : (x : ℕ) → m x ≡ true → (x ≡ q) ⊎ (leaves_off (Some t) closed x ≡ false)) (node : t < d.nodes) (sets : Closed d f t closed) where
  -- An open node leads to the goal.
  leads : (x : ℕ) → x < d.nodes → closed x ≡ false → along d f x t ≡ true
  leads x l h = not-false (along d f x t) (sym (sets x l) ∙ h)

  -- Unless q is the goal, the goal is not marked.
  goal_free : eqb q t ≡ false → m t ≡ false
  goal_free ne = never_true (m t) (λ e.
      ⊎_elim
      (λ same. both_ways (eqb q t) ne (eq-eqb q t (sym same)))
      (λ off. both_ways _ off (or_left (eqb t t) (not (closed t)) (eq-eqb t t refl)))
      (others t e))

  -- From an open node q one step leads to it.
  one_on : eqb q t ≡ false → closed q ≡ false → Trail (residual d f) s t (set before t q)
  one_on ne h =
      let new : Entry d f s nowhere Cur queue m (λ k. m k || eqb k t) before q t =
      record { state = st; from = here; free = goal_free ne; node = node; step = along_step d f q t (leads q below h); wide = omega (arith, node, wide); with_q = λ k. refl } in
      trail new

  -- From another q two steps lead to it, by an open node r.
  two_on : (r : ℕ) → Found (fresh closed (along d f q)) 0 d.nodes r → eqb q t ≡ false → closed q ≡ true → Trail (residual d f) s t (set (set before r q) t r)
  two_on r o ne h =
      let parts = fresh_parts closed (along d f q) r o.here in
      let free : m r ≡ false = never_true (m r) (λ e.
      ⊎_elim
      (λ same. both_ways (closed r) parts.0 (ap closed same ∙ h))
      (λ off. both_ways (closed r) parts.0 (not-false (closed r) (or_parts (eqb r t) (not (closed r)) off).1))
      (others r e)) in
      let one : Entry d f s nowhere Cur queue m (λ k. m k || eqb k r) before q r =
      record { state = st; from = here; free = free; node = o.below; step = along_step d f q r parts.1; wide = omega (arith, o.below, wide); with_q = λ k. refl } in
      let apart : t ≡ r → ⊥ = λ e. both_ways (along d f q t) (not-true (along d f q t) (sym (sets q below) ∙ h)) (ap (along d f q) e ∙ parts.1) in
      let two : Entry d f s nowhere Cur _ (λ k. m k || eqb k r) (λ k. (m k || eqb k r) || eqb k t) (set before r q) r t = record {
        state = entered one refl;
        from = new_marked one;
        free = or_from (m t) (eqb t r) (goal_free ne) (ne_eqb t r apart);
        node = node;
        step = along_step d f r t (leads r o.below parts.0);
        wide = omega (arith, node, wide, length-set before r q);
        with_q = λ k. refl;
      } in
      trail two

  -- However it is found with q, a trail is noted.
  any_on : (on : Option ℕ) → on ≡ way_on d f closed q → goal_from (Some t) closed on q ≡ true → Trail (residual d f) s t (goal_noted (Some t) closed on q before)
  any_on on e h =
      ⊎_elim
      (λ (z : eqb q t ≡ true). rw z (subst (λ (x : ℕ). Trail (residual d f) s x before) (eqb-true q t z) (found_here st here)))
      (λ (z : eqb q t ≡ false). ⊎_elim
      (λ (c : closed q ≡ true). rw (z, c) (by_way on e (rw (z, c) at h) z c))
      (λ (c : closed q ≡ false). rw (z, c) (one_on z c))
      (cases_Bool (closed q)))
      (cases_Bool (eqb q t))
    where
      -- By the way on.
      by_way : (on : Option ℕ) → on ≡ way_on d f closed q → is_some on ≡ true → eqb q t ≡ false → closed q ≡ true → Trail (residual d f) s t (on_noted on q t before)
      by_way None e h z c = absurd (both_ways false refl h)
      by_way (Some r) e h z c =
          let all : d.nodes - 0 ≡ d.nodes = omega arith in
          two_on r (first_some (fresh closed (along d f q)) 0 d.nodes r (ap (first (fresh closed (along d f q)) 0) all ∙ sym e)) z c

module _ {d : Digraph} {f : ℕ → ℕ → Bool} {s q : ℕ} (closed : ℕ → Bool) where
  -- From a marked node q the goal is found.
  pub found_on : (goal : Option ℕ) {Cur : ℕ → Type 0} {queue : List ℕ} {m : ℕ → Bool} {before : List ℕ}
      → State d f s nowhere Cur queue m before → m q ≡ true → q < d.nodes → d.nodes ≤ length before
      → ((x : ℕ) → m x ≡ true → (x ≡ q) ⊎ (leaves_off goal closed x ≡ false)) → IfSome goal (λ t. (t < d.nodes) × Closed d f t closed)
      → goal_from goal closed (way_on d f closed q) q ≡ true
      → MatchOption goal ⊥ (λ t. Trail (residual d f) s t (goal_noted goal closed (way_on d f closed q) q before))
  found_on None st here below wide others asked h = both_ways false refl h
  found_on (Some t) st here below wide others asked h = any_on st here below wide others asked.0 asked.1 (way_on d f closed q) refl h

  -- The goal is found with a node q, to which a step led from p.
  pub found_with : (goal : Option ℕ) {stop : ℕ → Bool} {Cur : ℕ → Type 0} {queue : List ℕ} {m m' : ℕ → Bool} {before noted : List ℕ} {p : ℕ}
      → Entry d f s stop Cur queue m m' before p q → ((x : ℕ) → stop x ≡ false → leaves_off goal closed x ≡ false)
      → d.nodes ≤ length noted → IfSome goal (λ t. (t < d.nodes) × Closed d f t closed) → noted ≡ set before q p
      → goal_from goal closed (way_on d f closed q) q ≡ true
      → MatchOption goal ⊥ (λ t. Trail (residual d f) s t (goal_noted goal closed (way_on d f closed q) q noted))
  found_with goal new offs wide asked e h =
      rw e (found_on goal (entered (free_of new) refl) (new_marked (free_of new)) new.node (rw e at wide)
      (λ x y. ⊎_elim inl (λ z. inr (offs x (new.state.off x z))) (split (free_of new) x y)) asked h)
