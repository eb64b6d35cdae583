-- The runs of the vertex computation, followed along the vertices from w up: each is of two
-- unjoined vertices; a pair of early neighbours with value k is run unless the least value is k
-- by then; and so there are few.
use Rattle.std.proofs.Common.{◌≡◌, ℕ, zero, suc, ◌+◌, ◌-◌, ◌<◌, ◌≤◌, Bool, true, false, not, ◌&&◌, leb, ◌⊎◌, List, [], ◌∷◌, ◌++◌, take, filter, sym, refl, ap, ◌∙◌, subst, ap₂, inl, inr, arith}
use Rattle.std.proofs.lemmas.Bool.{cases_eq, cases_Bool, both_ways, and_cases, not-true, not_from_false, cond-true, cond-false, leb-false}
use Rattle.graph.specs.Graph.{Graph, Simple, count}
use Rattle.cuts.specs.declared.run.Run.{Run}
use Rattle.cuts.specs.Cuts.{vertex_value}
use Rattle.cuts.specs.Computations.{least_value, near_runs, more_runs}
use Rattle.cuts.specs.Choices.{In}
use Rattle.cuts.proofs.Smallest.{in_right, in_either, kept_in, kept_out}
use Rattle.strength.proofs.EdgeLists.{item_map, map_item}
use Rattle.strength.proofs.VertexCounts.{count_up}
use Rattle.strength.proofs.VertexLists.{in_taken, least_below, least_more, up, in_up, count_on, count_off, kept_on, kept_off, in_kept_front}

-- The run of a pair.
abbrev pub run_of : Graph → ℕ → ℕ → Run
run_of g a b = record { from = a; to = b; value = vertex_value g a b }

-- A run of two unjoined vertices, with their value.
pub record Fair (g : Graph) (run : Run) : Type 0 where
  pub from_below : run.from < g.order
  pub to_below : run.to < g.order
  pub differ : run.from ≡ run.to → ⊥
  pub unjoined : g.joined run.from run.to ≡ false
  pub worth : run.value ≡ vertex_value g run.from run.to

-- All runs of a list are such.
abbrev pub Fairs : Graph → List Run → Type 0
Fairs g runs = (run : Run) → In run runs → Fair g run

-- Two neighbours of r, the first from w up, that the rounds to come try, with a value of at most k.
pub record Ahead (g : Graph) (r δ k w : ℕ) : Type 0 where
  pub x : ℕ
  pub y : ℕ
  pub from : w ≤ x
  pub ascend : x < y
  pub x_joined : g.joined r x ≡ true
  pub y_joined : g.joined r y ≡ true
  pub unjoined : g.joined x y ≡ false
  pub early : count (g.joined r) x + 4 ≤ δ
  pub soon : count (g.joined r) x + 1 ≤ k
  pub inner : count (g.joined r) y + 2 ≤ δ
  pub worth : vertex_value g x y ≤ k

-- The value k is found already, or is ahead.
abbrev pub Due : Graph → ℕ → ℕ → ℕ → ℕ → List Run → Type 0
Due g r δ k w runs = (least_value g.order runs ≤ k) ⊎ Ahead g r δ k w

-- Whether the round i takes place.
abbrev pub goes_on : Graph → ℕ → ℕ → List Run → Bool
goes_on g δ i runs = leb (i + 3) δ && leb i (least_value g.order runs)

-- A round that does not take place ends the runs.
more_stop : (g : Graph) (δ i a : ℕ) (bs : List ℕ) (runs : List Run) → goes_on g δ i runs ≡ false → more_runs g δ i (a ∷ bs) runs ≡ runs
unfolding more_runs
more_stop g δ i a bs runs e = cond-false (goes_on g δ i runs) (more_runs g δ (suc i) bs (runs ++ near_runs g a (take (δ - 1 - i) bs))) runs e

-- A round that takes place adds its runs.
more_on : (g : Graph) (δ i a : ℕ) (bs : List ℕ) (runs : List Run) → goes_on g δ i runs ≡ true
    → more_runs g δ i (a ∷ bs) runs ≡ more_runs g δ (suc i) bs (runs ++ near_runs g a (take (δ - 1 - i) bs))
unfolding more_runs
more_on g δ i a bs runs e = cond-true (goes_on g δ i runs) (more_runs g δ (suc i) bs (runs ++ near_runs g a (take (δ - 1 - i) bs))) runs e

-- Past the last neighbour the runs are done.
more_end : (g : Graph) (δ i : ℕ) (runs : List Run) → more_runs g δ i [] runs ≡ runs
unfolding more_runs
more_end g δ i runs = refl

module _ (g : Graph) (s : Simple g) (r δ : ℕ) where
  -- The place of a vertex among the neighbours of r, from 1.
  abbrev pub place : ℕ → ℕ
  place w = suc (count (g.joined r) w)

  -- The rounds for the neighbours among the m vertices from w up.
  abbrev pub rounds_from : ℕ → ℕ → List Run → List Run
  rounds_from w m runs = more_runs g δ (place w) (filter (g.joined r) (up w m)) runs

  -- The runs of the round for w.
  abbrev pub round : ℕ → ℕ → List Run
  round w m = near_runs g w (take (δ - 1 - place w) (filter (g.joined r) (up (suc w) m)))

  -- What holds at the end and is handed back by each round holds of all the rounds.
  pub follow : (Q : ℕ → List Run → List Run → Type 0)
      → ((w : ℕ) (runs : List Run) → w ≡ g.order → Q w runs runs)
      → ((w : ℕ) (runs out : List Run) → w < g.order → g.joined r w ≡ false → Q (suc w) runs out → Q w runs out)
      → ((w : ℕ) (runs : List Run) → w < g.order → g.joined r w ≡ true → goes_on g δ (place w) runs ≡ false → Q w runs runs)
      → ((w m : ℕ) (runs out : List Run) → suc w + m ≡ g.order → g.joined r w ≡ true → goes_on g δ (place w) runs ≡ true → Q (suc w) (runs ++ round w m) out → Q w runs out)
      → (m w : ℕ) (runs : List Run) → w + m ≡ g.order → Q w runs (rounds_from w m runs)
  follow Q end skip stop on zero w runs e = subst (Q w runs) (sym (more_end g δ (place w) runs)) (end w runs (omega arith))
  follow Q end skip stop on (suc m) w runs e =
      elim (cases_Bool (g.joined r w)) [
        | inr off ↦
            subst (Q w runs) (sym (ap₂ (λ (i : ℕ) (l : List ℕ). more_runs g δ i l runs) (ap suc (sym (count_off (g.joined r) w off))) (kept_off (g.joined r) w (up (suc w) m) off)))
            (skip w runs (rounds_from (suc w) m runs) (omega arith) off (follow Q end skip stop on m (suc w) runs (omega arith)))
        | inl yes' ↦
            elim (cases_Bool (goes_on g δ (place w) runs)) [
              | inr no' ↦
                  subst (Q w runs)
                  (sym (ap (λ (l : List ℕ). more_runs g δ (place w) l runs) (kept_on (g.joined r) w (up (suc w) m) yes')
                  ∙ more_stop g δ (place w) w (filter (g.joined r) (up (suc w) m)) runs no'))
                  (stop w runs (omega arith) yes' no')
              | inl go ↦
                  subst (Q w runs)
                  (sym (ap (λ (l : List ℕ). more_runs g δ (place w) l runs) (kept_on (g.joined r) w (up (suc w) m) yes')
                  ∙ more_on g δ (place w) w (filter (g.joined r) (up (suc w) m)) runs go
                  ∙ ap (λ (i : ℕ). more_runs g δ i (filter (g.joined r) (up (suc w) m)) (runs ++ round w m))
                  (let q : suc (place w) ≡ place (suc w) = omega (arith, count_on (g.joined r) w yes') in q)))
                  (on w m runs (rounds_from (suc w) m (runs ++ round w m)) (omega arith) yes' go (follow Q end skip stop on m (suc w) (runs ++ round w m) (omega arith)))
            ]
      ]

  -- Each run of a round is of two unjoined vertices.
  round_fair : (w m : ℕ) → suc w + m ≡ g.order → Fairs g (round w m)
  round_fair w m e run i =
      let c = map_item (run_of g w) run (filter (λ b. not (g.joined w b)) (take (δ - 1 - place w) (filter (g.joined r) (up (suc w) m)))) i in
      let k = kept_out (λ b. not (g.joined w b)) c.0 (take (δ - 1 - place w) (filter (g.joined r) (up (suc w) m))) c.1 in
      let q = kept_out (g.joined r) c.0 (up (suc w) m) (in_taken c.0 (δ - 1 - place w) (filter (g.joined r) (up (suc w) m)) k.0) in
      let u = in_up (suc w) m c.0 q.0 in
      subst (Fair g) (sym c.2)
      (record { from_below = omega arith; to_below = omega (arith, u.1); differ = λ x. omega (arith, u.0); unjoined = not-true _ k.1; worth = refl })

  -- So is each run of all the rounds.
  pub rounds_fair : (m w : ℕ) (runs : List Run) → w + m ≡ g.order → Fairs g runs → Fairs g (rounds_from w m runs)
  rounds_fair =
      follow (λ w runs out. Fairs g runs → Fairs g out) (λ w runs _ f. f) (λ w runs out _ _ h f. h f) (λ w runs _ _ _ f. f)
      (λ w m runs out e _ _ h f. h (λ run i. elim (in_either run runs (round w m) i) [ inl j ↦ f run j | inr j ↦ round_fair w m e run j ]))

  module _ (k : ℕ) where
    -- The pair ahead is run in the round of its first vertex.
    pair_run : (w m : ℕ) (runs : List Run) → suc w + m ≡ g.order → (a : Ahead g r δ k w) → w ≡ a.x → least_value g.order (runs ++ round w m) ≤ k
    pair_run w m runs e a q =
        let jw : g.joined r w ≡ true = ap (g.joined r) q ∙ a.x_joined in
        let by = (s.bounded r a.y a.y_joined).1 in
        let off : g.joined w a.y ≡ false = ap (λ (z : ℕ). g.joined z a.y) q ∙ a.unjoined in
        let before : count (g.joined r) w ≡ count (g.joined r) a.x = ap (count (g.joined r)) q in
        let here = in_kept_front (g.joined r) m (suc w) (δ - 1 - place w) a.y a.y_joined (omega (arith, a.ascend)) (omega arith)
        (omega (arith, a.inner, a.early, before, count_on (g.joined r) w jw)) in
        let i = item_map (run_of g w) a.y (filter (λ b. not (g.joined w b)) (take (δ - 1 - place w) (filter (g.joined r) (up (suc w) m))))
        (kept_in (λ b. not (g.joined w b)) a.y (take (δ - 1 - place w) (filter (g.joined r) (up (suc w) m))) here (not_from_false _ off)) in
        let low = least_below (λ (x : Run). x.value) g.order (runs ++ round w m) (run_of g w a.y) (in_right (run_of g w a.y) runs (round w m) i) in
        omega (arith, low, a.worth, ap (λ (z : ℕ). vertex_value g z a.y) q)

    -- A pair ahead stays ahead past any other vertex.
    ahead_on : (w : ℕ) (a : Ahead g r δ k w) → (w ≡ a.x → ⊥) → Ahead g r δ k (suc w)
    ahead_on w a d = record {
      x = a.x;
      y = a.y;
      from = omega (arith, a.from, d);
      ascend = a.ascend;
      x_joined = a.x_joined;
      y_joined = a.y_joined;
      unjoined = a.unjoined;
      early = a.early;
      soon = a.soon;
      inner = a.inner;
      worth = a.worth;
    }

    -- A vertex that is no neighbour leaves the value due.
    pub due_skip : (w : ℕ) (runs : List Run) → g.joined r w ≡ false → Due g r δ k w runs → Due g r δ k (suc w) runs
    due_skip w runs off d = elim d [ inl l ↦ inl l | inr a ↦ inr (ahead_on w a (λ q. both_ways _ off (ap (g.joined r) q ∙ a.x_joined))) ]

    -- So does a round.
    pub due_on : (w m : ℕ) (runs : List Run) → suc w + m ≡ g.order → Due g r δ k w runs → Due g r δ k (suc w) (runs ++ round w m)
    due_on w m runs e d =
        elim d [
          | inl l ↦ inl (omega (arith, least_more (λ (x : Run). x.value) g.order runs (round w m)))
          | inr a ↦ elim (cases_eq w a.x) [ inl q ↦ inl (pair_run w m runs e a q) | inr n ↦ inr (ahead_on w a n) ]
        ]

    -- Where the rounds stop, the value is found.
    due_stop : (w : ℕ) (runs : List Run) → goes_on g δ (place w) runs ≡ false → Due g r δ k w runs → least_value g.order runs ≤ k
    due_stop w runs off d =
        elim d [
          | inl l ↦ l
          | inr a ↦
              (let before = count_up (g.joined r) w a.x a.from in
              elim (and_cases (leb (place w + 3) δ) (leb (place w) (least_value g.order runs)) off) [
                | inl o ↦ absurd (omega (arith, leb-false _ _ o, a.early))
                | inr o ↦ omega (arith, leb-false _ _ o, a.soon)
              ])
        ]

    -- So the value is found in the end.
    pub rounds_find : (m w : ℕ) (runs : List Run) → w + m ≡ g.order → Due g r δ k w runs → least_value g.order (rounds_from w m runs) ≤ k
    rounds_find =
        follow (λ w runs out. Due g r δ k w runs → least_value g.order out ≤ k)
        (λ w runs e d. elim d [ inl l ↦ l | inr a ↦ absurd (omega (arith, a.from, a.ascend, (s.bounded r a.y a.y_joined).1)) ])
        (λ w runs out _ off h d. h (due_skip w runs off d))
        (λ w runs _ _ off d. due_stop w runs off d)
        (λ w m runs out e _ _ h d. h (due_on w m runs e d))
