-- Separations and the definitions: a vertex cut is a separation and a separation a vertex cut,
-- and the same for what parts two vertices.
use Rattle.std.proofs.Common.{◌≡◌, ℕ, ◌<◌, ◌≤◌, Bool, true, false, cond, not, ◌&&◌, ◌||◌, List, [], ◌∷◌, length, filter, refl, ◌∙◌, arith}
use Rattle.std.proofs.lemmas.Bool.{both_ways, and_parts, and_from, and_right, or_parts, or_from, not-true, not_from_false, lt-ltb}
use Rattle.graph.specs.Graph.{Graph, Simple}
use Rattle.flows.specs.Lists.{upto, all, among}
use Rattle.flows.specs.Reach.{reaches}
use Rattle.flows.proofs.Lists.{never_true, among_upto, among_kept, any_from, any_at, all_at, all_off}
use Rattle.flows.proofs.Reached.{reached_self, reached_step, reached_each, reached_least}
use Rattle.cuts.specs.Edges.{without_vertices, side}
use Rattle.cuts.specs.Cuts.{outside_of, is_vertex_cut}
use Rattle.cuts.proofs.Parting.{outside_parts, outside_from}
use Rattle.strength.proofs.VertexSets.{Separation}

-- A filter of fewer items keeps no more.
pub kept_fewer : (p q : ℕ → Bool) (xs : List ℕ) → length (filter p (filter q xs)) ≤ length (filter p xs)
kept_fewer p q [] = omega arith
kept_fewer p q (x ∷ xs) = step (q x) (p x) refl (kept_fewer p q xs)
  where
    -- One item, by whether it passes each test.
    step : (b c : Bool) → p x ≡ c → length (filter p (filter q xs)) ≤ length (filter p xs)
        → length (filter p (cond b (x ∷ filter q xs) (filter q xs))) ≤ length (cond c (x ∷ filter p xs) (filter p xs))
    step true true e h = rw e (omega arith)
    step true false e h = rw e (omega arith)
    step false true e h = omega arith
    step false false e h = h

-- The steps that are left without the vertices c.
abbrev pub left : Graph → List ℕ → ℕ → ℕ → Bool
left g c u v = g.joined u v && not (among c u || among c v)

-- A step that is left joins two vertices outside c.
left_parts : (g : Graph) (c : List ℕ) (u v : ℕ) → left g c u v ≡ true → (g.joined u v ≡ true) × (among c u ≡ false) × (among c v ≡ false)
left_parts g c u v h =
    let a = and_parts (g.joined u v) _ h in
    let o = or_parts (among c u) (among c v) (not-true _ a.1) in
    (a.0, o.0, o.1)

-- What a reaches without c is a side that c parts from what it does not reach.
pub list_separates : (g : Graph) → Simple g → (c : List ℕ) (a b : ℕ) → a < g.order → b < g.order → among c a ≡ false → among c b ≡ false
    → reaches g.order (left g c) a b ≡ false → Separation g (among c) (reaches g.order (left g c) a)
list_separates g s c a b la lb ma mb off = record {
  here = a;
  there = b;
  here_below = la;
  there_below = lb;
  here_in = reached_self g.order (left g c) a la;
  there_off = mb;
  there_out = off;
  disjoint = avoids;
  closed = λ u v h j o. reached_step g.order (left g c) a la u v (s.bounded u v j).1 h (and_from _ _ j (not_from_false _ (or_from _ _ (avoids u h) o)));
}
  where
    -- What is reached lies outside c.
    avoids : (v : ℕ) → reaches g.order (left g c) a v ≡ true → among c v ≡ false
    avoids = reached_each g.order (left g c) a la (λ v. among c v ≡ false) ma (λ p q _ _ _ h. (left_parts g c p q h).2)

-- A list that has the vertices of a separation leaves no route from one side to the other.
pub separation_parts : (g : Graph) (S L : ℕ → Bool) → Separation g S L → (c : List ℕ) (a b : ℕ) → a < g.order → L a ≡ true → L b ≡ false
    → ((v : ℕ) → v < g.order → among c v ≡ false → S v ≡ false) → reaches g.order (left g c) a b ≡ false
separation_parts g S L k c a b la ia ob has =
    never_true _ (λ h. both_ways _ ob
    (reached_least g.order (left g c) a la L ia (λ p q _ lq ip e. let w = left_parts g c p q e in k.closed p q ip w.0 (has q lq w.2)) b h))

-- A vertex cut separates.
pub cut_separates : (g : Graph) → Simple g → (c : List ℕ) → is_vertex_cut g c ≡ true → (L : ℕ → Bool) × Separation g (among c) L
cut_separates g s c h =
    let w = any_from (λ a. not (all (among (side (without_vertices g c) a)) (outside_of g c))) (outside_of g c) h in
    let z = all_off (among (side (without_vertices g c) w.0)) (outside_of g c) (not-true _ w.2) in
    let a = outside_parts g c w.0 w.1 in
    let b = outside_parts g c z.0 z.1 in
    (reaches g.order (left g c) w.0, list_separates g s c w.0 z.0 a.0 b.0 a.1 b.1 z.2)

-- What is kept of the numbers below n.
kept_off : (p : ℕ → Bool) (n v : ℕ) → p v ≡ false → among (filter p (upto n)) v ≡ false
kept_off p n v o = among_kept p (upto n) v ∙ and_right _ _ o

-- A number below n that is not kept does not pass.
kept_has : (p : ℕ → Bool) (n v : ℕ) → v < n → among (filter p (upto n)) v ≡ false → p v ≡ false
kept_has p n v l o = never_true _ (λ h. both_ways _ o (among_kept p (upto n) v ∙ and_from _ _ (among_upto n v ∙ lt-ltb v n l) h))

-- A separation is a vertex cut.
pub separation_cuts : (g : Graph) (S L : ℕ → Bool) → Separation g S L → is_vertex_cut g (filter S (upto g.order)) ≡ true
separation_cuts g S L k =
    let c = filter S (upto g.order) in
    let out = separation_parts g S L k c k.here k.there k.here_below k.here_in k.there_out (kept_has S g.order) in
    any_at (λ a. not (all (among (side (without_vertices g c) a)) (outside_of g c))) (outside_of g c) k.here
    (outside_from g c k.here (k.here_below, kept_off S g.order k.here (k.disjoint k.here k.here_in)))
    (not_from_false _ (never_true _ (λ h. both_ways _ out
    (all_at (among (side (without_vertices g c) k.here)) (outside_of g c) h k.there (outside_from g c k.there (k.there_below, kept_off S g.order k.there k.there_off))))))
