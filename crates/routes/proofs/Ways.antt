-- The way by the notes, a node at a time: the node that comes next, the arc to it, its vertex.
--
--   arc_ends      the ends of an arc that a set has
--   taken_last    nothing is taken at the last node
--   step          a node that is not the last, and the way from the next
--   taken_step    an arc taken out, and then those of the way from the next node
--   arc_step, route_step   the arc to it is one of the flow, and without that the way goes on along the rest
--   vertices_way  the vertices of a node, and then those of the way from the next
use Rattle.std.proofs.Common.{◌≡◌, ℕ, ◌*◌, ◌<◌, Bool, true, ◌&&◌, ltb, List, [], ◌∷◌, ◌++◌, get_or, sym, ap, ◌∙◌, subst}
use Rattle.std.proofs.lemmas.Bool.{and_parts, ltb-true}
use Rattle.bits.specs.Bits.{has}
use Rattle.flows.specs.Routes.{Route}
use Rattle.flows.specs.Flow.{without}
use Rattle.flows.proofs.Routes.{walk_off}
use Rattle.flows.proofs.Arcs.{lacking_more}
use Rattle.flows.proofs.Peel.{without_one, without_more}
use Rattle.rows.specs.Layout.{set_limit, row_words}
use Rattle.rows.specs.Flow.{carried, without_arc}
use Rattle.rows.specs.declared.flow.Arcs.{Arcs}
use Rattle.augment.specs.Trails.{way, LeadsBack}
use Rattle.augment.proofs.Trails.{headed, way_last, way_next}
use Rattle.routes.specs.Routes.{vertices}
use Rattle.routes.proofs.Vertices.{vertices_more}

-- An arc of a set has a tail below the limit, and a head of the set.
pub arc_ends : (arcs : Arcs) (q p : ℕ) → carried arcs q p ≡ true → (q < set_limit) × (p < arcs.heads)
unfolding carried
arc_ends arcs q p e =
    let k = and_parts (ltb q set_limit) (ltb p arcs.heads) (and_parts (ltb q set_limit && ltb p arcs.heads) (has arcs.words.now (row_words * p) q) e).0 in
    (ltb-true q set_limit k.0, ltb-true p arcs.heads k.1)

-- Without the first arc of a route along a set, the rest is a route along what is left.
route_on : (f : ℕ → ℕ → Bool) (b p q : ℕ) (ys : List ℕ) → Route f p b (p ∷ (q ∷ ys)) → Route (without_arc f p q) q b (q ∷ ys)
route_on f b p q ys r =
    let m = lacking_more f p q r.walk.1 in
    record {
      walk = walk_off f (without_arc f p q) q b p (q ∷ ys) (λ x y o _. sym (m.rest x y (λ e _. o (sym e)))) r.apart.0 r.walk.2;
      apart = r.apart.1;
    }

-- A node p of the way to s.
module _ (before : List ℕ) (s p : ℕ) (leads : LeadsBack before s p (way before s p)) where
  -- Nothing is left to take at the last node.
  pub taken_last : (f : ℕ → ℕ → Bool) → p ≡ s → without f (way before s p) ≡ f
  taken_last f e = ap (without f) (way_last before s p e) ∙ without_one f p

  -- It is not the last, and q is noted at it.
  module _ (d : p ≡ s → ⊥) (q : ℕ) (e : q ≡ get_or before p 0) where
    -- The way goes on at q.
    pub step : (way before s p ≡ p ∷ way before s q) × LeadsBack before s q (way before s q)
    step = rw e (way_next before s p leads d)

    -- So it is p and q, and more.
    two : (ys : List ℕ) × (way before s q ≡ q ∷ ys) × (way before s p ≡ p ∷ (q ∷ ys))
    two =
        let k = step in
        let h = headed before s q (way before s q) k.1 in
        (h.0, h.1, k.0 ∙ ap (λ (zs : List ℕ). p ∷ zs) h.1)

    -- Without the arc to q, and then without the rest of the way.
    pub taken_step : (f h : ℕ → ℕ → Bool) → h ≡ without_arc f p q → without h (way before s q) ≡ without f (way before s p)
    taken_step f h a =
        let k = two in
        ap (λ (g : ℕ → ℕ → Bool). without g (way before s q)) a
        ∙ ap (without (without_arc f p q)) k.1
        ∙ sym (without_more f p q k.0)
        ∙ ap (without f) (sym k.2)

    -- Where the way is a route along a set, the arc to q is one of the set.
    pub arc_step : (f : ℕ → ℕ → Bool) → Route f p s (way before s p) → f p q ≡ true
    arc_step f r = (subst (Route f p s) two.2 r).walk.1

    -- Without it the rest of the way is a route along what is left.
    pub route_step : (f h : ℕ → ℕ → Bool) → h ≡ without_arc f p q → Route f p s (way before s p) → Route h q s (way before s q)
    route_step f h a r =
        let k = two in
        let on = route_on f s p q k.0 (subst (Route f p s) k.2 r) in
        rw (k.1, a) on

    -- The vertices of p, and then those of the rest of the way.
    pub vertices_way : (order : ℕ) → vertices order (way before s p) ≡ vertices order (p ∷ []) ++ vertices order (way before s q)
    vertices_way order = ap (vertices order) step.0 ∙ vertices_more order p (way before s q)
