-- The way of a unit that goes from a to c.
--
--   all_closed   of nodes without arcs all are closed to a goal
--   bare_back    what a flow leaves of them are its arcs, back along them
--   led_end      where c is b, the way is b alone
--   led_found    else the way is what a search noted from b back to c
--   found        such a search finds c
--   noted_led    with c noted at a, a route from a over c is noted
use Rattle.std.proofs.Common.{◌≡◌, ℕ, ◌<◌, ◌≤◌, Bool, true, false, not, ◌&&◌, ◌||◌, eqb, List, [], ◌∷◌, length, set, sym, refl, ap, ◌∙◌, subst, arith}
use mathlib.Core.Path.{fun_ext}
use Rattle.std.proofs.lemmas.Bool.{both_ways}
use Rattle.std.proofs.lemmas.List.Elements.{All-weaker}
use Rattle.graph.specs.Graph.{node_limit}
use Rattle.flows.specs.Reach.{reaches}
use Rattle.flows.specs.Routes.{Walk, Route}
use Rattle.flows.specs.Flow.{residual, residual_side, back}
use Rattle.flows.proofs.Lists.{any_nil, off_among}
use Rattle.flows.proofs.Routes.{walk_inside}
use Rattle.flows.proofs.Outward.{goes_on, turned_route}
use Rattle.augment.specs.Trails.{Trail, way, LeadsBack}
use Rattle.augment.proofs.Trails.{apart_short, read_reversed, headed, way_last, way_turned, way_noted}
use Rattle.search.specs.Goals.{Far, Closed}
use Rattle.search.specs.Steps.{along}
use Rattle.cuts.specs.RouteRules.{second}
use Rattle.routes.specs.Bare.{bare}
use Rattle.routes.specs.Routes.{web, Sends, Led, RouteNoted}

-- No arc leads to a goal, so none with room does.
pub all_closed : (n t : ℕ) (f : ℕ → ℕ → Bool) (set : ℕ → Bool) → Far (bare n) t set → Closed (bare n) f t set
unfolding along
all_closed n t f set far = far

-- What a flow leaves of nodes without arcs are its arcs, back along them.
pub bare_back : (n : ℕ) (f : ℕ → ℕ → Bool) → residual (bare n) f ≡ back f
bare_back n f = fun_ext (λ p. fun_ext (λ q. alone (f q p) (not (f p q))))
  where
    alone : (a b : Bool) → (a || (false && b)) ≡ a
    alone a b = grind arith

module _ (n : ℕ) (f : ℕ → ℕ → Bool) (a b c : ℕ) (few : n ≤ node_limit) (sends : Sends n f a b) (arc : f a c ≡ true) (before : List ℕ) where
  -- Where c is b, the way is b alone.
  pub led_end : c ≡ b → Led f a b c before
  led_end e =
      let one = way_last before b c e in
      let off = off_among c [] a (λ i. both_ways (f a c) (ap (f a) (sym i) ∙ sends.starts a) arc) (any_nil (eqb a)) in
      record {
        leads = rw one (refl, e);
        route = rw one (record { walk = (refl, arc, (refl, e)); apart = (off, (any_nil (eqb c), tt)) });
      }

  -- Else it is what a search noted from b back to c.
  pub led_found : Trail (residual (bare n) f) b c before → Led f a b c before
  led_found trail =
      let walk = subst (λ (r : ℕ → ℕ → Bool). Walk r b c trail.nodes) (bare_back n f) trail.route.walk in
      let inside = walk_inside (back f) n (λ p q e. (sends.sound.bounded q p e).0) b c trail.nodes sends.to walk in
      let small = All-weaker (λ x. x < n) (λ x. x < node_limit) (λ x l. omega (arith, l, few)) trail.nodes inside in
      let route = turned_route f a b c trail.nodes sends.starts arc (record { walk = walk; apart = trail.route.apart }) in
      record {
        leads = way_turned (residual (bare n) f) b c before trail small;
        route = subst (λ (ws : List ℕ). Route f a b (a ∷ ws)) (read_reversed (residual (bare n) f) b c before node_limit trail small) route;
      }

  -- A search from b back finds c, since what the flow brings to c goes on.
  pub found : residual_side (bare n) f b c ≡ false → ⊥
  found h =
      let inside = (sends.sound.bounded a c arc).1 in
      let reached = goes_on (web n f) a b f sends.value sends.from sends.flow sends.starts sends.sound sends.to sends.apart c arc inside in
      both_ways (reaches n (back f) b c) (sym (ap (λ (r : ℕ → ℕ → Bool). reaches n r b c) (bare_back n f)) ∙ h) reached

  -- With c noted at a, the route from a over c is noted.
  pub noted_led : node_limit ≤ length before → Led f a b c before → RouteNoted f a b c (set before a c)
  noted_led room led =
      let xs = way before b c in
      let inside = walk_inside f n (λ p q e. (sends.sound.bounded p q e).1) a b (a ∷ xs) sends.from led.route.walk in
      let short = apart_short n (a ∷ xs) led.route.apart inside in
      let k = way_noted before b a c xs (omega (arith, room, few, sends.from)) sends.apart led.route.apart.0 led.leads (omega (arith, short, few)) in
      let h = headed before b c xs led.leads in
      record {
        leads = subst (LeadsBack (set before a c) b a) k.1 k.0;
        route = subst (Route f a b) k.1 led.route;
        over = ap second (sym k.1) ∙ ap (λ (ys : List ℕ). second (a ∷ ys)) h.1;
      }
