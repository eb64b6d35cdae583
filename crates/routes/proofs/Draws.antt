-- Routes taken out of a flow one after another.
--
--   Sofar        what is known between two of them
--   sofar_none   before the first
--   sofar_all    where no arc leads out of a any more, they are all
--   sofar_room   there is room for one more
--   sofar_more   one more is taken and written
use Rattle.std.proofs.Common.{◌≡◌, ℕ, suc, ◌+◌, ◌-◌, ◌<◌, ◌≤◌, Bool, true, false, not, ◌&&◌, List, [], ◌∷◌, ◌++◌, length, map, All, sym, refl, ap, ◌∙◌, subst, ap₂, inl, inr, arith, length-append}
use Rattle.std.proofs.lemmas.List.{map-append}
use Rattle.std.proofs.lemmas.List.Elements.{All-nil, All-push, All-head, All-tail, All-weaker}
use Rattle.std.proofs.lemmas.Bool.{both_ways, cases_eq, cases_lt, or_left, and_from, and_parts, eq-eqb}
use Rattle.flows.specs.Routes.{Route, goes}
use Rattle.flows.specs.Flow.{Flow, out, without, ArcDisjoint}
use Rattle.flows.proofs.Lists.{never_true}
use Rattle.flows.proofs.Routes.{walk_more, walk_goes}
use Rattle.flows.proofs.Peel.{taken}
use Rattle.flows.proofs.Outward.{all_out, flow_some, flow_spent}
use Rattle.cuts.specs.RouteBytes.{bytes_of, route_bytes}
use Rattle.cuts.specs.RouteRules.{Pairwise, second}
use Rattle.plan.proofs.Placing.{placed_long, placed_more, placed_front, Written, written_none}
use Rattle.plan.specs.Writing.{placed}
use Rattle.routes.specs.Routes.{web, Sends, FlowRoutes, vertices, route_block, RouteRoom, RoutesRoom, Taken, Told}
use Rattle.routes.proofs.Blocks.{bytes_push}

-- What holds between any two items, and between each and one more at the end.
pairwise_push : {X : Type 0} (r : X → X → Type 0) (xs : List X) (x : X) → Pairwise r xs → All (λ y. r y x) xs → Pairwise r (xs ++ (x ∷ []))
pairwise_push r [] x p h = (All-nil (r x), tt)
pairwise_push r (y ∷ ys) x p h =
    (All-push (r y) ys x p.0 (All-head (λ z. r z x) y ys h), pairwise_push r ys x p.1 (All-tail (λ z. r z x) y ys h))

-- No arc of h lies on a route.
abbrev Clear : (ℕ → ℕ → Bool) → List ℕ → Type 0
Clear h xs = (p q : ℕ) → goes xs p q ≡ true → h p q ≡ false

-- The bytes of the vertices of routes.
abbrev shown : ℕ → List (List ℕ) → List ℕ
shown order routes = bytes_of (map (vertices order) routes)

-- The flow was f at the first and is h now; the heads below w are done, and `at` bytes are written.
pub record Sofar (n order : ℕ) (f h : ℕ → ℕ → Bool) (a b w at : ℕ) (start now : List ℕ) : Type 0 where
  pub sends : Sends n h a b
  pub passed : (q : ℕ) → q < w → h a q ≡ false
  pub part : (p q : ℕ) → h p q ≡ true → f p q ≡ true
  pub routes : List (List ℕ)
  pub many : length routes + sends.value ≡ out n f a
  pub obey : FlowRoutes f a b routes
  pub clear : All (Clear h) routes
  pub behind : All (λ xs. second xs < w) routes
  pub written : Written start now 0 at (shown order routes)

-- Before the first nothing is done.
pub sofar_none : (n order : ℕ) (f : ℕ → ℕ → Bool) (a b : ℕ) (start : List ℕ) → Sends n f a b → Sofar n order f f a b 0 0 start start
sofar_none n order f a b start s =
    record {
      sends = s;
      passed = λ q l. absurd (omega arith);
      part = λ p q e. e;
      routes = [];
      many = (let e = all_out (web n f) a b f s.value s.from s.flow s.starts in omega (arith, e));
      obey = record { each = All-nil (Route f a b); ascending = tt; disjoint = tt };
      clear = All-nil (Clear f);
      behind = All-nil (λ xs. second xs < 0);
      written = written_none start start 0 0 [] refl refl refl;
    }

module _ (n order : ℕ) (f h : ℕ → ℕ → Bool) (a b w at : ℕ) (start now : List ℕ) (so : Sofar n order f h a b w at start now) where
  -- No arc out of a is left: the routes are all.
  pub sofar_all : ((q : ℕ) → w ≤ q → q < n → h a q ≡ false) → Told n order f a b start now
  sofar_all none =
      let s = so.sends in
      let none_left = flow_spent (web n h) a b h s.value s.from s.flow s.starts (λ q l. elim (cases_lt q w) [ inl k ↦ so.passed q k | inr k ↦ none q k l ]) in
      record {
        routes = so.routes;
        obey = so.obey;
        many = omega (arith, so.many, none_left);
        bytes = so.written.items ∙ placed_front (shown order so.routes) start;
      }

  -- A route along what is left, over the next head c.
  module _ (c : ℕ) (here : w ≤ c) (xs : List ℕ) (route : Route h a b xs) (over : second xs ≡ c) (uses : goes xs a c ≡ true) where
    -- With it, the routes obey the rules.
    obey_more : FlowRoutes f a b (so.routes ++ (xs ∷ []))
    obey_more =
        record {
          each = All-push (Route f a b) so.routes xs so.obey.each (record { walk = walk_more h f a b xs so.part route.walk; apart = route.apart });
          ascending = pairwise_push (λ ys zs. second ys < second zs) so.routes xs so.obey.ascending
              (All-weaker (λ ys. second ys < w) (λ ys. second ys < second xs) (λ ys l. omega (arith, l, here, over)) so.routes so.behind);
          disjoint = pairwise_push ArcDisjoint so.routes xs so.obey.disjoint (All-weaker (Clear h) (λ ys. ArcDisjoint ys xs) off_it so.routes so.clear);
        }
      where
        off_it : (ys : List ℕ) → Clear h ys → ArcDisjoint ys xs
        off_it ys k p q e = never_true _ (λ i. both_ways (h p q) (k p q e) (walk_goes h a b xs route.walk p q i))

    -- With its bytes, what is written are the bytes of the routes.
    bytes_more : shown order (so.routes ++ (xs ∷ [])) ≡ shown order so.routes ++ route_block (vertices order xs)
    bytes_more = ap bytes_of (map-append (vertices order) so.routes (xs ∷ [])) ∙ bytes_push (map (vertices order) so.routes) (vertices order xs)

    -- They have room.
    fits : RoutesRoom order f a b (length start) → length (shown order so.routes) + length (route_block (vertices order xs)) ≤ length start
    unfolding route_bytes
    fits room =
        let k = room (so.routes ++ (xs ∷ [])) obey_more in
        omega (arith, k, ap length bytes_more, length-append (shown order so.routes) (route_block (vertices order xs)))

    -- From the next place on too.
    room_more : RoutesRoom order f a b (length start) → at + length (route_block (vertices order xs)) ≤ length now
    room_more room =
        let k = fits room in
        let e = ap length so.written.items ∙ placed_long 0 (shown order so.routes) start (omega (arith, k)) in
        omega (arith, k, e, so.written.next)

    -- One arc out of a at least is left.
    some : 1 ≤ so.sends.value
    some =
        let s = so.sends in
        let arc = walk_goes h a b xs route.walk a c uses in
        flow_some (web n h) a b h s.value s.from s.flow s.starts c (s.sound.bounded a c arc).1 arc

    -- The rest of the flow sends one unit less.
    less : (l : Sends n (without h xs) a b) × (l.value + 1 ≡ so.sends.value)
    less =
        let s = so.sends in
        let e : s.value ≡ suc (s.value - 1) = omega (arith, some) in
        let fl = taken (web n h) a b s.sound s.from s.apart h (s.value - 1) xs (subst (Flow (web n h) a b h) e s.flow) route in (
          record {
            value = s.value - 1;
            flow = record { along = λ p q k. k; oneway = fl.oneway; kept = fl.kept; value = fl.value };
            sound = record { bounded = λ p q k. s.sound.bounded p q (and_parts (h p q) _ k).0 };
            starts = λ p. off (h p a) _ (s.starts p);
            from = s.from;
            to = s.to;
            apart = s.apart;
          },
          omega (arith, e),
        )
      where
        off : (x y : Bool) → x ≡ false → (x && y) ≡ false
        off x y k = grind arith

    -- It was off the routes before, or it is on this one.
    first_off : (x y : Bool) → x ≡ false → (x && not y) ≡ false
    first_off x y o = grind arith

    second_off : (x y : Bool) → y ≡ true → (x && not y) ≡ false
    second_off x y o = grind arith

    -- No arc from a to c or to a head below it is left.
    gone : ((q : ℕ) → w ≤ q → q < c → h a q ≡ false) → (q : ℕ) → q < c + 1 → without h xs a q ≡ false
    gone none q i =
        elim (cases_eq q c) [
          | inl o ↦ second_off (h a q) _ (ap (goes xs a) o ∙ uses)
          | inr o ↦ elim (cases_lt q w) [
            | inl u ↦ first_off (h a q) _ (so.passed q u)
            | inr u ↦ first_off (h a q) _ (none q u (omega (arith, i, o)))
          ]
        ]

    -- The bytes of the route stand behind the others.
    written_more : RoutesRoom order f a b (length start) → (next : ℕ) (after : List ℕ) → next ≡ at + length (route_block (vertices order xs))
        → after ≡ placed at (route_block (vertices order xs)) now → Written start after 0 next (shown order (so.routes ++ (xs ∷ [])))
    written_more room next after k m =
        let text = route_block (vertices order xs) in
        record {
          next = omega (arith, k, so.written.next, ap length bytes_more, length-append (shown order so.routes) text);
          items = m
              ∙ ap₂ (λ (p : ℕ) (bs : List ℕ). placed p text bs) so.written.next so.written.items
              ∙ placed_more 0 (shown order so.routes) start (omega (arith, fits room)) text
              ∙ ap (λ (bs : List ℕ). placed 0 bs start) (sym bytes_more);
        }

    -- What is known once it is taken out and written.
    next_sofar : ((q : ℕ) → w ≤ q → q < c → h a q ≡ false) → (next : ℕ) (after : List ℕ)
        → Written start after 0 next (shown order (so.routes ++ (xs ∷ []))) → Sofar n order f (without h xs) a b (c + 1) next start after
    next_sofar none next after written =
        let l = less in
        record {
          sends = l.0;
          passed = λ q i. gone none q i;
          part = λ p q i. so.part p q (and_parts (h p q) _ i).0;
          routes = so.routes ++ (xs ∷ []);
          many = omega (arith, so.many, l.1, length-append so.routes (xs ∷ []));
          obey = obey_more;
          clear = All-push (Clear (without h xs)) so.routes xs
              (All-weaker (Clear h) (Clear (without h xs)) (λ ys o p q i. first_off (h p q) _ (o p q i)) so.routes so.clear)
              (λ p q i. second_off (h p q) _ i);
          behind = All-push (λ ys. second ys < c + 1) so.routes xs
              (All-weaker (λ ys. second ys < w) (λ ys. second ys < c + 1) (λ ys i. omega (arith, i, here)) so.routes so.behind) (omega (arith, over));
          written = written;
        }

  -- The next head is c.
  module _ (c : ℕ) (here : w ≤ c) (room : RoutesRoom order f a b (length start)) where
    -- A route over c takes the arc from a to c.
    takes : (xs : List ℕ) → Route h a b xs → second xs ≡ c → goes xs a c ≡ true
    unfolding goes
    takes [] route over = absurd route.walk
    takes (x ∷ []) route over = absurd (so.sends.apart (sym route.walk.0 ∙ route.walk.1))
    takes (x ∷ (y ∷ ys)) route over = or_left _ _ (and_from _ _ (eq-eqb x a route.walk.0) (eq-eqb y c over))

    -- There is room for any.
    pub sofar_room : RouteRoom order h a b c at (length now)
    sofar_room xs route over = room_more c here xs route over (takes xs route over) room

    -- One is taken and written.
    pub sofar_more : ((q : ℕ) → w ≤ q → q < c → h a q ≡ false) → (left : ℕ → ℕ → Bool) (next : ℕ) (after : List ℕ)
        → Taken order h left a b c at now next after → Sofar n order f left a b (c + 1) next start after
    sofar_more none left next after t =
        let uses = takes t.route t.along t.over in
        let written = written_more c here t.route t.along t.over uses room next after t.behind t.bytes in
        subst (λ (g : ℕ → ℕ → Bool). Sofar n order f g a b (c + 1) next start after) (sym t.arcs)
        (next_sofar c here t.route t.along t.over uses none next after written)
