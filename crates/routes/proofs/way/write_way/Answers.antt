use Rattle.std.proofs.Common.{◌+◌, ◌≤◌, length, ℕ, List, [], ◌∷◌, sym, refl, ap, ap₂, ◌∙◌, get_or, arith, length-append}
use Rattle.augment.specs.Trails.{way}
use Rattle.augment.proofs.Trails.{way_last}
use Rattle.plan.specs.Writing.{placed}
use Rattle.plan.proofs.Placing.{placed_more}
use Rattle.routes.specs.Routes.{vertices}
use Rattle.routes.proofs.Ways.{step, vertices_way}
use Rattle.routes.proofs.way.write_way.Goals as goal

-- There is room for what is left of the way.
pub write_vertex-end-requires-clause-room : goal.write_vertex-end-requires-clause-room
write_vertex-end-requires-clause-room c =
    let l = c.loop-p in
    let web = c.args.web in
    let before = c.args.notes.now.before.now in
    let q = get_or before l.p 0 in
    let v = vertices_way before web.to l.p l.invariant.0 c.loop-p-test.true q refl web.order in
    let long = ap length v ∙ length-append (vertices web.order (l.p ∷ [])) (vertices web.order (way before web.to q)) in
    omega (arith, long, l.invariant.1, c.requires.room, l.auto.bytes)

-- The rest of the way is shorter.
pub loop-p-smaller : goal.loop-p-smaller
loop-p-smaller c =
    let l = c.loop-p in
    let k = step c.args.notes.now.before.now c.args.web.to l.p l.invariant.0 c.loop-p-test.true c.noted-p.result c.noted-p.ensures in
    omega (arith, ap length k.0)

-- The vertices of the rest stand behind that of p, if it is one.
pub loop-p-preserved : goal.loop-p-preserved
loop-p-preserved c =
    let l = c.loop-p in
    let web = c.args.web in
    let before = c.args.notes.now.before.now in
    let q = c.noted-p.result in
    let k = step before web.to l.p l.invariant.0 c.loop-p-test.true q c.noted-p.ensures in
    let v = vertices_way before web.to l.p l.invariant.0 c.loop-p-test.true q c.noted-p.ensures web.order in
    let one = vertices web.order (l.p ∷ []) in
    let rest = vertices web.order (way before web.to q) in
    let long = ap length v ∙ length-append one rest in
    let here : l.end + length one ≤ length l.bytes = omega (arith, long, l.invariant.1, c.requires.room, l.auto.bytes) in
    let written = c.write_vertex-end.ensures in
    let behind = ap₂ (λ (e : ℕ) (bs : List ℕ). placed e rest bs) written.next written.items
    ∙ placed_more l.end one l.bytes here rest
    ∙ ap (λ (xs : List ℕ). placed l.end xs l.bytes) (sym v) in
    (k.1, omega (arith, long, l.invariant.1, written.next), behind ∙ l.invariant.2)

-- The last node is the whole rest.
pub write_vertex-requires-clause-room : goal.write_vertex-requires-clause-room
write_vertex-requires-clause-room c =
    let l = c.loop-p in
    let one = way_last c.args.notes.now.before.now c.args.web.to l.p c.loop-p-test.false in
    omega (arith, ap (λ (xs : List ℕ). length (vertices c.args.web.order xs)) one, l.invariant.1, c.requires.room, l.auto.bytes)

pub returns-clause-next : goal.returns-clause-next
returns-clause-next c =
    let l = c.loop-p in
    let one = way_last c.args.notes.now.before.now c.args.web.to l.p c.loop-p-test.false in
    omega (arith, ap (λ (xs : List ℕ). length (vertices c.args.web.order xs)) one, l.invariant.1, c.write_vertex.ensures.next)

pub returns-clause-items : goal.returns-clause-items
returns-clause-items c =
    let l = c.loop-p in
    let one = way_last c.args.notes.now.before.now c.args.web.to l.p c.loop-p-test.false in
    c.write_vertex.ensures.items ∙ ap (λ (xs : List ℕ). placed l.end (vertices c.args.web.order xs) l.bytes) (sym one) ∙ l.invariant.2
