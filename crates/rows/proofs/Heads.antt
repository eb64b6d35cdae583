-- What the words of a set of arcs say: of a row, with the rows of its heads wiped, and with one bit set or
-- cleared.
use Rattle.std.proofs.Common.{◌≡◌, ℕ, ◌+◌, ◌-◌, ◌*◌, ◌/◌, ◌<◌, ◌≤◌, Bool, true, false, cond, ◌&&◌, ◌||◌, eqb, ltb, List, ◌++◌, length, drop, replicate, sym, refl, ap, ◌∙◌, ⊎_elim, arith, length-take}
use mathlib.Core.Path.{fun_ext}
use Rattle.std.specs.List.{between}
use Rattle.std.proofs.Math.Bool.{or-false}
use Rattle.std.proofs.lemmas.Bool.{cases_lt, lt-ltb, le-ltb, eqb-true, ne_eqb, and_parts, and_from, and_left, and_right}
use Rattle.graph.specs.Graph.{first}
use Rattle.graph.proofs.Firsts.{first_ext}
use Rattle.bits.specs.Bits.{has}
use Rattle.bits.proofs.Parts.{has_past, part_has, wiped_has}
use Rattle.bits.proofs.Writes.{or_mask, and_mask}
use Rattle.rows.specs.Layout.{set_words, set_limit, row_words}
use Rattle.rows.specs.Flow.{carried, with_arc, without_arc}
use Rattle.rows.specs.declared.flow.Arcs.{Arcs}
use Rattle.rows.proofs.Sets.{guard_cond}

-- No arc has a tail past the bits of a row.
tail_past : (a : Arcs) (q p : ℕ) → set_limit ≤ q → carried a q p ≡ false
unfolding carried
tail_past a q p h = rw (le-ltb q set_limit h)

-- No arc has a head past those of the set.
pub head_past : (a : Arcs) (q p : ℕ) → a.heads ≤ p → carried a q p ≡ false
unfolding carried
head_past a q p h =
    and_left (ltb q set_limit && ltb p a.heads) (has a.words.now (row_words * p) q) (and_right (ltb q set_limit) (ltb p a.heads) (le-ltb p a.heads h))

-- So with no arc to it added, a set is as it was.
pub none_added : (a : Arcs) (q p : ℕ) (b : Bool) → a.heads ≤ p → b ≡ (b || carried a q p)
none_added a q p b h = rw (head_past a q p h) (sym (or-false b))

-- Elsewhere a bit says whether an arc is there.
carried_in : (a : Arcs) (q p : ℕ) → q < set_limit → p < a.heads → has a.words.now (row_words * p) q ≡ carried a q p
unfolding carried
carried_in a q p h k = rw (lt-ltb q set_limit h, lt-ltb p a.heads k)

-- The used words of a row have the row's arcs and no more.
pub row_says : (a : Arcs) (p : ℕ) → p < a.heads → (q : ℕ) → has (between (row_words * p) (row_words * p + set_words) a.words.now) 0 q ≡ carried a q p
row_says a p head q =
    let xs = a.words.now in
    let long : length (between (row_words * p) (row_words * p + set_words) xs) ≤ set_words = simp length-take (omega arith) in
    ⊎_elim
    (λ t. part_has xs (row_words * p) (row_words * p + set_words) q (omega arith) ∙ carried_in a q p t head)
    (λ t. has_past (between (row_words * p) (row_words * p + set_words) xs) 0 q (omega arith) ∙ sym (tail_past a q p t))
    (cases_lt q set_limit)

-- Looking through its words finds the tails of the row's arcs.
pub tails_found : (a : Arcs) (row : List ℕ) (p w : ℕ) → length row ≡ set_words → ((q : ℕ) → has row 0 q ≡ carried a q p)
    → first (has row 0) w (64 * length row - w) ≡ first (λ q. carried a q p) w (set_limit - w)
tails_found a row p w size says =
    ap (λ (n : ℕ). first (has row 0) w (64 * n - w)) size ∙ first_ext (has row 0) (λ q. carried a q p) w (set_limit - w) (λ k low high. says k)

-- Where the rows of all heads are wiped, there is no arc.
pub none_carried : (a : Arcs) (xs : List ℕ) (n : ℕ) → a.words.now ≡ replicate n 0 ++ drop n xs → n ≡ row_words * a.heads → carried a ≡ (λ x y. false)
unfolding carried
none_carried a xs n e size =
    fun_ext (λ x. fun_ext (λ y.
    let g = ltb x set_limit && ltb y a.heads in
    let h = has a.words.now (row_words * y) x in
    ⊎_elim
    (λ l. ⊎_elim
    (λ k. and_right g h (ap (λ (zs : List ℕ). has zs (row_words * y) x) e ∙ wiped_has n xs (row_words * y) x (omega (arith, size))))
    (λ k. and_left g h (and_right (ltb x set_limit) (ltb y a.heads) (le-ltb y a.heads k)))
    (cases_lt y a.heads))
    (λ l. and_left g h (and_left (ltb x set_limit) (ltb y a.heads) (le-ltb x set_limit l)))
    (cases_lt x set_limit)))

-- Two tests one in the other are both.
cond_both : (tail head on h : Bool) → cond head (cond tail on h) h ≡ cond (tail && head) on h
cond_both true head on h = refl
cond_both false true on h = refl
cond_both false false on h = refl

-- The words of b are those of a, but that the bit of the arc from q to p is set or not.
module _ (a b : Arcs) (same : b.heads ≡ a.heads) (q p : ℕ) (on : Bool) (tail : q < set_limit) (head : p < a.heads)
    (bits : (y x : ℕ) → x / 64 < row_words
    → has b.words.now (row_words * y) x ≡ cond (eqb y p) (cond (eqb x q) on (has a.words.now (row_words * y) x)) (has a.words.now (row_words * y) x)) where
  -- The arc is there or not, and each other is as it was.
  changed : (x y : ℕ) → carried b x y ≡ cond (eqb x q && eqb y p) on (carried a x y)
  unfolding carried
  changed x y =
      let g = ltb x set_limit && ltb y a.heads in
      let h = has a.words.now (row_words * y) x in
      let inside : (eqb x q && eqb y p) ≡ true → g ≡ true =
      λ e. let t = eqb-true x q (and_parts (eqb x q) (eqb y p) e).0 in
      let u = eqb-true y p (and_parts (eqb x q) (eqb y p) e).1 in
      and_from (ltb x set_limit) (ltb y a.heads) (lt-ltb x set_limit (omega arith)) (lt-ltb y a.heads (omega arith)) in
      ap (λ (n : ℕ). (ltb x set_limit && ltb y n) && has b.words.now (row_words * y) x) same
      ∙ ⊎_elim
      (λ l. ap (λ (c : Bool). g && c) (bits y x (omega arith)) ∙ ap (λ (c : Bool). g && c) (cond_both (eqb x q) (eqb y p) on h)
      ∙ guard_cond g (eqb x q && eqb y p) on h inside)
      (λ l. let off : g ≡ false = and_left (ltb x set_limit) (ltb y a.heads) (le-ltb x set_limit l) in
      let other : (eqb x q && eqb y p) ≡ false = and_left (eqb x q) (eqb y p) (ne_eqb x q (λ e. omega arith)) in
      and_left g (has b.words.now (row_words * y) x) off
      ∙ sym (ap (λ (e : Bool). cond e on (g && h)) other ∙ and_left g h off))
      (cases_lt x set_limit)

  -- Set: the arcs with this one.
  pub changed_with : on ≡ true → carried b ≡ with_arc (carried a) q p
  changed_with e =
      fun_ext (λ x. fun_ext (λ y.
      changed x y ∙ ap (λ (o : Bool). cond (eqb x q && eqb y p) o (carried a x y)) e ∙ sym (or_mask (carried a x y) (eqb x q && eqb y p))))

  -- Cleared: the arcs without it.
  pub changed_without : on ≡ false → carried b ≡ without_arc (carried a) q p
  changed_without e =
      fun_ext (λ x. fun_ext (λ y.
      changed x y ∙ ap (λ (o : Bool). cond (eqb x q && eqb y p) o (carried a x y)) e ∙ sym (and_mask (carried a x y) (eqb x q && eqb y p))))
