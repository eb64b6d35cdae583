-- The cells in use hold the numbers of the edges, ascending.
use Rattle.std.proofs.Common.{◌≡◌, ℕ, zero, suc, ◌+◌, ◌*◌, ◌/◌, ◌%◌, ◌<◌, ◌≤◌, Bool, true, false, not, ◌&&◌, eqb, ltb, List, [], ◌∷◌, length, take, get_or, sym, refl, ap, ◌∙◌, ⊎_elim, arith}
use Rattle.std.specs.List.{All, filter, range_with_len}
use Rattle.std.proofs.lemmas.List.{places}
use Rattle.std.proofs.lemmas.List.Elements.{All-get_or, filter_passes}
use Rattle.std.proofs.lemmas.Bool.{cases_Bool, cases_eq, and_parts, lt-ltb, ltb-true, ne_eqb, true≢false}
use Rattle.graph.specs.Graph.{edges}
use Rattle.list.specs.Cells.{code, holds, Rising, listing}
use Rattle.list.specs.Edges.{is_edge_code, edge_codes, Listed}
use Rattle.list.proofs.Held.{Coded, held_where, held_index}

-- Ascending numbers, which are those of the m numbers from a up that pass a test.
record Picked (p : ℕ → Bool) (a m : ℕ) (xs : List ℕ) : Type 0 where
  up : (i j : ℕ) → i < j → j < length xs → get_or xs i 0 < get_or xs j 0
  from : (i : ℕ) → i < length xs → a ≤ get_or xs i 0
  below : (i : ℕ) → i < length xs → get_or xs i 0 < a + m
  pass : (i : ℕ) → i < length xs → p (get_or xs i 0) ≡ true
  found : (c : ℕ) → a ≤ c → c < a + m → p c ≡ true → (i : ℕ) × (i < length xs) × (get_or xs i 0 ≡ c)

-- Where a fails, they are those from a + 1 up.
later : (p : ℕ → Bool) (a m : ℕ) (xs : List ℕ) → p a ≡ false → Picked p a (suc m) xs → Picked p (a + 1) m xs
later p a m xs off h = record {
  up = h.up;
  from = λ i l. ⊎_elim
      (λ e. absurd (true≢false (sym (h.pass i l) ∙ ap p e ∙ off)))
      (λ ne. omega (arith, h.from i l, ne))
      (cases_eq (get_or xs i 0) a);
  below = λ i l. omega (arith, h.below i l);
  pass = h.pass;
  found = λ c l m. h.found c (omega arith) (omega arith);
}

-- Where a passes, it is the first, and the others are those from a + 1 up.
first_is : (p : ℕ → Bool) (a m x : ℕ) (xs : List ℕ) → p a ≡ true → Picked p a (suc m) (x ∷ xs) → x ≡ a
first_is p a m x xs on h =
    let f = h.found a (omega arith) (omega arith) on in
    ⊎_elim
    (λ e. ap (λ (i : ℕ). get_or (x ∷ xs) i 0) (sym e) ∙ f.2)
    (λ ne. let z : ⊥ = omega (arith, h.up 0 f.0 (omega (arith, ne)) f.1, h.from 0 (omega (arith, f.1)), f.2) in absurd z)
    (cases_eq f.0 0)

others : (p : ℕ → Bool) (a m x : ℕ) (xs : List ℕ) → x ≡ a → Picked p a (suc m) (x ∷ xs) → Picked p (a + 1) m xs
others p a m x xs e h = record {
  up = λ i j l k. h.up (suc i) (suc j) (omega arith) (omega arith);
  from = λ i l. omega (arith, h.up 0 (suc i) (omega arith) (omega arith), e);
  below = λ i l. omega (arith, h.below (suc i) (omega arith));
  pass = λ i l. h.pass (suc i) (omega arith);
  found = λ c l k on.
      let f = h.found c (omega arith) (omega arith) on in
      back c l f.0 f.1 f.2;
}
  where
    back : (c : ℕ) → a + 1 ≤ c → (i : ℕ) → i < length (x ∷ xs) → get_or (x ∷ xs) i 0 ≡ c → (j : ℕ) × (j < length xs) × (get_or xs j 0 ≡ c)
    back c l zero k q = absurd (omega (arith, q, e))
    back c l (suc j) k q = (j, omega arith, q)

-- So they are the range without those that fail.
picked : (m a : ℕ) (p : ℕ → Bool) (xs : List ℕ) → Picked p a m xs → xs ≡ filter p (range_with_len a m)
picked zero a p [] h = refl
picked zero a p (x ∷ xs) h = absurd (omega (arith, h.from 0 (omega arith), h.below 0 (omega arith)))
picked (suc m) a p [] h =
    ⊎_elim
    (λ on. absurd (omega (arith, (h.found a (omega arith) (omega arith) on).1)))
    (λ off. rw off (picked m (a + 1) p [] (later p a m [] off h)))
    (cases_Bool (p a))
picked (suc m) a p (x ∷ xs) h =
    ⊎_elim
    (λ on. let e = first_is p a m x xs on h in
    rw on (ap (λ (y : ℕ). y ∷ xs) e ∙ ap (λ (ys : List ℕ). a ∷ ys) (picked m (a + 1) p xs (others p a m x xs e h))))
    (λ off. rw off (picked m (a + 1) p (x ∷ xs) (later p a m (x ∷ xs) off h)))
    (cases_Bool (p a))

-- A number of two vertices is that of its two parts.
code_parts : (c : ℕ) → c / 256 < c % 256 → code (c / 256) (c % 256) ≡ c
code_parts c l = omega arith

-- Cells in use, with the facts that a list keeps.
module _ (n k : ℕ) (xs : List ℕ) (fits : k ≤ length xs) (up : Rising k xs) (coded : Coded n k xs) where
  size : length (take k xs) ≡ k
  size = grind (arith, places)

  at : (i : ℕ) → i < k → get_or (take k xs) i 0 ≡ get_or xs i 0
  at i l = grind (arith, places)

  -- What stands in a cell is the number of an edge.
  passes : (c i : ℕ) → i < k → get_or xs i 0 ≡ c → c / 256 < c % 256 → c % 256 < n → is_edge_code (listing n k xs) c ≡ true
  passes c i l e low high =
      let on : holds k xs (code (c / 256) (c % 256)) ≡ true = held_where k xs (code (c / 256) (c % 256)) i l (e ∙ sym (code_parts c low)) in
      rw (lt-ltb (c / 256) (c % 256) low, lt-ltb (c / 256) n (omega arith), lt-ltb (c % 256) n high, ne_eqb (c / 256) (c % 256) (λ q. omega (arith, q)), on)

  -- The number of an edge stands in a cell.
  stands : (c : ℕ) → is_edge_code (listing n k xs) c ≡ true → (i : ℕ) × (i < k) × (get_or xs i 0 ≡ c)
  stands c on =
      let p = and_parts (ltb (c / 256) (c % 256)) ((listing n k xs).joined (c / 256) (c % 256)) on in
      let q = and_parts ((ltb (c / 256) n && ltb (c % 256) n) && not (eqb (c / 256) (c % 256))) (holds k xs (code (c / 256) (c % 256))) p.1 in
      let f = held_index k xs (code (c / 256) (c % 256)) q.1 in
      (f.0, f.1, f.2 ∙ code_parts c (ltb-true (c / 256) (c % 256) p.0))

  used : Picked (is_edge_code (listing n k xs)) 0 (256 * n) (take k xs)
  used = record {
    up = λ i j l m. omega (arith, at i (omega (arith, size)), at j (omega (arith, size)), up i j l (omega (arith, size)));
    from = λ i l. omega arith;
    below = λ i l. let m : i < k = omega (arith, size) in omega (arith, at i m, (coded i m).0, (coded i m).1);
    pass = λ i l. let m : i < k = omega (arith, size) in rw (at i m) (passes (get_or xs i 0) i m refl (coded i m).0 (coded i m).1);
    found = λ c l m on. let f = stands c on in (f.0, omega (arith, f.1, size), at f.0 f.1 ∙ f.2);
  }

  -- So the cells in use are the numbers of the edges.
  pub listed : edges (listing n k xs) ≡ k → Listed (listing n k xs) xs
  unfolding edge_codes
  listed tally = record {
    fits = omega (arith, tally, fits);
    codes = ap (λ (m : ℕ). take m xs) tally ∙ picked (256 * n) 0 (is_edge_code (listing n k xs)) (take k xs) used;
  }

-- What lists the edges holds numbers of two vertices.
pub coded_of : (n k : ℕ) (xs : List ℕ) → k ≤ length xs → edges (listing n k xs) ≡ k → Listed (listing n k xs) xs → Coded n k xs
unfolding edge_codes
coded_of n k xs fits tally told i l =
    let g = listing n k xs in
    let c = get_or xs i 0 in
    let used : take k xs ≡ filter (is_edge_code g) (range_with_len 0 (256 * n)) = ap (λ (m : ℕ). take m xs) (sym tally) ∙ told.codes in
    let all : All (λ (x : ℕ). is_edge_code g x ≡ true) (take k xs) = rw used (filter_passes (is_edge_code g) (range_with_len 0 (256 * n))) in
    let here : get_or (take k xs) i 0 ≡ c = grind (arith, places) in
    let on : is_edge_code g c ≡ true = rw here at (All-get_or (λ (x : ℕ). is_edge_code g x ≡ true) (take k xs) i 0 (grind (arith, places)) all) in
    let p = and_parts (ltb (c / 256) (c % 256)) (g.joined (c / 256) (c % 256)) on in
    let q = and_parts ((ltb (c / 256) n && ltb (c % 256) n) && not (eqb (c / 256) (c % 256))) (holds k xs (code (c / 256) (c % 256))) p.1 in
    let r = and_parts (ltb (c / 256) n && ltb (c % 256) n) (not (eqb (c / 256) (c % 256))) q.0 in
    (ltb-true (c / 256) (c % 256) p.0, ltb-true (c % 256) n (and_parts (ltb (c / 256) n) (ltb (c % 256) n) r.0).1)
