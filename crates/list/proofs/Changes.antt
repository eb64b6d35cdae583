-- A join and a part on cells: what the search for the number found, and what the shift leaves.
use Rattle.std.proofs.Common.{◌≡◌, ℕ, ◌+◌, ◌-◌, ◌<◌, ◌≤◌, true, false, ◌&&◌, eqb, ltb, List, length, get_or, Decides, sym, refl, ap, ◌∙◌, subst, arith}
use Rattle.std.proofs.lemmas.Bool.Decides.{Decides-and, Decides-ltb, Decides-eqb}
use Rattle.graph.specs.Graph.{order_limit, edges, with_edge, without_edge}
use Rattle.graph.proofs.Edges.{one_edge_more_lem, one_edge_less_lem}
use Rattle.list.specs.Cells.{code, holds, Rising, listing, listing_simple, few_vertices, place, inserted_cells, removed_cells}
use Rattle.list.specs.Edges.{Listed}
use Rattle.list.specs.Meaning.{codes_of, laid_cells, taken_cells}
use Rattle.list.specs.declared.List.{List as Store}
use Rattle.list.proofs.Shifts.{Inserted, Removed, inserted_places, removed_places}
use Rattle.list.proofs.Held.{held_at, above_place, rising_inserted, rising_removed, coded_inserted, coded_removed}
use Rattle.list.proofs.Told.{listed, coded_of}
use Rattle.list.proofs.Listings.{listing_inside, listing_inserted, listing_removed}

-- A map of n vertices in the first k cells, with the facts that a list keeps.
pub record Kept (n k : ℕ) (xs : List ℕ) : Type 0 where
  pub some : 1 ≤ n
  pub small : n ≤ order_limit
  pub fits : k ≤ length xs
  pub rising : Rising k xs
  pub tally : edges (listing n k xs) ≡ k
  pub listed : Listed (listing n k xs) xs

-- What a list says by its own fields.
pub kept_of : (s : Store) → Kept s.n s.count (codes_of s)
kept_of s = record { some = s.some; small = few_vertices s.n s.small; fits = s.fits; rising = s.rising; tally = s.tally; listed = s.listed }

-- Two different vertices, and the place at of their number d among those cells.
pub record Sought (n k : ℕ) (xs : List ℕ) (u v d at : ℕ) : Type 0 where
  pub first : u < n
  pub second : v < n
  pub differ : u ≡ v → ⊥
  pub number : d ≡ code u v
  pub value : at ≡ place k xs d
  pub bound : at ≤ k
  pub below : (i : ℕ) → i < at → get_or xs i 0 < d
  pub above : (i : ℕ) → at ≤ i → i < k → d ≤ get_or xs i 0

module _ (n k : ℕ) (xs : List ℕ) (u v d at : ℕ) (kept : Kept n k xs) (s : Sought n k xs u v d at) where
  -- The number of joined vertices stands at its place.
  pub standing : (listing n k xs).joined u v ≡ true → (at < k) × (get_or xs at 0 ≡ d)
  standing on =
      let b = ltb at k && eqb (get_or xs at 0) d in
      let decides : Decides b ((at < k) × (get_or xs at 0 ≡ d)) = Decides-and (ltb at k) (eqb (get_or xs at 0) d) (Decides-ltb at k) (Decides-eqb (get_or xs at 0) d) in
      let held_here : b ≡ holds k xs d = held_at k xs d at kept.rising s.below s.above b decides in
      decides.0 (held_here ∙ ap (holds k xs) s.number ∙ listing_inside n k xs u v s.first s.second s.differ ∙ on)

  -- The cells after an insertion there are those after a join.
  pub inserted_value : (ys : List ℕ) → ys ≡ inserted_cells xs k at d → ys ≡ laid_cells (listing n k xs) xs u v
  inserted_value ys e = e ∙ rw (s.value, s.number) refl ∙ ap (λ (m : ℕ). inserted_cells xs m (place m xs (code u v)) (code u v)) (sym kept.tally)

  -- The cells after a removal there are those after a part.
  pub removed_value : (ys : List ℕ) → ys ≡ removed_cells xs k at → ys ≡ taken_cells (listing n k xs) xs u v
  removed_value ys e = e ∙ rw (s.value, s.number) refl ∙ ap (λ (m : ℕ). removed_cells xs m (place m xs (code u v))) (sym kept.tally)

  -- What stands at each place after the insertion.
  inserted_in : (ys : List ℕ) → k < length xs → ys ≡ inserted_cells xs k at d → Inserted xs ys k at d
  inserted_in ys room e = subst (λ (zs : List ℕ). Inserted xs zs k at d) (sym e) (inserted_places xs k at d s.bound room)

  -- What stands at each place after the removal.
  removed_in : (ys : List ℕ) → at < k → ys ≡ removed_cells xs k at → Removed xs ys k at
  removed_in ys l e = subst (λ (zs : List ℕ). Removed xs zs k at) (sym e) (removed_places xs k at l kept.fits)

  -- An insertion keeps the number of cells.
  pub inserted_size : (ys : List ℕ) → k < length xs → ys ≡ inserted_cells xs k at d → length ys ≡ length xs
  inserted_size ys room e = (inserted_in ys room e).size

  -- An insertion lays the edge.
  pub inserted_graph : (ys : List ℕ) → k < length xs → ys ≡ inserted_cells xs k at d → listing n (k + 1) ys ≡ with_edge (listing n k xs) u v
  inserted_graph ys room e =
      listing_inserted n k xs ys at u v kept.small s.first s.second s.differ s.bound
      (subst (λ (x : ℕ). Inserted xs ys k at x) s.number (inserted_in ys room e))

  -- An insertion of what was not held leaves a list that keeps the facts.
  pub inserted_kept : (ys : List ℕ) → k < length xs → (listing n k xs).joined u v ≡ false → ys ≡ inserted_cells xs k at d → Kept n (k + 1) ys
  inserted_kept ys room apart e =
      let absent : holds k xs d ≡ false = ap (holds k xs) s.number ∙ listing_inside n k xs u v s.first s.second s.differ ∙ apart in
      let more = (one_edge_more_lem (listing n k xs) u v (listing_simple n k xs kept.some kept.small) s.first s.second s.differ apart).1 in
      let e' = inserted_in ys room e in
      let size : k + 1 ≤ length ys = omega (arith, inserted_size ys room e) in
      let up = rising_inserted k xs ys at d kept.rising s.bound s.below (above_place k xs d at s.above absent) e' in
      let tally = ap edges (inserted_graph ys room e) ∙ more ∙ ap (λ (x : ℕ). x + 1) kept.tally in
      let coded = coded_inserted n k xs ys at u v (coded_of n k xs kept.fits kept.tally kept.listed) (omega (arith, kept.small)) s.first s.second s.differ s.bound
      (subst (λ (x : ℕ). Inserted xs ys k at x) s.number e') in
      record { some = kept.some; small = kept.small; fits = size; rising = up; tally = tally; listed = listed n (k + 1) ys size up coded tally }

  -- A removal keeps the number of cells.
  pub removed_size : (ys : List ℕ) → at < k → ys ≡ removed_cells xs k at → length ys ≡ length xs
  removed_size ys l e = (removed_in ys l e).size

  -- A removal takes the edge up.
  pub removed_graph : (ys : List ℕ) → at < k → get_or xs at 0 ≡ d → ys ≡ removed_cells xs k at → listing n (k - 1) ys ≡ without_edge (listing n k xs) u v
  removed_graph ys l stood e =
      listing_removed n k xs ys at u v kept.small s.first s.second kept.rising l (stood ∙ s.number) (removed_in ys l e)

  -- A removal of what was held leaves a list that keeps the facts.
  pub removed_kept : (ys : List ℕ) → at < k → get_or xs at 0 ≡ d → (listing n k xs).joined u v ≡ true → ys ≡ removed_cells xs k at → Kept n (k - 1) ys
  removed_kept ys l stood on e =
      let less = (one_edge_less_lem (listing n k xs) u v (listing_simple n k xs kept.some kept.small) on).1 in
      let e' = removed_in ys l e in
      let size : k - 1 ≤ length ys = omega (arith, removed_size ys l e, kept.fits) in
      let up = rising_removed k xs ys at kept.rising l e' in
      let tally : edges (listing n (k - 1) ys) ≡ k - 1 = ap edges (removed_graph ys l stood e) ∙ omega (arith, less, kept.tally) in
      let coded = coded_removed n k xs ys at (coded_of n k xs kept.fits kept.tally kept.listed) e' in
      record { some = kept.some; small = kept.small; fits = size; rising = up; tally = tally; listed = listed n (k - 1) ys size up coded tally }
