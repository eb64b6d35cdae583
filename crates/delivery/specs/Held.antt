-- What the memory of each store holds once a session of events has come to a planner, written out.
--
--   GridHolds   words as a grid
--   ListHolds   cells as a list
use Rattle.std.specs.Prelude.{ℕ, true, false, List, Result}
use Rattle.law.specs.Law.{Event}
use Rattle.session.specs.declared.planner.Planner.{Planner}
use Rattle.session.specs.Held.{HoldsAfter}
use Rattle.grid.specs.Rows.{wiped, edge_words}
use Rattle.grid.specs.declared.Grid.{Grid}
use Rattle.list.specs.Meaning.{codes_of, laid_cells, taken_cells}
use Rattle.list.specs.declared.List.{List as ListStore}

-- A make wipes the rows of its vertices. An edge laid has its two bits set, and one taken up has them cleared.
abbrev pub GridHolds : {M : Type 0} → List ℕ → Result (Planner Grid) M → List Event → Type 0
GridHolds words session events =
    HoldsAfter (λ s. s.words.now) (λ n. wiped n words) (λ g xs u v. edge_words true xs u v) (λ g xs u v. edge_words false xs u v) session events

-- A make leaves the cells as they were lent. The number of an edge laid goes in where it belongs, and that of
-- one taken up goes out.
abbrev pub ListHolds : {M : Type 0} → List ℕ → Result (Planner ListStore) M → List Event → Type 0
ListHolds cells session events = HoldsAfter codes_of (λ n. cells) laid_cells taken_cells session events
