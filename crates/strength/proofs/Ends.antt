-- The rounds of the variants with the computation's own ends are its rounds.
use Rattle.std.proofs.Common.{◌≡◌, ℕ, suc, ◌+◌, ◌-◌, cond, ◌&&◌, leb, List, [], ◌∷◌, ◌++◌, take, sym, refl, ap, ◌∙◌}
use Rattle.graph.specs.Graph.{Graph}
use Rattle.cuts.specs.declared.run.Run.{Run}
use Rattle.cuts.specs.Computations.{Computed, least_degree, sparsest, neighbours, least_value, far_runs, near_runs, more_runs, vertex_runs}
use Rattle.strength.specs.Variants.{rounds_with, RightEnds}
use Rattle.strength.proofs.VertexStrength.{computed_runs}

-- Round by round they are the same.
same_rounds : (g : Graph) (δ i : ℕ) (bs : List ℕ) (runs : List Run) → rounds_with 3 1 g δ i bs runs ≡ more_runs g δ i bs runs
unfolding rounds_with more_runs
same_rounds g δ i [] runs = refl
same_rounds g δ i (a ∷ bs) runs =
    ap (λ (x : List Run). cond (leb (i + 3) δ && leb i (least_value g.order runs)) x runs)
    (same_rounds g δ (suc i) bs (runs ++ near_runs g a (take (δ - 1 - i) bs)))

-- So the runs are the same, and the strength that they give.
pub right_ends_lem : RightEnds
unfolding vertex_runs
right_ends_lem g =
    let same = same_rounds g (least_degree g) 1 (neighbours g (sparsest g)) (far_runs g (sparsest g)) in
    (same, λ h. ap (least_value g.order) same ∙ sym (ap (λ (c : Computed ℕ). c.strength) (computed_runs g h)))
