use Rattle.std.proofs.Common.{◌≡◌, ℕ, true, false, ltb, ◌≤◌, arith, rules, tests}
use Rattle.std.specs.List.Sorted.{IsPartitionPoint}
use Rattle.std.proofs.lemmas.List.Sorted.{IsPartitionPoint-from_clause}
use Rattle.list.specs.Meaning.{codes_of}
use Rattle.list.proofs.Held.{place_is}
use Rattle.list.proofs.Searches.{parted, used_size, before_point, from_point}
use Rattle.list.proofs.List.seek.Goals as goal

pub returns : goal.returns
returns c =
    let s = c.args.self.now in
    let k = s.count in
    let xs = codes_of s in
    let used = c.used.result.now in
    let d = c.args.c in
    let r = c.partition_point.result in
    let facts = c.partition_point.ensures in
    let point : IsPartitionPoint (λ (y : ℕ). ltb y d ≡ true) (λ (y : ℕ). ltb y d ≡ false) used r =
    IsPartitionPoint-from_clause (λ (y : ℕ). ltb y d) _ r facts.partitioned (parted k xs used c.used.ensures s.fits s.rising d) (λ a b f q. search (rules, tests)) in
    let below = before_point k xs used c.used.ensures s.fits s.rising d r facts.bound point in
    let above = from_point k xs used c.used.ensures s.fits s.rising d r point in
    let bound : r ≤ k = omega (arith, facts.bound, used_size k xs used c.used.ensures s.fits s.rising) in
    record { value = place_is k xs d r bound below above; bound = bound; below = below; above = above }
