-- A join and a part by the table are accepted exactly when the plain statement says.
use Rattle.std.proofs.Common.{◌≡◌, ℕ, Ok, Err, IsOk, ◌↔◌, refl, sym, ap, ◌∙◌}
use Rattle.std.specs.Prelude.{is_ok}
use Rattle.graph.specs.Graph.{Graph}
use Rattle.model.specs.declared.call.Call.TheVariants.{Join, Part}
use Rattle.model.specs.Model.{bare}
use Rattle.model.specs.Table.{Reply, reply_on}
use Rattle.model.specs.Meaning.{JoinAccepted, PartAccepted}
use Rattle.model.proofs.Replies.{exactly_when}

-- Only acceptance is Ok.
ok_only : (r : Reply) → IsOk r → r ≡ Ok tt
ok_only (Ok _) h = refl
ok_only (Err _) h = cc

pub join_accepted : (r : Reply) (g : Graph) (most u v : ℕ) → r ≡ reply_on (bare g most) (Join u v) → IsOk r ↔ JoinAccepted g most u v
join_accepted r g most u v e = (
  λ h. (exactly_when g most u v).0 (sym e ∙ ok_only r h),
  λ h. ap is_ok (e ∙ (exactly_when g most u v).1 h),
)

pub part_accepted : (r : Reply) (g : Graph) (most u v : ℕ) → r ≡ reply_on (bare g most) (Part u v) → IsOk r ↔ PartAccepted g u v
part_accepted r g most u v e = (
  λ h. (exactly_when g most u v).2 (sym e ∙ ok_only r h),
  λ h. ap is_ok (e ∙ (exactly_when g most u v).3 h),
)
