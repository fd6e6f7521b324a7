use Rattle.std.proofs.Common.{Result, Ok, Err, refl}
use Rattle.std.specs.Prelude.{MatchResult, IsOk}
use Rattle.go_pexpr.proofs.literal.text_from.Goals as goal

answered : {T E : Type 0} (r : Result T E) (P : T → Type 0) (Q : E → Type 0) → MatchResult r P Q → ((e : E) → Q e → ⊥) → IsOk r
answered (Ok x) P Q m never = refl
answered (Err e) P Q m never = absurd (never e m)

pub unwrap-text-requires : goal.unwrap-text-requires
unwrap-text-requires c = answered c.from_utf8.result _ _ c.from_utf8.ensures.cases (λ e q. q.0 c.requires)
