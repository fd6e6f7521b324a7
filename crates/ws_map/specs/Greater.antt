-- The greater of two in an order, and of two that may be missing.
use Rattle.std.specs.Prelude.{◌≡◌, cond, Option, Some, None}
use Rattle.std.specs.declared.cmp.Ordering.{Ordering}
use Rattle.std.specs.Ordering.{is_lt}

-- the greater of two, and the first where they tie
abbrev pub greater : {X : Type 0} → (X → X → Ordering) → X → X → X
greater R x y = cond (is_lt (R x y)) y x

-- of two that may be missing
abbrev pub joined_option : {X : Type 0} → (X → X → X) → Option X → Option X → Option X
joined_option f None o = o
joined_option f (Some x) None = Some x
joined_option f (Some x) (Some y) = Some (f x y)

-- the laws of a join
pub record IsSemilattice {X : Type 0} (f : X → X → X) : Type 0 where
  pub commutative : (x y : X) → f x y ≡ f y x
  pub associative : (x y z : X) → f (f x y) z ≡ f x (f y z)
  pub idempotent : (x : X) → f x x ≡ x
