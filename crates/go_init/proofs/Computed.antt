-- Package orders that are computed.
use Rattle.std.proofs.Common.{◌≡◌, [], ◌∷◌, refl}
use Rattle.go_init.specs.Packages.{package_order}

-- a, app, b and z: a imports z, app imports a and b
pub order_by_paths : package_order ((3 ∷ []) ∷ (0 ∷ 2 ∷ []) ∷ [] ∷ [] ∷ []) ≡ 2 ∷ 3 ∷ 0 ∷ 1 ∷ []
order_by_paths = refl

-- depth first from the last one, 1 would come first
pub not_depth_first : package_order ([] ∷ [] ∷ (1 ∷ 0 ∷ []) ∷ []) ≡ 0 ∷ 1 ∷ 2 ∷ []
not_depth_first = refl

-- 0 and 1 import each other, 2 imports them, 3 itself, and 4 a number without a row
pub circles_are_left : package_order ((1 ∷ []) ∷ (0 ∷ []) ∷ (0 ∷ 1 ∷ []) ∷ (3 ∷ []) ∷ (7 ∷ []) ∷ []) ≡ 4 ∷ []
circles_are_left = refl
