-- Each set of writes has a map that stands for it.
use Rattle.std.specs.Prelude.{ℕ, List, [], ◌∷◌, ◌++◌}
use Rattle.std.specs.List.{Contains}
use Rattle.std.specs.FinMap.{empty, get-empty}
use Rattle.std.proofs.Common.{sym, subst, append-nil, append_assoc, arith}
use Rattle.ws_version.specs.Writes.{Held, Write, held_cmp, greater_held, path_cmp}
use Rattle.ws_version.specs.Laws.{held_cmp_total}
use Rattle.ws_version.proofs.Writes.{path_cmp_total, path_cmp-IsAntisymmetric}
use Rattle.ws_map.specs.Kept.{StandsFor, StandsAt, taken}
use Rattle.ws_map.proofs.Gathered.{stands_for-taken}
use Rattle.ws_register.specs.Edits.{Contents}

none_in_empty : {A : Type 0} (a : A) → ¬ (Contains [] a)
none_in_empty a c = absurd (omega (arith, c.1))

-- the empty map stands for no writes
pub empty_stands : StandsFor {C = path_cmp} held_cmp empty []
unfolding StandsFor
empty_stands q = subst (StandsAt held_cmp [] q) (sym (get-empty path_cmp q)) (λ y c. none_in_empty {A = List ℕ × Held} (q, y) c)

-- the writes V are in, and each of W is taken
gather : (V W : List Write) (m : Contents) → StandsFor held_cmp m V → (n : Contents) × StandsFor held_cmp n (V ++ W)
gather V [] m h = (m, subst (StandsFor held_cmp m) (sym (append-nil V)) h)
gather V (w ∷ W) m h =
    let n : Contents = taken greater_held m w.0 w.1 in
    let one : StandsFor held_cmp n (V ++ w ∷ []) = stands_for-taken path_cmp_total path_cmp-IsAntisymmetric held_cmp_total m V w.0 w.1 h in
    let rest = gather (V ++ w ∷ []) W n one in
    (rest.0, subst (StandsFor held_cmp rest.0) (append_assoc V (w ∷ []) W) rest.1)

pub some_contents : (W : List Write) → (m : Contents) × StandsFor held_cmp m W
some_contents W = gather [] W empty empty_stands
