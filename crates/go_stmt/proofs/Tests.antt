-- Tests of two parts, of which the second is asked where the first doesn't decide.
use Rattle.std.proofs.Common.{◌≡◌, Bool, true, false, ◌&&◌, ◌||◌, List, [], ◌∷◌, length, get_or, suc, ◌-◌, ◌≤◌, arith, ap, sym, ◌∙◌}
use Rattle.go_typed.specs.declared.statement.TypedStmt.{TypedStmt}
use Rattle.go_typed.specs.Views.{as_stmt, stmts_in}
use Rattle.go_typed.specs.Terminating.{terminates, list_terminates}

pub or_first : (a b r x : Bool) → x ≡ (a || b) → r ≡ a → r ≡ true → r ≡ x
or_first true b r x e f g = f ∙ sym e
or_first false b r x e f g = cc

pub or_second : (a b q r x : Bool) → x ≡ (a || b) → q ≡ a → q ≡ false → r ≡ b → r ≡ x
or_second true b q r x e f g h = cc
or_second false b q r x e f g h = h ∙ sym e

pub and_second : (a b q r x : Bool) → x ≡ (a && b) → q ≡ a → q ≡ true → r ≡ b → r ≡ x
and_second true b q r x e f g h = h ∙ sym e
and_second false b q r x e f g h = cc

pub and_first : (a b r x : Bool) → x ≡ (a && b) → r ≡ a → r ≡ false → r ≡ x
and_first true b r x e f g = cc
and_first false b r x e f g = f ∙ sym e

pub last_terminates : (ss : List TypedStmt) (s : TypedStmt) → 1 ≤ length ss → s ≡ get_or ss (length ss - 1) s → terminates (as_stmt s) ≡ list_terminates (stmts_in ss)
last_terminates [] s h e = absurd (let n : ⊥ = omega arith in n)
last_terminates (t ∷ []) s h e = ap (λ x. terminates (as_stmt x)) e
last_terminates (t ∷ u ∷ ss) s h e =
    let k : length (t ∷ u ∷ ss) - 1 ≡ suc (length (u ∷ ss) - 1) = omega arith in
    last_terminates (u ∷ ss) s (let l : 1 ≤ length (u ∷ ss) = omega arith in l) (e ∙ ap (λ n. get_or (t ∷ u ∷ ss) n s) k)
