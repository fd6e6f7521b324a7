-- What the code's tables are seen as, behind a write.
use Rattle.std.proofs.Common.{◌≡◌, ℕ, zero, suc, ◌≤◌, List, [], ◌∷◌, Option, map, length, String, string_bytes, refl, ap, arith}
use Rattle.std.specs.Prelude.{option_map}
use Rattle.std.specs.Global.{Global}
use Rattle.indexmap.specs.IndexMap.{set_value_at}
use Rattle.go_expr.specs.Known as known
use Rattle.go_expr.specs.declared.known.Declared.{Declared}
use Rattle.go_expr.specs.Views.{declared_of}

abbrev pub entry_of : String Global × Option Declared → List ℕ × Option known.Declared
entry_of e = (string_bytes e.0, option_map declared_of e.1)

pub written : (entries : List (String Global × Option Declared)) (i : ℕ) (d : Option Declared) → map entry_of (set_value_at entries i d) ≡ set_value_at (map entry_of entries) i (option_map declared_of d)
written [] i d = refl
written (e ∷ es) zero d = refl
written (e ∷ es) (suc i) d = ap (λ l. entry_of e ∷ l) (written es i d)

pub not_written : (entries : List (String Global × Option Declared)) (i : ℕ) (d : Option known.Declared) → length entries ≤ i → map entry_of entries ≡ set_value_at (map entry_of entries) i d
not_written [] i d past = refl
not_written (e ∷ es) zero d past = absurd (omega (arith, past))
not_written (e ∷ es) (suc i) d past = ap (λ l. entry_of e ∷ l) (not_written es i d (omega (arith, past)))
