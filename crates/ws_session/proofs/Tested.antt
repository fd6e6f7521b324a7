-- Options that are tested, and lists of no action.
use Rattle.std.proofs.Common.{◌≡◌, ℕ, [], Option, None, Some, true, false, Bool, refl, sym, ◌∙◌, arith}
use Rattle.std.specs.Prelude.{is_some}
use Rattle.std.proofs.lemmas.Bool.{false≢true}
use Rattle.ws_action.specs.Clash.{AllSized}

pub is_none_then : (o : Option ℕ) (b : Bool) → b ≡ is_some o → b ≡ false → o ≡ None
is_none_then None b e f = refl
is_none_then (Some k) b e f = absurd (false≢true (sym f ∙ e))

pub is_some_then : (o : Option ℕ) (b : Bool) → b ≡ is_some o → b ≡ true → (k : ℕ) × (o ≡ Some k)
is_some_then None b e f = absurd (false≢true (sym e ∙ f))
is_some_then (Some k) b e f = (k, refl)

pub none_sized : AllSized []
none_sized = λ a h. absurd (omega (arith, h.1))
