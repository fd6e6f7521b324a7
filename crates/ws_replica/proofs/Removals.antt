-- A removal's refusal, of the writes that a replica took.
use Rattle.std.specs.Prelude.{◌≡◌, ℕ, List, None, Result, IfErr, OnOk}
use Rattle.std.specs.FinMap.{get}
use Rattle.std.proofs.Common.{subst}
use Rattle.ws_version.specs.Writes.{Write, held_cmp}
use Rattle.ws_map.specs.Kept.{StandsFor}
use Rattle.ws_register.specs.declared.EditError.{EditError}
use Rattle.ws_register.specs.Edits.{Contents, top, greatest_at, greatest_counter, removal_refusal, IsRefusal}
use Rattle.ws_register.proofs.Counters.{greatest_counter-top}
use Rattle.ws_register.proofs.Greatest.{greatest_at-held}

module _ (m : Contents) (W : List Write) (path : List ℕ) (stands : StandsFor held_cmp m W) where
  same_refusal : removal_refusal (greatest_counter m) path (get m path) ≡ removal_refusal (top W) path (greatest_at path W)
  same_refusal = λ i. removal_refusal (greatest_counter-top m W stands i) path (greatest_at-held m W path stands i)

  pub refused-taken : (result : Result (Unit {0}) EditError) → IfErr result (λ error. IsRefusal error (removal_refusal (greatest_counter m) path (get m path))) → IfErr result (λ error. IsRefusal error (removal_refusal (top W) path (greatest_at path W)))
  refused-taken result held = subst (λ refusal. IfErr result (λ error. IsRefusal error refusal)) same_refusal held

  pub allowed-taken : (result : Result (Unit {0}) EditError) → OnOk result (removal_refusal (greatest_counter m) path (get m path) ≡ None) → OnOk result (removal_refusal (top W) path (greatest_at path W) ≡ None)
  allowed-taken result held = subst (λ refusal. OnOk result (refusal ≡ None)) same_refusal held
