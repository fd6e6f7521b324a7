-- What the order of writes owes: it is total, and writes that tie are one.
use Rattle.std.specs.Prelude.{◌≡◌, ℕ, List, Option, Some, None, refl}
use Rattle.std.specs.declared.cmp.Ordering.{Ordering}
use Rattle.std.specs.declared.cmp.Ordering.TheVariants.{Less, Equal, Greater}
use Rattle.std.specs.Ordering.{nat_cmp, ordering_then}
use Rattle.std.specs.Option.{option_cmp}
use Rattle.std.specs.Cmp.{IsTotalOrder, nat_cmp_total}
use Rattle.std.specs.Cmp.Lexicographic.{slice_cmp, options_total}
use Rattle.std.specs.FinMap.{IsAntisymmetric, nat_cmp-IsAntisymmetric, slice_cmp-IsAntisymmetric}
use Rattle.std.proofs.lemmas.Cmp.{on_total, then_total, nat_list_cmp_total}
use Rattle.std.proofs.Common.{ap}
use Rattle.ws_version.specs.Writes.{held_cmp}

pub held_cmp_total : IsTotalOrder held_cmp
held_cmp_total = then_total (on_total (λ h. h.counter) nat_cmp_total) (then_total (on_total (λ h. h.number) nat_cmp_total) (on_total (λ h. h.text) (options_total nat_list_cmp_total)))

then_first : (r s : Ordering) → ordering_then r s ≡ Equal → r ≡ Equal
then_first Less s e = cc
then_first Equal s e = refl
then_first Greater s e = cc

then_second : (r s : Ordering) → ordering_then r s ≡ Equal → s ≡ Equal
then_second Less s e = cc
then_second Equal s e = e
then_second Greater s e = cc

same_text : (a b : Option (List ℕ)) → option_cmp (slice_cmp nat_cmp) a b ≡ Equal → a ≡ b
same_text None None e = refl
same_text None (Some y) e = cc
same_text (Some x) None e = cc
same_text (Some x) (Some y) e = ap Some (slice_cmp-IsAntisymmetric nat_cmp-IsAntisymmetric x y e)

-- writes to one path that tie are one
pub held_cmp-IsAntisymmetric : IsAntisymmetric held_cmp
held_cmp-IsAntisymmetric a b e =
    let counters : a.counter ≡ b.counter = nat_cmp-IsAntisymmetric a.counter b.counter (then_first _ _ e) in
    let rest : ordering_then (nat_cmp a.number b.number) (option_cmp (slice_cmp nat_cmp) a.text b.text) ≡ Equal = then_second _ _ e in
    let numbers : a.number ≡ b.number = nat_cmp-IsAntisymmetric a.number b.number (then_first _ _ rest) in
    let texts : a.text ≡ b.text = same_text a.text b.text (then_second _ _ rest) in
    λ i. record { counter = counters i; number = numbers i; text = texts i }
