use Rattle.std.proofs.Common.{◌≡◌, ◌+◌, List, ℕ, sym, subst, arith}
use Rattle.std.specs.Prelude.{Result, Ok, Err, OnOk}
use Rattle.ws_version_vector.specs.Counts.{AreFirstNumbers}
use Rattle.ws_version_vector.proofs.Reading.{first_more}
use Rattle.ws_version_vector.proofs.family.Vectors.settle.Goals as goal

on_ok : {A E P Q : Type 0} (r : Result A E) → (P → Q) → OnOk r P → OnOk r Q
on_ok (Ok a) f h = f h
on_ok (Err e) f h = tt

pub loop-number-preserved : goal.loop-number-preserved
loop-number-preserved c =
    subst (AreFirstNumbers (c.loop-number.number + 1)) (sym c.in_ok-push.ensures.items) (first_more c.loop-number.number c.loop-number.numbers.items c.loop-number.invariant)

pub returns : goal.returns
returns c =
    let all : c.loop-number.number ≡ c.args.count = omega arith in
    let first : AreFirstNumbers c.args.count c.deref.result.now =
    subst (λ (ks : List ℕ). AreFirstNumbers c.args.count ks) (sym c.deref.ensures.value) (subst (λ n. AreFirstNumbers n c.loop-number.numbers.items) all c.loop-number.invariant) in
    on_ok c.share.result (λ s. (c.deref.result.now, first, s)) c.share.ensures
