-- How what a function read follows from what its callees read.
use Rattle.std.proofs.Common.{◌≡◌, Result, Ok, Err, IfOk, IfErr, sym, ap, ◌∙◌, subst}
use Rattle.std.specs.Prelude.{IsErrAnd}
use Rattle.go_ast.specs.Machine.{Reader, run_parser}
use Rattle.go_pexpr.specs.declared.parser.Parser.{Parser}
use Rattle.go_pexpr.specs.declared.parser.Refusal.{Refusal}
use Rattle.go_pexpr.specs.declared.parser.Refusal.TheVariants.{Memory}
use Rattle.go_pexpr.specs.Reads.{Reads, Failing, left}
use Rattle.go_pexpr.proofs.Reading as calls
pub use Rattle.go_pexpr.proofs.Reading.{took, missed}
use Rattle.go_pexpr.proofs.Reading.{failing}

-- a call that reads on from where the function came, and one that reads all
pub then_reads : {A : Type 0} {before mid : Reader} {after : A → Reader} {old at new : Parser} {r : Result A Refusal} →
    run_parser old.edition 250 before (left old) ≡ run_parser at.edition 250 mid (left at) → Reads mid after at r new → Reads before after old r new
then_reads {r = r} went d = calls.then_reads r went d

-- a call that failed at the function's beginning
pub fails : {A B : Type 0} {before : Reader} {after : A → Reader} {after_call : B → Reader} {old new : Parser} {r : Result A Refusal} {e : Refusal} →
    Reads {A = B} before after_call old (Err e) new → IsErrAnd r (λ y. y ≡ e) → Reads before after old r new
fails {r = r} {e = e} d h = failing r e h d.by

-- what was made, where only memory may fail
pub then_makes : {A : Type 0} {before : Reader} {after : A → Reader} {old new : Parser} {r : Result A Refusal} (s : Reader) →
    run_parser old.edition 250 before (left old) ≡ run_parser new.edition 250 s (left new) → IfOk r (λ a. after a ≡ s) → IfErr r (λ e. e ≡ Memory) → Reads before after old r new
then_makes {r = r} s went made out = calls.then_makes r s went made out

-- memory ran out
pub no_memory : {A : Type 0} {before : Reader} {after : A → Reader} {old new : Parser} {r : Result A Refusal} {e : Refusal} → e ≡ Memory → IsErrAnd r (λ y. y ≡ e) → Reads before after old r new
no_memory {before = before} {old = old} {new = new} {r = r} {e = e} m h = failing r e h (subst (λ z. Failing z before old new) (sym m) tt)

-- what was read leads to what is due behind it
pub went : {A : Type 0} {before : Reader} {after : A → Reader} {old new : Parser} {a : A} → Reads before after old (Ok a) new → run_parser old.edition 250 before (left old) ≡ run_parser new.edition 250 (after a) (left new)
went d = d.by

-- what was made is seen as what the state has
pub then_sees : {A B : Type 0} {before : Reader} {after : A → Reader} {old new : Parser} {a : A} (next : B → Reader) (x y : B) →
    run_parser old.edition 250 before (left old) ≡ run_parser new.edition 250 (next x) (left new) → y ≡ x → next y ≡ after a → Reads before after old (Ok a) new
then_sees {new = new} next x y there e last = record { by = there ∙ ap (λ z. run_parser new.edition 250 (next z) (left new)) (sym e) ∙ ap (λ z. run_parser new.edition 250 z (left new)) last }
