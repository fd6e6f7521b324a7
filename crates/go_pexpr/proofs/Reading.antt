-- How what a function read follows from what its callees read.
use Rattle.std.proofs.Common.{◌≡◌, ℕ, Option, Some, None, Result, Ok, Err, IfOk, IfErr, OnOk, sym, ap, ◌∙◌, subst}
use Rattle.std.specs.Prelude.{IsErrAnd}
use Rattle.go_pexpr.specs.declared.parser.Parser.{Parser}
use Rattle.go_pexpr.specs.declared.parser.Refusal.{Refusal}
use Rattle.go_pexpr.specs.declared.parser.Refusal.TheVariants.{Memory, Wrong}
use Rattle.go_ast.specs.Machine.{Reader, Refused, run_parser}
use Rattle.go_pexpr.specs.Reads.{Reads, Failing, Says, left, either}

pub fails_after : (e : Refusal) (before mid : Reader) (old at new : Parser) → run_parser old.edition 250 before (left old) ≡ run_parser at.edition 250 mid (left at) → Failing e mid at new → Failing e before old new
fails_after (Wrong f) before mid old at new went d = went ∙ d
fails_after Memory before mid old at new went d = tt

pub failing : {A : Type 0} {before : Reader} {after : A → Reader} {old new : Parser} (r : Result A Refusal) (e : Refusal) → IsErrAnd r (λ y. y ≡ e) → Failing e before old new → Reads before after old r new
failing (Ok a) e h f = absurd h
failing {before = before} {old = old} {new = new} (Err y) e h f = record { by = subst (λ z. Failing z before old new) (sym h) f }

-- a call that reads on from where the function came
pub then_reads : {A : Type 0} {before mid : Reader} {after : A → Reader} {old at new : Parser} (r : Result A Refusal) →
    run_parser old.edition 250 before (left old) ≡ run_parser at.edition 250 mid (left at) → Reads mid after at r new → Reads before after old r new
then_reads (Ok a) went d = record { by = went ∙ d.by }
then_reads {before = before} {mid = mid} {old = old} {at = at} {new = new} (Err e) went d = record { by = fails_after e before mid old at new went d.by }

-- a call that failed
pub then_fails : {A B : Type 0} {before mid : Reader} {after : A → Reader} {after_call : B → Reader} {old at new : Parser} {r : Result A Refusal} {e : Refusal} →
    run_parser old.edition 250 before (left old) ≡ run_parser at.edition 250 mid (left at) → Reads {A = B} mid after_call at (Err e) new → IsErrAnd r (λ y. y ≡ e) → Reads before after old r new
then_fails {before = before} {mid = mid} {old = old} {at = at} {new = new} {r = r} {e = e} went d h = failing r e h (fails_after e before mid old at new went d.by)

-- the answer of a call that stands beside what was made in front of it
pub was_read : {A : Type 0} {before : Reader} {after : A → Reader} {old new : Parser} {r : Result A Refusal} {a : A} → Reads before after old r new → r ≡ Ok a → run_parser old.edition 250 before (left old) ≡ run_parser new.edition 250 (after a) (left new)
was_read {before = before} {after = after} {old = old} {new = new} d e = (subst (λ z. Reads before after old z new) e d).by

pub was_failing : {A : Type 0} {before : Reader} {after : A → Reader} {old new : Parser} {r : Result A Refusal} {e : Refusal} → Reads before after old r new → r ≡ Err e → Reads before after old (Err e) new
was_failing {before = before} {after = after} {old = old} {new = new} d e = subst (λ z. Reads before after old z new) e d

pub if_read : {A : Type 0} (P : A → Type 0) {r : Result A Refusal} {a : A} → IfOk r P → r ≡ Ok a → P a
if_read P h e = subst (λ z. IfOk z P) e h

pub on_read : {A : Type 0} (P : Type 0) {r : Result A Refusal} {a : A} → OnOk r P → r ≡ Ok a → P
on_read P h e = subst (λ z. OnOk z P) e h

-- what was made, where only memory may fail
pub then_makes : {A : Type 0} {before : Reader} {after : A → Reader} {old new : Parser} (r : Result A Refusal) (s : Reader) →
    run_parser old.edition 250 before (left old) ≡ run_parser new.edition 250 s (left new) → IfOk r (λ a. after a ≡ s) → IfErr r (λ e. e ≡ Memory) → Reads before after old r new
then_makes {new = new} (Ok a) s went made out = record { by = went ∙ ap (λ x. run_parser new.edition 250 x (left new)) (sym made) }
then_makes {before = before} {old = old} {new = new} (Err e) s went made out = record { by = subst (λ z. Failing z before old new) (sym out) tt }

-- the next token is refused
pub then_refuses : {A : Type 0} {before : Reader} {after : A → Reader} {old new : Parser} (e : Refusal) (n : ℕ) →
    run_parser old.edition 250 before (left old) ≡ Refused n (left new) → Says n e → Reads before after old (Err e) new
then_refuses Memory n went says = absurd says
then_refuses {new = new} (Wrong f) n went says = record { by = went ∙ ap (λ m. Refused m (left new)) (sym says) }

-- what came of what there may be
pub was_some : {A : Type 0} (some : A → Reader) (none : Reader) (o : Option A) (a : A) → o ≡ Some a → either some none o ≡ some a
was_some some none o a e = ap (either some none) e

pub was_none : {A : Type 0} (some : A → Reader) (none : Reader) (o : Option A) → o ≡ None → either some none o ≡ none
was_none some none o e = ap (either some none) e

-- a token that may be missing came, or didn't
pub took : {A : Type 0} {before none : Reader} {some : A → Reader} {old new : Parser} {o : Option A} {a : A} → Reads before (either some none) old (Ok o) new → o ≡ Some a →
    run_parser old.edition 250 before (left old) ≡ run_parser new.edition 250 (some a) (left new)
took {none = none} {some = some} {new = new} d is = d.by ∙ ap (λ x. run_parser new.edition 250 (either some none x) (left new)) is

pub missed : {A : Type 0} {before none : Reader} {some : A → Reader} {old new : Parser} {o : Option A} → Reads before (either some none) old (Ok o) new → o ≡ None →
    run_parser old.edition 250 before (left old) ≡ run_parser new.edition 250 none (left new)
missed {none = none} {some = some} {new = new} d is = d.by ∙ ap (λ x. run_parser new.edition 250 (either some none x) (left new)) is

-- the same, where the answer stands beside what was made in front of it
pub took_beside : {A : Type 0} {before none : Reader} {some : A → Reader} {old new : Parser} {r : Result (Option A) Refusal} {o : Option A} {a : A} →
    Reads before (either some none) old r new → r ≡ Ok o → o ≡ Some a → run_parser old.edition 250 before (left old) ≡ run_parser new.edition 250 (some a) (left new)
took_beside {none = none} {some = some} {new = new} d e is = was_read d e ∙ ap (λ x. run_parser new.edition 250 (either some none x) (left new)) is

pub missed_beside : {A : Type 0} {before none : Reader} {some : A → Reader} {old new : Parser} {r : Result (Option A) Refusal} {o : Option A} →
    Reads before (either some none) old r new → r ≡ Ok o → o ≡ None → run_parser old.edition 250 before (left old) ≡ run_parser new.edition 250 none (left new)
missed_beside {none = none} {some = some} {new = new} d e is = was_read d e ∙ ap (λ x. run_parser new.edition 250 (either some none x) (left new)) is
