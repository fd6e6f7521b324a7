use Rattle.std.proofs.Common.{◌≡◌, Option, [], ◌∷◌, sym, ◌∙◌, subst, refl}
use Rattle.std.specs.Prelude.{IfErr, OnOk}
use Rattle.go_text.specs.declared.place.Place.{Place}
use Rattle.go_text.specs.declared.fault.FaultKind.{FaultKind}
use Rattle.go_expr.specs.Known.{Known, Verdict, Fine, Breaks, Passed, look_up_known}
use Rattle.go_expr.specs.Rules.{fine, packaged}
use Rattle.go_expr.specs.Verdicts.{asked, broken}
use Rattle.go_expr.specs.declared.error.ExprError.{ExprError}
use Rattle.go_expr.specs.declared.error.ExprError.TheVariants.{Faulty}
use Rattle.go_expr.specs.Views.{scope_of, Fails}
use Rattle.go_expr.proofs.due.check_package_name.Goals as goal

-- of a name that isn't found nothing is known
not_found : (error : ExprError) (p q : Place) (kind : FaultKind) (v : Verdict Known) → error ≡ Faulty q kind → Fails error (broken p v) → broken p (asked packaged (fine v)) ≡ []
not_found error p q kind (Fine k) is h =
    let told : Fails (Faulty q kind) [] = subst (λ (x : ExprError). Fails x []) is h in
    let no : [] ≡ (q, kind) ∷ told.0 = told.1 in
    cc (no)
not_found error p q kind (Breaks other) is h = refl
not_found error p q kind Passed is h = refl

pub returns-in-Ok-clause-fault : goal.returns-in-Ok-clause-fault
returns-in-Ok-clause-fault c =
    subst (λ (o : Option Known). IfErr c.package_at.result (λ error. Fails error (broken c.args.place (asked packaged o)))) (sym c.in-Ok.ensures.1) c.package_at.ensures.fault

pub returns-in-Ok-clause-none : goal.returns-in-Ok-clause-none
returns-in-Ok-clause-none c =
    subst (λ (o : Option Known). OnOk c.package_at.result (broken c.args.place (asked packaged o) ≡ [])) (sym c.in-Ok.ensures.1) c.package_at.ensures.none

pub returns-in-Err-Faulty-clause-none : goal.returns-in-Err-Faulty-clause-none
returns-in-Err-Faulty-clause-none c =
    let err = c.in-Err-Faulty in
    not_found err.field-0 c.args.place err.field-0-0 err.field-0-1 (look_up_known c.args.name.now (scope_of c.args.scope.now).names) err.field-0-is err.ensures
