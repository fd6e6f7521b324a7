use Rattle.std.proofs.Common.{◌≡◌, ◌<◌, ℕ, List, ◌∷◌, Option, Some, map, length, refl, sym, ap, ◌∙◌, subst, arith}
use Rattle.std.specs.Prelude.{IfNone, IfSome, String, string_bytes}
use Rattle.std.specs.Global.{Global}
use Rattle.std.specs.List.{Contains, slice_get}
use Rattle.std.proofs.lemmas.List.{length-map}
use Rattle.go_text.specs.declared.place.Place.{Place}
use Rattle.go_typed.specs.Trees.{Initialization, Package}
use Rattle.go_typed.specs.Views.{initialization_of, typed_of}
use Rattle.go_typed.specs.declared.package.TypedInitialization.{TypedInitialization}
use Rattle.go_init.specs.Variables.{variable_order}
use Rattle.go_init.specs.Views.{IsInitError}
use Rattle.go_init.specs.declared.error.InitError.{InitError}
use Rattle.go_init.specs.declared.error.InitError.TheVariants as errors
use Rattle.go_init.proofs.Ordered.{first_left, nothing_left, ordered}
use Rattle.go_init.proofs.variables.variable_order.Goals as goal

pub returns-in-None-clause-order : goal.returns-in-None-clause-order
returns-in-None-clause-order c =
    ordered (typed_of c.args.typed.now) c.in_ok-order.order.items c.in_ok-order.ensures

pub returns-in-None-clause-whole : goal.returns-in-None-clause-whole
returns-in-None-clause-whole c =
    let p = typed_of c.args.typed.now in
    let order = c.in_ok-order.order.items in
    let none = subst (λ (o : Option ℕ). IfNone o ((k : ℕ) → k < c.len.result → Contains c.as_slice.result.now k)) c.in-None.is c.in_ok-first_missing.ensures.none in
    let has = subst (λ (l : List ℕ). (k : ℕ) → k < c.len.result → Contains l k) c.as_slice.ensures.value none in
    let counted : c.len.result ≡ length (map initialization_of c.args.typed.now.initializations.items) = omega (arith, c.len.ensures, c.args.typed.now.initializations.ok.0, length-map c.args.typed.now.initializations.items initialization_of) in
    let all = subst (λ n. (k : ℕ) → k < n → Contains order k) counted has in
    nothing_left p order c.in_ok-order.ensures all

-- an error that names the file and the place of the first that is left over
told : (p : Package) (error : InitError) (i : Initialization) (rest : List Initialization) → (variable_order p).1 ≡ i ∷ rest → ((file : String Global) (place : Place) → error ≡ errors.Cycle file place → (string_bytes file ≡ i.file) × (place ≡ i.place)) → IsInitError p error
told p (errors.Cycle file place) i rest left is = (let at = is file place refl in (i, rest, left, sym at.0, sym at.1))
told p errors.Memory i rest left is = tt

pub returns-in_ok-cycle_at-in-Some-clause-cycle : goal.returns-in_ok-cycle_at-in-Some-clause-cycle
returns-in_ok-cycle_at-in-Some-clause-cycle c =
    let p = typed_of c.args.typed.now in
    let order = c.in_ok-order.order.items in
    let number = c.in-Some.number in
    let counted : c.len.result ≡ length (map initialization_of c.args.typed.now.initializations.items) = omega (arith, c.len.ensures, c.args.typed.now.initializations.ok.0, length-map c.args.typed.now.initializations.items initialization_of) in
    let found = c.in_ok-first_missing.ensures in
    let within = subst (λ (o : Option ℕ). IfSome o (λ n. n < c.len.result)) c.in-Some.is found.within in
    let none = subst (λ (o : Option ℕ). IfSome o (λ n. Contains c.as_slice.result.now n → ⊥)) c.in-Some.is found.lacks in
    let before = subst (λ (o : Option ℕ). IfSome o (λ n. (k : ℕ) → k < n → Contains c.as_slice.result.now k)) c.in-Some.is found.before in
    let below = subst (λ n. number < n) counted within in
    let lacks = subst (λ (l : List ℕ). Contains l number → ⊥) c.as_slice.ensures.value none in
    let has = subst (λ (l : List ℕ). (k : ℕ) → k < number → Contains l k) c.as_slice.ensures.value before in
    let first = first_left p order c.in_ok-order.ensures number below lacks has in
    let at = sym (ap (λ (l : List TypedInitialization). slice_get (map initialization_of l) number) c.deref.ensures.value) ∙ c.initialization_at-first.ensures in
    let both : Some first.0 ≡ Some (initialization_of c.initialization_at-first.result.now) = sym first.3 ∙ at in
    let it : first.0 ≡ initialization_of c.initialization_at-first.result.now = cc in
    told p c.in_ok-cycle_at-in-Some.field-0 first.0 first.1 first.2
    (λ file place e. (let is = c.in_ok-cycle_at-in-Some.ensures file place e in (is.0 ∙ ap (λ (i : Initialization). i.file) (sym it), is.1 ∙ ap (λ (i : Initialization). i.place) (sym it))))
