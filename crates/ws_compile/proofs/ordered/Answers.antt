use Rattle.std.proofs.Common.{◌≡◌, refl, sym, ap, ◌∙◌, subst}
use Rattle.go_text.specs.Faults.{Fault}
use Rattle.go_text.specs.declared.fault.FaultKind.TheVariants.{InitCycle}
use Rattle.go_typed.specs.Views.{typed_of}
use Rattle.go_init.specs.Variables.{IsCycleAt, in_order}
use Rattle.go_init.specs.Views.{IsInitError}
use Rattle.go_gen.specs.Translation.{object_in}
use Rattle.go_export.specs.Summaries.{summary_of}
use Rattle.ws_cache.specs.Compiles.{Good, compiled_of}
use Rattle.ws_compile.specs.Ordered.{CompilesTo}
use Rattle.ws_compile.proofs.Results.{if_ok_map, good_comes}
use Rattle.ws_compile.proofs.ordered.Goals as goal

pub returns-in-Ok-clause-ok : goal.returns-in-Ok-clause-ok
returns-in-Ok-clause-ok c =
    let typed = typed_of c.args.typed.now in
    let order = c.deref.result.now in
    let is = ap (in_order typed) c.deref.ensures.value ∙ c.in-Ok.ensures.order in
    if_ok_map c.good.result (λ outcome. compiled_of outcome ≡ Good (summary_of typed) (object_in (in_order typed order) typed)) (λ outcome. CompilesTo typed (compiled_of outcome))
    (λ outcome e. good_comes typed order is c.in-Ok.ensures.whole (compiled_of outcome) e) c.good.ensures.ok

pub returns-in-Ok-clause-unshown : goal.returns-in-Ok-clause-unshown
returns-in-Ok-clause-unshown c = λ e. (c.in-Ok.ensures.whole, c.good.ensures.unshown e)

pub returns-in-Err-Cycle-clause-ok : goal.returns-in-Err-Cycle-clause-ok
returns-in-Err-Cycle-clause-ok c =
    let typed = typed_of c.args.typed.now in
    let at = c.in-Err-Cycle in
    let cycle = subst (IsInitError typed) at.field-0-is c.in-Err-Cycle.ensures.cycle in
    subst (λ (f : Fault). IsCycleAt typed f.file f.place × (f.kind ≡ InitCycle)) (sym c.new-fault.ensures) (rw at.field-0-is (cycle, refl))
