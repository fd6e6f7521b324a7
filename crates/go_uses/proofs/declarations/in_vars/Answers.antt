use Rattle.std.proofs.Common.{◌≡◌, ◌+◌, ◌<◌, ◌++◌, List, map, drop, length, sym, ap, ◌∙◌, arith}
use Rattle.go_ast.specs.Views.{var_of}
use Rattle.go_scope.specs.Names.{used}
use Rattle.go_scope.specs.declared.names.UsedName.{UsedName}
use Rattle.go_uses.specs.Uses.{texts, outside, in_var, in_vars}
use Rattle.go_uses.proofs.Names.{begins, further, left}
use Rattle.go_uses.proofs.declarations.in_vars.Goals as goal

pub loop-spec-init : goal.loop-spec-init
loop-spec-init c = begins (map used c.new-found.result.items) c.new-hidden.result (in_vars (map var_of c.args.specs.now)) (ap (map used) c.new-found.ensures.items) c.new-hidden.ensures

pub loop-spec-preserved : goal.loop-spec-preserved
loop-spec-preserved c =
    let specs = c.args.specs.now in
    let i = c.loop-spec.spec-index in
    let s = c.spec-item.result in
    let hidden = c.loop-spec.hidden in
    let found = map used c.loop-spec.found.items in
    let next = map used c.add_outside.new.found.items in
    let names = in_var (var_of s) in
    let own = texts (var_of s).names in
    let rest = in_vars (map var_of (drop (i + 1) specs)) in
    let within : i < length specs = omega arith in
    let splits : in_vars (map var_of (drop i specs)) ≡ names ++ outside own rest = ap (λ l. in_vars (map var_of l)) (left specs i s within c.spec-item.is) in
    let so_far : found ++ outside hidden (names ++ outside own rest) ≡ in_vars (map var_of specs) = ap (λ l. found ++ outside hidden l) (sym splits) ∙ c.loop-spec.invariant in
    let grown : next ≡ found ++ outside hidden names =
    c.in_ok-add_outside.ensures ∙ ap (λ (l : List UsedName). found ++ outside hidden (map used l)) c.deref.ensures.value ∙ ap (λ l. found ++ outside hidden l) c.in_ok-names.ensures in
    let behind : c.hide.new.hidden ≡ hidden ++ own = c.in_ok-hide.ensures ∙ ap (λ l. hidden ++ texts l) c.deref-in-loop-spec.ensures.value in
    ap (λ xs. next ++ outside xs rest) behind ∙ further found names next hidden own rest (in_vars (map var_of specs)) so_far grown
