use Rattle.std.proofs.Common.{◌≡◌, ◌<◌, ◌++◌, ◌∙◌, ℕ, List, [], length, map, drop, sym, ap, arith, append-nil}
use Rattle.std.proofs.lemmas.List.{drop_all}
use Rattle.std.specs.List.{flat_map}
use Rattle.go_ast.specs.Views.{top_of}
use Rattle.go_ast.specs.declared.file.TopLevel.{TopLevel}
use Rattle.go_typed.specs.Views.{uses_of}
use Rattle.go_scope.specs.Names.{Used, used}
use Rattle.go_scope.specs.declared.names.UsedName.{UsedName}
use Rattle.go_package.specs.Views.{facts_of}
use Rattle.go_package.specs.Typed.{top_uses}
use Rattle.go_package.proofs.Dotted.{dotted, dotted_top, dotted_tops}
use Rattle.go_package.proofs.Walks.{more}
use Rattle.go_package.proofs.uses.dotted_in.Goals as goal

pub returns-clause-dotted : goal.returns-clause-dotted
returns-clause-dotted c =
    let tops = c.args.tops.now in
    let none : flat_map dotted_top (map top_of (drop c.loop-top.top-index tops)) ≡ [] = ap (λ (l : List TopLevel). flat_map dotted_top (map top_of l)) (drop_all c.loop-top.top-index tops c.loop-top-test.false) in
    sym (append-nil c.loop-top.dotted) ∙ sym (ap (λ (l : List (List ℕ)). c.loop-top.dotted ++ l) none) ∙ c.loop-top.invariant.dotted ∙ dotted_tops (map top_of tops)

pub loop-top-preserved : goal.loop-top-preserved
loop-top-preserved c =
    let tops = c.args.tops.now in
    let i = c.loop-top.top-index in
    let d = c.top-item.result in
    let within : i < length tops = omega arith in
    let before = c.loop-top.dotted in
    let grown =
    c.in_ok-add_dotted.ensures ∙ ap (λ (l : List UsedName). before ++ dotted (map used l)) c.deref.ensures.value ∙ ap (λ (l : List Used). before ++ dotted l) c.in_ok-names.ensures in
    record {
      dotted = more dotted_top top_of tops i d before c.add_dotted.new.dotted _ within c.top-item.is c.loop-top.invariant.dotted grown;
      uses = more (top_uses (facts_of c.args.facts.now) c.args.file) top_of tops i d (map uses_of c.loop-top.found.items) (map uses_of c.add_uses.new.found.items) _ within c.top-item.is
          c.loop-top.invariant.uses c.in_ok-add_uses.ensures;
    }
