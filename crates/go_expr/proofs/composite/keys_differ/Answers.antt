use Rattle.std.proofs.Common.{◌≡◌, ℕ, ◌+◌, ◌<◌, true, false, [], ◌∷◌, ◌++◌, List, length, drop, map, sym, ap, ◌∙◌, subst, arith}
use Rattle.go_scope.proofs.Indexes.{Differing}
use Rattle.go_expr.specs.Rules.{keys}
use Rattle.go_expr.specs.Views.{keyed_part}
use Rattle.go_expr.specs.declared.composite.Element.{Element}
use Rattle.go_expr.proofs.Elements.{is_key_in, keys_begin, keys_more, keys_not}
use Rattle.go_expr.proofs.Lists.{left}
use Rattle.go_expr.proofs.composite.keys_differ.Goals as goal

pub returns-then-branch : goal.returns-then-branch
returns-then-branch c =
    let es = c.args.elements.now in
    let i = c.loop-element.element-index in
    let e = c.element-item.result in
    let names = λ (l : List Element). keys (map keyed_part l) in
    let within : i < length es = omega arith in
    let begins : names (drop i es) ≡ keys (keyed_part e ∷ []) ++ names (drop (i + 1) es) =
    ap names (left es i e within c.element-item.is) ∙ keys_begin (keyed_part e) (map keyed_part (drop (i + 1) es)) in
    let known : is_key_in c.loop-element.names (keyed_part e) ≡ true = sym c.in_ok-add_key.ensures.known ∙ c.if-branch.true in
    keys_not c.loop-element.names (names (drop i es)) (names (drop (i + 1) es)) (names es) (keyed_part e) c.loop-element.invariant begins known

pub loop-element-preserved : goal.loop-element-preserved
loop-element-preserved c =
    let es = c.args.elements.now in
    let i = c.loop-element.element-index in
    let e = c.element-item.result in
    let names = λ (l : List Element). keys (map keyed_part l) in
    let within : i < length es = omega arith in
    let begins : names (drop i es) ≡ keys (keyed_part e ∷ []) ++ names (drop (i + 1) es) =
    ap names (left es i e within c.element-item.is) ∙ keys_begin (keyed_part e) (map keyed_part (drop (i + 1) es)) in
    let new : is_key_in c.loop-element.names (keyed_part e) ≡ false = sym c.in_ok-add_key.ensures.known ∙ c.if-branch.false in
    let grown : c.add_key.new.names ≡ c.loop-element.names ++ keys (keyed_part e ∷ []) = c.in_ok-add_key.ensures.added in
    subst (λ (ns : List (List ℕ)). Differing ns (names (drop (i + 1) es)) (names es)) (sym grown)
    (keys_more c.loop-element.names (names (drop i es)) (names (drop (i + 1) es)) (names es) (keyed_part e) c.loop-element.invariant begins new)
