use Rattle.std.proofs.Common.{◌≡◌, ℕ, ◌+◌, ◌<◌, true, false, ◌∷◌, List, length, drop, map, is_some, sym, ap, ◌∙◌, subst, arith}
use Rattle.std.specs.Prelude.{position}
use Rattle.std.specs.Str.{bytes_eq}
use Rattle.go_types.specs.declared.types.Field.{Field}
use Rattle.go_scope.proofs.Indexes.{Differing, differing_more, differing_not}
use Rattle.go_expr.specs.Fields.{typed_field}
use Rattle.go_expr.specs.Rules.{field_names}
use Rattle.go_expr.proofs.Lists.{left}
use Rattle.go_expr.proofs.fields.differ.Goals as goal

abbrev names : List Field → List (List ℕ)
names fs = field_names (map typed_field fs)

pub returns-then-is_some : goal.returns-then-is_some
returns-then-is_some c =
    let fs = c.args.fields.now in
    let i = c.loop-field.field-index in
    let x = c.as_str.result.now in
    let within : i < length fs = omega arith in
    let begins : names (drop i fs) ≡ x ∷ names (drop (i + 1) fs) =
    ap names (left fs i c.field-item.result within c.field-item.is) ∙ ap (λ (y : List ℕ). y ∷ names (drop (i + 1) fs)) (sym c.as_str.ensures.value) in
    let known : is_some (position (bytes_eq x) c.loop-field.names) ≡ true = ap is_some (sym c.in_ok-insert.ensures.first) ∙ sym c.is_some.ensures ∙ c.if-is_some.true in
    differing_not c.loop-field.names (names (drop i fs)) (names (drop (i + 1) fs)) (names fs) x c.loop-field.invariant begins known

pub loop-field-preserved : goal.loop-field-preserved
loop-field-preserved c =
    let fs = c.args.fields.now in
    let i = c.loop-field.field-index in
    let x = c.as_str.result.now in
    let within : i < length fs = omega arith in
    let begins : names (drop i fs) ≡ x ∷ names (drop (i + 1) fs) =
    ap names (left fs i c.field-item.result within c.field-item.is) ∙ ap (λ (y : List ℕ). y ∷ names (drop (i + 1) fs)) (sym c.as_str.ensures.value) in
    let new : is_some (position (bytes_eq x) c.loop-field.names) ≡ false = ap is_some (sym c.in_ok-insert.ensures.first) ∙ sym c.is_some.ensures ∙ c.if-is_some.false in
    subst (λ (ns : List (List ℕ)). Differing ns (names (drop (i + 1) fs)) (names fs)) (sym c.in_ok-insert.ensures.ok)
    (differing_more c.loop-field.names (names (drop i fs)) (names (drop (i + 1) fs)) (names fs) x c.loop-field.invariant begins new)
