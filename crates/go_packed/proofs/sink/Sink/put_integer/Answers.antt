use Rattle.std.proofs.Common.{◌≡◌, ◌∙◌, ◌++◌, ◌∷◌, [], ap, pos, to_z, of_z, rules, arith}
use Rattle.std.specs.Int.{w128}
use Rattle.std.proofs.lemmas.Int.{to_z-of_z, ints}
use Rattle.go_packed.specs.Tokens.{Integer}
use Rattle.go_packed.proofs.Whole.{no_more, small_integer, short_integer, wide_integer}
use Rattle.go_packed.proofs.sink.Sink.put_integer.Goals as goal

pub invariant_of-self-in_default : goal.invariant_of-self-in_default
invariant_of-self-in_default c =
    let same : to_z w128 (of_z w128 c.args.number) ≡ c.args.number = to_z-of_z w128 c.args.number c.ranges.number in
    (wide_integer (no_more c.self.inside.names) c.self.invariant c.in_ok-reserve.ensures.items c.args.number (c.in_ok-push.ensures.items ∙ ap (λ x. c.self.inside.integers.items ++ x ∷ []) same) c.push_reserved.ensures.items).whole

pub returns-in_default : goal.returns-in_default
returns-in_default c =
    let same : to_z w128 (of_z w128 c.args.number) ≡ c.args.number = to_z-of_z w128 c.args.number c.ranges.number in
    (wide_integer (no_more c.self.inside.names) c.self.invariant c.in_ok-reserve.ensures.items c.args.number (c.in_ok-push.ensures.items ∙ ap (λ x. c.self.inside.integers.items ++ x ∷ []) same) c.push_reserved.ensures.items).tokens_are
    ∙ ap (λ l. l ++ Integer c.args.number ∷ []) c.self.view_is

pub invariant_of-self-then-short-lt56 : goal.invariant_of-self-then-short-lt56
invariant_of-self-then-short-lt56 c =
    let is : pos c.in-Ok.short ≡ c.args.number = first_of (search rules, omega (arith, ints)) in
    (small_integer (no_more c.self.inside.names) c.self.invariant c.in_ok-reserve.ensures.items c.in-Ok.short c.if-short-lt56.true c.push_reserved-then-short-lt56.ensures.items).whole

pub returns-then-short-lt56 : goal.returns-then-short-lt56
returns-then-short-lt56 c =
    let is : pos c.in-Ok.short ≡ c.args.number = first_of (search rules, omega (arith, ints)) in
    (small_integer (no_more c.self.inside.names) c.self.invariant c.in_ok-reserve.ensures.items c.in-Ok.short c.if-short-lt56.true c.push_reserved-then-short-lt56.ensures.items).tokens_are
    ∙ ap (λ l. l ++ Integer (pos c.in-Ok.short) ∷ []) c.self.view_is ∙ ap (λ x. c.args.self.now ++ Integer x ∷ []) is

pub invariant_of-self-2 : goal.invariant_of-self-2
invariant_of-self-2 c =
    let is : pos c.in-Ok.short ≡ c.args.number = first_of (search rules, omega (arith, ints)) in
    (short_integer (no_more c.self.inside.names) c.self.invariant c.in_ok-reserve.ensures.items c.in-Ok.short c.in_ok-push-2.ensures.items c.push_reserved-2.ensures.items).whole

pub returns : goal.returns
returns c =
    let is : pos c.in-Ok.short ≡ c.args.number = first_of (search rules, omega (arith, ints)) in
    (short_integer (no_more c.self.inside.names) c.self.invariant c.in_ok-reserve.ensures.items c.in-Ok.short c.in_ok-push-2.ensures.items c.push_reserved-2.ensures.items).tokens_are
    ∙ ap (λ l. l ++ Integer (pos c.in-Ok.short) ∷ []) c.self.view_is ∙ ap (λ x. c.args.self.now ++ Integer x ∷ []) is
