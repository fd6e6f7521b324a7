use Rattle.std.proofs.Common.{◌∙◌, ◌++◌, ◌∷◌, [], ap}
use Rattle.go_packed.specs.Tokens.{Number}
use Rattle.go_packed.proofs.Whole.{no_more, small_number, short_number, size_number}
use Rattle.go_packed.proofs.sink.Sink.put_number.Goals as goal

pub invariant_of-self-then-number-lt128 : goal.invariant_of-self-then-number-lt128
invariant_of-self-then-number-lt128 c = (small_number (no_more c.self.inside.names) c.self.invariant c.in_ok-reserve.ensures.items c.args.number c.if-number-lt128.true c.push_reserved.ensures.items).whole

pub returns-then-number-lt128 : goal.returns-then-number-lt128
returns-then-number-lt128 c =
    (small_number (no_more c.self.inside.names) c.self.invariant c.in_ok-reserve.ensures.items c.args.number c.if-number-lt128.true c.push_reserved.ensures.items).tokens_are
    ∙ ap (λ l. l ++ Number c.args.number ∷ []) c.self.view_is

pub invariant_of-self-then-number-lt65536 : goal.invariant_of-self-then-number-lt65536
invariant_of-self-then-number-lt65536 c = (short_number (no_more c.self.inside.names) c.self.invariant c.in_ok-reserve.ensures.items c.args.number c.in_ok-push.ensures.items c.push_reserved-then-number-lt65536.ensures.items).whole

pub returns-then-number-lt65536 : goal.returns-then-number-lt65536
returns-then-number-lt65536 c =
    (short_number (no_more c.self.inside.names) c.self.invariant c.in_ok-reserve.ensures.items c.args.number c.in_ok-push.ensures.items c.push_reserved-then-number-lt65536.ensures.items).tokens_are
    ∙ ap (λ l. l ++ Number c.args.number ∷ []) c.self.view_is

pub invariant_of-self-2 : goal.invariant_of-self-2
invariant_of-self-2 c = (size_number (no_more c.self.inside.names) c.self.invariant c.in_ok-reserve.ensures.items c.args.number c.in_ok-push-2.ensures.items c.push_reserved-2.ensures.items).whole

pub returns : goal.returns
returns c =
    (size_number (no_more c.self.inside.names) c.self.invariant c.in_ok-reserve.ensures.items c.args.number c.in_ok-push-2.ensures.items c.push_reserved-2.ensures.items).tokens_are
    ∙ ap (λ l. l ++ Number c.args.number ∷ []) c.self.view_is
