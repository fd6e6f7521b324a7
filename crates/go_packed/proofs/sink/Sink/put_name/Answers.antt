use Rattle.std.proofs.Common.{◌∙◌, ◌++◌, ◌∷◌, [], ap, refl}
use Rattle.go_packed.specs.Tokens.{Name}
use Rattle.go_packed.proofs.Whole.{kept_whole, small_name, short_name, size_name}
use Rattle.go_packed.proofs.sink.Sink.put_name.Goals as goal

pub invariant_of-self-in_err-number : goal.invariant_of-self-in_err-number
invariant_of-self-in_err-number c = kept_whole c.in_err-number.ensures.more c.self.invariant c.in_ok-reserve.ensures.items refl refl

pub invariant_of-self-then-number-lt64 : goal.invariant_of-self-then-number-lt64
invariant_of-self-then-number-lt64 c = (small_name c.in_ok-number.ensures.more c.self.invariant c.in_ok-reserve.ensures.items c.in_ok-number.number c.if-number-lt64.true c.in_ok-number.ensures.there c.push_reserved.ensures.items).whole

pub returns-then-number-lt64 : goal.returns-then-number-lt64
returns-then-number-lt64 c =
    (small_name c.in_ok-number.ensures.more c.self.invariant c.in_ok-reserve.ensures.items c.in_ok-number.number c.if-number-lt64.true c.in_ok-number.ensures.there c.push_reserved.ensures.items).tokens_are
    ∙ ap (λ l. l ++ Name c.args.name.now ∷ []) c.self.view_is

pub invariant_of-self-in_err-push : goal.invariant_of-self-in_err-push
invariant_of-self-in_err-push c = kept_whole c.in_ok-number.ensures.more c.self.invariant c.in_ok-reserve.ensures.items c.in_err-push.ensures.items refl

pub invariant_of-self-then-number-lt65536 : goal.invariant_of-self-then-number-lt65536
invariant_of-self-then-number-lt65536 c = (short_name c.in_ok-number.ensures.more c.self.invariant c.in_ok-reserve.ensures.items c.in_ok-number.number c.in_ok-number.ensures.there c.in_ok-push.ensures.items c.push_reserved-then-number-lt65536.ensures.items).whole

pub returns-then-number-lt65536 : goal.returns-then-number-lt65536
returns-then-number-lt65536 c =
    (short_name c.in_ok-number.ensures.more c.self.invariant c.in_ok-reserve.ensures.items c.in_ok-number.number c.in_ok-number.ensures.there c.in_ok-push.ensures.items c.push_reserved-then-number-lt65536.ensures.items).tokens_are
    ∙ ap (λ l. l ++ Name c.args.name.now ∷ []) c.self.view_is

pub invariant_of-self-in_err-push-2 : goal.invariant_of-self-in_err-push-2
invariant_of-self-in_err-push-2 c = kept_whole c.in_ok-number.ensures.more c.self.invariant c.in_ok-reserve.ensures.items refl c.in_err-push-2.ensures.items

pub invariant_of-self-2 : goal.invariant_of-self-2
invariant_of-self-2 c = (size_name c.in_ok-number.ensures.more c.self.invariant c.in_ok-reserve.ensures.items c.in_ok-number.number c.in_ok-number.ensures.there c.in_ok-push-2.ensures.items c.push_reserved-2.ensures.items).whole

pub returns : goal.returns
returns c =
    (size_name c.in_ok-number.ensures.more c.self.invariant c.in_ok-reserve.ensures.items c.in_ok-number.number c.in_ok-number.ensures.there c.in_ok-push-2.ensures.items c.push_reserved-2.ensures.items).tokens_are
    ∙ ap (λ l. l ++ Name c.args.name.now ∷ []) c.self.view_is
