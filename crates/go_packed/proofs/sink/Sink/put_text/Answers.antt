use Rattle.std.proofs.Common.{◌∙◌, ◌++◌, ◌∷◌, [], ap}
use Rattle.go_packed.specs.Tokens.{Text}
use Rattle.go_packed.proofs.Whole.{no_more, some_text}
use Rattle.go_packed.proofs.sink.Sink.put_text.Goals as goal

pub invariant_of-self-2 : goal.invariant_of-self-2
invariant_of-self-2 c = (some_text (no_more c.self.inside.names) c.self.invariant c.in_ok-reserve.ensures.items c.args.text.now (c.in_ok-push.ensures.items ∙ ap (λ x. c.self.inside.texts.items ++ x ∷ []) c.in_ok-copy.ensures) c.push_reserved.ensures.items).whole

pub returns : goal.returns
returns c =
    (some_text (no_more c.self.inside.names) c.self.invariant c.in_ok-reserve.ensures.items c.args.text.now (c.in_ok-push.ensures.items ∙ ap (λ x. c.self.inside.texts.items ++ x ∷ []) c.in_ok-copy.ensures) c.push_reserved.ensures.items).tokens_are
    ∙ ap (λ l. l ++ Text c.args.text.now ∷ []) c.self.view_is
