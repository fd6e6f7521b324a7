use Rattle.std.proofs.Common.{List, ℕ, [], ◌∷◌, ◌++◌, ap, ◌∙◌}
use Rattle.go_init.proofs.Named.{one_more}
use Rattle.go_init.proofs.edges.add.Goals as goal

pub returns : goal.returns
returns c =
    one_more c.args.named.now c.taken-numbers.new.named c.insert.new.self c.args.name c.push.new.self c.args.number
    (c.in_ok-push.ensures.items ∙ ap (λ (l : List ℕ). l ++ c.args.number ∷ []) c.taken-numbers.ensures.numbers) c.taken-numbers.ensures.others c.in_ok-insert.ensures.updates
