use Rattle.std.proofs.Common.{◌≡◌, [], ◌∷◌, length, rules}
use Rattle.go_packed.proofs.Listed.{last_there, one_behind}
use Rattle.go_packed.proofs.names.Names.number.Goals as goal

pub returns-in_err-insert-clause-more : goal.returns-in_err-insert-clause-more
returns-in_err-insert-clause-more c =
    (c.args.name.now ∷ [], one_behind c.self.inside.all.items c.push.new.self.items c.args.name c.args.self.now c.in_ok-push.ensures.items c.self.view_is)

pub returns-clause-there : goal.returns-clause-there
returns-clause-there c =
    let number : length c.self.inside.all.items ≡ c.len-number.result = search rules in
    last_there c.self.inside.all.items c.push.new.self.items c.args.name c.len-number.result number c.in_ok-push.ensures.items

pub returns-clause-more : goal.returns-clause-more
returns-clause-more c =
    (c.args.name.now ∷ [], one_behind c.self.inside.all.items c.push.new.self.items c.args.name c.args.self.now c.in_ok-push.ensures.items c.self.view_is)
