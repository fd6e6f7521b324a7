use Rattle.std.proofs.Common.{sym, ◌∙◌}
use Rattle.go_link.proofs.Numbered.{added_numbers, kept_numbers}
use Rattle.go_link.proofs.names.add_name.Goals as goal

pub returns-in_ok-insert : goal.returns-in_ok-insert
returns-in_ok-insert c = λ before is h.
    added_numbers c.args.numbers.now c.insert.new.self before c.args.name c.args.number h
    (sym c.contains_key.ensures ∙ c.if-not-contains_key.true) is (λ n. (c.in_ok-insert.ensures.updates).0 n)

pub returns-else-not-contains_key : goal.returns-else-not-contains_key
returns-else-not-contains_key c = λ before is h.
    kept_numbers c.args.numbers.now before c.args.name h (sym c.contains_key.ensures ∙ c.if-not-contains_key.false)
