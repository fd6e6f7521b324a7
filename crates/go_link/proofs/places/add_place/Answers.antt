use Rattle.std.proofs.Common.{sym, ◌∙◌}
use Rattle.go_link.proofs.Firsts.{added_firsts, kept_firsts}
use Rattle.go_link.proofs.places.add_place.Goals as goal

pub returns-in_ok-insert : goal.returns-in_ok-insert
returns-in_ok-insert c = λ before count is h.
    added_firsts c.args.firsts.now c.insert.new.self before c.args.name count c.args.first h
    (sym c.contains_key.ensures ∙ c.if-not-contains_key.true) is (λ n. (c.in_ok-insert.ensures.updates).0 n)

pub returns-else-not-contains_key : goal.returns-else-not-contains_key
returns-else-not-contains_key c = λ before count is h.
    kept_firsts c.args.firsts.now before c.args.name count h (sym c.contains_key.ensures ∙ c.if-not-contains_key.false)
