use Rattle.std.proofs.Common.{◌≡◌, ◌∷◌, ap, ◌∙◌}
use Rattle.std.specs.Arc.{arc_value}
use Rattle.ws_version.specs.Writes.{Write}
use Rattle.ws_register.proofs.Walks.{take-greater, head_is, ok_then}
use Rattle.ws_register.proofs.merge.take_greater.Goals as goal

pub returns-clause-joined : goal.returns-clause-joined
returns-clause-joined c =
    let both = c.requires.both in
    let path = both.0 in
    let mine = c.next_shared.new.self in
    let theirs = c.next_shared-2.new.self in
    let first : arc_value c.in-Some.first.now ≡ (path, both.1) = head_is c.args.mine.now mine both.3 (arc_value c.in-Some.first.now) (path, both.1) c.in-Some.ensures both.5 in
    let other : arc_value c.in-Some-next_shared.other.now ≡ (path, both.2) = head_is c.args.theirs.now theirs both.4 (arc_value c.in-Some-next_shared.other.now) (path, both.2) c.in-Some-next_shared.ensures both.6 in
    ok_then c.push.result (λ pushed.
    take-greater c.args.draft.now c.push.new.self c.args.mine.now mine c.args.theirs.now theirs path both.1 both.2 (arc_value c.greater_of.result.now)
    (c.in-Some.ensures ∙ ap (λ (z : Write). z ∷ mine) first) (c.in-Some-next_shared.ensures ∙ ap (λ (z : Write). z ∷ theirs) other)
    (c.greater_of.ensures path both.1 both.2 first other) pushed c.requires.mine c.requires.theirs)
    c.push.ensures
