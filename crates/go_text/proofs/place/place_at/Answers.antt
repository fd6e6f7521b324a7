use Rattle.std.proofs.Common.{◌≡◌, ◌-◌, [], take, drop, ap, ◌∙◌, arith}
use Rattle.go_text.specs.Places.{place_after, mark_size}
use Rattle.go_text.proofs.place.place_at.Goals as goal

pub returns-then-offset-start : goal.returns-then-offset-start
returns-then-offset-start c =
    let text = c.args.text.now in
    let none : 0 ≡ c.args.offset - mark_size text = omega (arith, c.mark_size-start.ensures.value) in
    c.first.ensures ∙ ap (λ k. place_after (take k (drop (mark_size text) text))) none

pub returns : goal.returns
returns c =
    let text = c.args.text.now in
    c.after.ensures [] c.first-2.ensures ∙ ap (λ k. place_after (take (c.args.offset - k) (drop k text))) c.mark_size-start.ensures.value
