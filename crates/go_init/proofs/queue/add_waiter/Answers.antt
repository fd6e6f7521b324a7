use Rattle.std.proofs.Common.{get_or, refl, ap, ◌∙◌, ◌++◌, ◌∷◌, []}
use Rattle.std.specs.Global.{Vec}
use Rattle.std.proofs.lemmas.Option.{slice_get-get_or}
use Rattle.go_init.specs.declared.queue.Waiter.{Waiter}
use Rattle.go_init.proofs.Waiters.{added_from, added_to}
use Rattle.go_init.proofs.queue.add_waiter.Goals as goal

pub returns-clause-added : goal.returns-clause-added
returns-clause-added c =
    let waiting = c.args.waiting.now.items in
    let its : Vec Waiter = get_or waiting c.args.import c.index_mut.result.now in
    let at = slice_get-get_or waiting c.args.import c.index_mut.result.now c.requires in
    let pushed = c.in_ok-push.ensures.items ∙ ap (λ (v : Vec Waiter). v.items ++ c.args.waiter ∷ []) c.index_mut.ensures.value in
    λ j w. (added_from waiting _ c.args.import c.args.waiter its c.push.new.self at refl pushed j w, added_to waiting _ c.args.import c.args.waiter its c.push.new.self at refl pushed j w)
