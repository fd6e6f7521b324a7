use Rattle.std.proofs.Common.{◌∙◌}
use Rattle.go_gen.proofs.Made.{function_seen}
use Rattle.go_gen.proofs.generate.translate.Goals as goal

pub returns : goal.returns
returns c =
    c.new.ensures
    ∙ function_seen c.args.function.now _ _ _ _ _ _ _ _ _ _ _ _ _ c.new-slots.ensures.items
    c.deref.ensures.value c.in_ok-parameters.ensures.slots c.in_ok-parameters.ensures.total c.deref-2.ensures.value c.in_ok-size.ensures.slots c.in_ok-size.ensures.total
    c.deref-3.ensures.value c.deref-4.ensures.value c.in_ok-code.ensures c.deref-5.ensures.value c.in_ok-stmts_temps.ensures c.in_ok-cells.ensures
