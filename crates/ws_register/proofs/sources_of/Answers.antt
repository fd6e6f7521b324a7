use Rattle.std.proofs.Common.{Some, ap, sym, ◌∙◌, option_copied}
use Rattle.ws_version.specs.Writes.{Held}
use Rattle.ws_register.specs.Sources.{texts_of}
use Rattle.ws_register.proofs.Listed.{one_more_source}
use Rattle.ws_register.proofs.sources_of.Goals as goal

pub writes-preserved-in_ok-push : goal.writes-preserved-in_ok-push
writes-preserved-in_ok-push c =
    one_more_source c.writes.sources.items c.push.new.self.items c.in_ok-path.path c.in_ok-copy.field-0
    c.in-Some.write.now c.writes.left c.next.new.self (texts_of c.args.rest)
    c.writes.invariant c.in-Some.ensures
    (c.in_ok-path.ensures.ok ∙ c.path.ensures)
    (ap (λ (h : Held). h.text) (sym c.held.ensures) ∙ sym c.text.ensures ∙ ap option_copied c.in-Some-text.is ∙ ap Some (sym c.in_ok-copy.ensures)) c.in_ok-push.ensures.items
