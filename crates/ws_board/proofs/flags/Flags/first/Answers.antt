use Rattle.std.proofs.Common.{◌+◌, ◌∙◌, false, get_or, sym, ap, arith}
use Rattle.std.proofs.lemmas.List.{get_or-drop}
use Rattle.ws_board.proofs.Trees.{root_none}
use Rattle.ws_board.proofs.flags.Flags.first.Goals as goal

pub returns-else-stands-clause-none : goal.returns-else-stands-clause-none
returns-else-stands-clause-none c = λ j. ap (λ l. get_or l j false) (sym c.self.view_is) ∙ get_or-drop c.self.inside.inner c.self.inside.tree.items j false ∙ root_none c.self.inside.inner c.self.inside.tree.items c.self.invariant (ap (λ l. get_or l 1 false) (sym c.deref.ensures.value) ∙ sym c.stands.ensures ∙ c.if-stands.false) (c.self.inside.inner + j) (omega arith)
