-- Answers at what stands behind operands.
use Rattle.std.proofs.Common.{◌+◌, ◌-◌, ◌≤◌, false, map, Some, refl, sym, ap, ◌∙◌, subst, arith}
use Rattle.std.proofs.lemmas.Result.{IfOk-weaker}
use Rattle.go_pexpr.specs.declared.operators.Beginning.TheVariants as begins
use Rattle.go_ast.specs.Trees as trees
use Rattle.go_ast.specs.Expected.{another, an_index, an_index_end}
use Rattle.go_ast.specs.Grammar.{opening, opening_bracket, period, Lexeme, closing_bracket, colon}
use Rattle.go_ast.specs.Machine.{token, expr, suffixes, arguments, run_parser, Reader, operands, tails, behind_colon}
use Rattle.go_ast.specs.Views.{expr_of, bound_of}
use Rattle.go_pexpr.specs.declared.brackets.Inside.{Inside}
use Rattle.go_pexpr.specs.declared.brackets.Inside.TheVariants.{At, Part}
use Rattle.go_pexpr.specs.Inside.{inside_of, inside_tall}
use Rattle.go_pexpr.proofs.SuffixTurns.{as_selector, as_index, as_call, as_literal, suffix_ends, literal_named}
use Rattle.go_pexpr.specs.Turns.{behind_selector, behind_index, behind_call, index_ends}
use Rattle.go_pexpr.specs.Reads.{left}
use Rattle.go_pexpr.proofs.Reading.{then_reads, then_fails, then_makes, was_read, was_failing, if_read, on_read, took, missed, took_beside, missed_beside}
use Rattle.go_pexpr.proofs.Steps.{refuses_at}
use Rattle.go_pexpr.proofs.TreeStates.{call_end, index_end, cut_of, high_end}
use Rattle.go_pexpr.proofs.parser.Parser.+tree.Goals as goal

-- suffixes

pub called-returns-in_err-operand-clause-reads : goal.called-returns-in_err-operand-clause-reads
called-returns-in_err-operand-clause-reads t c = λ next.
    then_fails refl (was_failing (c.passed.ensures.reads (call_end next (expr_of c.args.operand.expr))) c.in_err-operand.ensures.err) c.from_residual.ensures.1

pub called-returns-clause-reads : goal.called-returns-clause-reads
called-returns-clause-reads t c = λ next.
    let f = expr_of c.args.operand.expr in
    let es = map expr_of c.in_ok-operand.arguments.items.items in
    let same = ap (λ o. expr_of o.expr) c.in_ok-operand.ensures.first in
    then_makes c.call.result (call_end next f es) (was_read (c.passed.ensures.reads (call_end next f)) c.in_ok-operand.ensures.read)
    (IfOk-weaker c.call.result _ _ (λ x h. ap next (h ∙ ap (λ g. trees.call (trees.place_of g) g (trees.pack es)) same)) c.call.ensures.expr) c.call.ensures.err

pub passed-returns-clause-reads : goal.passed-returns-clause-reads
passed-returns-clause-reads t c = λ next.
    then_reads c.operands.result (c.in_ok-expect.ensures.reads (λ _. operands c.args.level (λ es _. next es))).by (c.operands.ensures.reads next)

pub indexed-returns-in_err-operand-clause-reads : goal.indexed-returns-in_err-operand-clause-reads
indexed-returns-in_err-operand-clause-reads t c = λ next.
    then_fails refl (was_failing (c.in_brackets.ensures.reads (expr_of c.args.operand.expr) next) c.in_err-operand.ensures.err) c.from_residual.ensures.1

pub indexed-returns-in-At-clause-reads : goal.indexed-returns-in-At-clause-reads
indexed-returns-in-At-clause-reads t c = λ next.
    let e = expr_of c.args.operand.expr in
    let i = expr_of c.in-At.at.expr in
    let same = ap (λ o. expr_of o.expr) c.in_ok-operand.ensures.first in
    then_makes c.index.result (index_end next e i)
    (was_read (c.in_brackets.ensures.reads e next) c.in_ok-operand.ensures.read
    ∙ ap (λ (x : Inside). run_parser c.in_brackets.new.self.edition 250 (next (inside_of e x)) (left c.in_brackets.new.self)) c.in-At.is)
    (IfOk-weaker c.index.result _ _ (λ x h. ap next (h ∙ ap (λ o. trees.index (trees.place_of o) o i) same)) c.index.ensures.expr) c.index.ensures.err

pub indexed-returns-in-Part-clause-reads : goal.indexed-returns-in-Part-clause-reads
indexed-returns-in-Part-clause-reads t c = λ next.
    let e = expr_of c.args.operand.expr in
    let a = bound_of c.in-Part.low.bound in
    let b = bound_of c.in-Part.high.bound in
    let same = ap (λ o. expr_of o.expr) c.in_ok-operand.ensures.first in
    then_makes c.cut.result (cut_of next e a b)
    (was_read (c.in_brackets.ensures.reads e next) c.in_ok-operand.ensures.read
    ∙ ap (λ (x : Inside). run_parser c.in_brackets.new.self.edition 250 (next (inside_of e x)) (left c.in_brackets.new.self)) c.in-Part.is)
    (IfOk-weaker c.cut.result _ _ (λ x h. ap next (h ∙ ap (λ o. trees.cut (trees.place_of o) o a b) same)) c.cut.ensures.expr) c.cut.ensures.err

pub indexed-returns-in-At-clause-fits : goal.indexed-returns-in-At-clause-fits
indexed-returns-in-At-clause-fits t c =
    let l = c.args.level in
    let all = if_read (λ x. l + 1 + inside_tall x ≤ 251) c.in_brackets.ensures.fits c.in_ok-operand.ensures.read in
    let inner : l + 1 + inside_tall (At c.in-At.at) ≤ 251 = subst (λ (x : Inside). l + 1 + inside_tall x ≤ 251) c.in-At.is all in
    IfOk-weaker c.index.result _ _
    (λ e h. omega (arith, h, inner, on_read (l + c.args.operand.height ≤ 250) c.in_brackets.ensures.need c.in_ok-operand.ensures.read, ap (λ o. o.height) c.in_ok-operand.ensures.first))
    c.index.ensures.height

pub indexed-returns-in-Part-clause-fits : goal.indexed-returns-in-Part-clause-fits
indexed-returns-in-Part-clause-fits t c =
    let l = c.args.level in
    let all = if_read (λ x. l + 1 + inside_tall x ≤ 251) c.in_brackets.ensures.fits c.in_ok-operand.ensures.read in
    let inner : l + 1 + inside_tall (Part c.in-Part.low c.in-Part.high) ≤ 251 = subst (λ (x : Inside). l + 1 + inside_tall x ≤ 251) c.in-Part.is all in
    IfOk-weaker c.cut.result _ _
    (λ e h. omega (arith, h, inner, on_read (l + c.args.operand.height ≤ 250) c.in_brackets.ensures.need c.in_ok-operand.ensures.read, ap (λ o. o.height) c.in_ok-operand.ensures.first))
    c.cut.ensures.height

-- what is in brackets

pub in_brackets-returns-in_err-accept_newer-clause-reads : goal.in_brackets-returns-in_err-accept_newer-clause-reads
in_brackets-returns-in_err-accept_newer-clause-reads t c = λ e next.
    let l = c.args.level in
    let some = λ (u : Lexeme). behind_colon l e trees.no_bound next in
    let none : Reader = expr 5 false (l + 1) an_index (index_ends l e next) in
    then_fails (c.in_ok-expect.ensures.reads (behind_index l e next)).by
    (c.in_err-accept_newer.ensures.reads an_index some none (refuses_at _ none an_index colon (λ text q. refl))) c.from_residual-in_err-accept_newer.ensures.1

pub in_brackets-returns-in_err-high-clause-reads : goal.in_brackets-returns-in_err-high-clause-reads
in_brackets-returns-in_err-high-clause-reads t c = λ e next.
    let l = c.args.level in
    let some = λ (u : Lexeme). behind_colon l e trees.no_bound next in
    let none : Reader = expr 5 false (l + 1) an_index (index_ends l e next) in
    let newer = c.in_ok-accept_newer.ensures.reads an_index some none (refuses_at _ none an_index colon (λ text q. refl)) in
    then_fails ((c.in_ok-expect.ensures.reads (behind_index l e next)).by ∙ took newer c.in-Some.is) (c.in_err-high.ensures.reads e trees.no_bound next) c.from_residual-in_err-high.ensures.1

pub in_brackets-returns-in-Some-clause-reads : goal.in_brackets-returns-in-Some-clause-reads
in_brackets-returns-in-Some-clause-reads t c = λ e next.
    let l = c.args.level in
    let some = λ (u : Lexeme). behind_colon l e trees.no_bound next in
    let none : Reader = expr 5 false (l + 1) an_index (index_ends l e next) in
    let newer = c.in_ok-accept_newer.ensures.reads an_index some none (refuses_at _ none an_index colon (λ text q. refl)) in
    record {
      by = (c.in_ok-expect.ensures.reads (behind_index l e next)).by ∙ took newer c.in-Some.is ∙ (c.in_ok-high.ensures.reads e trees.no_bound next).by
          ∙ ap (λ b. run_parser c.high.new.self.edition 250 (cut_of next e b (bound_of c.in_ok-high.high.bound)) (left c.high.new.self)) (sym c.unbounded.ensures.bound);
    }

pub in_brackets-returns-in_err-first-clause-reads : goal.in_brackets-returns-in_err-first-clause-reads
in_brackets-returns-in_err-first-clause-reads t c = λ e next.
    let l = c.args.level in
    let some = λ (u : Lexeme). behind_colon l e trees.no_bound next in
    let none : Reader = expr 5 false (l + 1) an_index (index_ends l e next) in
    let newer = c.in_ok-accept_newer.ensures.reads an_index some none (refuses_at _ none an_index colon (λ text q. refl)) in
    then_fails ((c.in_ok-expect.ensures.reads (behind_index l e next)).by ∙ missed newer c.in_default.is) (c.in_err-first.ensures.reads (index_ends l e next)) c.from_residual-in_err-first.ensures.1

pub in_brackets-returns-clause-reads : goal.in_brackets-returns-clause-reads
in_brackets-returns-clause-reads t c = λ e next.
    let l = c.args.level in
    let some = λ (u : Lexeme). behind_colon l e trees.no_bound next in
    let none : Reader = expr 5 false (l + 1) an_index (index_ends l e next) in
    let newer = c.in_ok-accept_newer.ensures.reads an_index some none (refuses_at _ none an_index colon (λ text q. refl)) in
    then_reads c.index_end.result
    ((c.in_ok-expect.ensures.reads (behind_index l e next)).by ∙ missed newer c.in_default.is ∙ (c.in_ok-first.ensures.reads (index_ends l e next)).by)
    (c.index_end.ensures.reads e next)

pub index_end-returns-in_err-one-clause-reads : goal.index_end-returns-in_err-one-clause-reads
index_end-returns-in_err-one-clause-reads t c = λ e next.
    let i = expr_of c.args.first.expr in
    let some = λ (u : Lexeme). behind_colon c.args.level e (trees.bound i) next in
    let none : Reader = token closing_bracket 0 an_index_end (λ _. index_end next e i) in
    then_fails refl (was_failing (c.accept_newer.ensures.reads an_index_end some none (refuses_at _ none an_index_end colon (λ text q. refl))) c.in_err-one.ensures.err)
    c.from_residual.ensures.1

pub index_end-returns-in_err-low-clause-reads : goal.index_end-returns-in_err-low-clause-reads
index_end-returns-in_err-low-clause-reads t c = λ e next.
    let i = expr_of c.args.first.expr in
    let some = λ (u : Lexeme). behind_colon c.args.level e (trees.bound i) next in
    let none : Reader = token closing_bracket 0 an_index_end (λ _. index_end next e i) in
    let newer = c.accept_newer.ensures.reads an_index_end some none (refuses_at _ none an_index_end colon (λ text q. refl)) in
    then_fails (took_beside newer c.in_ok-one.ensures.read c.in-Some.is) (was_failing (c.high.ensures.reads e (trees.bound i) next) c.in_err-low.ensures.err)
    c.from_residual-in_err-low.ensures.1

pub index_end-returns-in-Some-clause-reads : goal.index_end-returns-in-Some-clause-reads
index_end-returns-in-Some-clause-reads t c = λ e next.
    let i = expr_of c.args.first.expr in
    let some = λ (u : Lexeme). behind_colon c.args.level e (trees.bound i) next in
    let none : Reader = token closing_bracket 0 an_index_end (λ _. index_end next e i) in
    let newer = c.accept_newer.ensures.reads an_index_end some none (refuses_at _ none an_index_end colon (λ text q. refl)) in
    let low = ap (λ b. bound_of b.bound) c.in_ok-low.ensures.first ∙ c.in_ok-bounded.ensures.bound ∙ ap (λ x. trees.bound (expr_of x.expr)) c.in_ok-one.ensures.first in
    record {
      by = took_beside newer c.in_ok-one.ensures.read c.in-Some.is ∙ was_read (c.high.ensures.reads e (trees.bound i) next) c.in_ok-low.ensures.read
          ∙ ap (λ b. run_parser c.high.new.self.edition 250 (cut_of next e b (bound_of c.in_ok-low.high.bound)) (left c.high.new.self)) (sym low);
    }

pub index_end-returns-in_err-at-clause-reads : goal.index_end-returns-in_err-at-clause-reads
index_end-returns-in_err-at-clause-reads t c = λ e next.
    let i = expr_of c.args.first.expr in
    let some = λ (u : Lexeme). behind_colon c.args.level e (trees.bound i) next in
    let none : Reader = token closing_bracket 0 an_index_end (λ _. index_end next e i) in
    let newer = c.accept_newer.ensures.reads an_index_end some none (refuses_at _ none an_index_end colon (λ text q. refl)) in
    then_fails (missed_beside newer c.in_ok-one.ensures.read c.in_default.is) (was_failing (c.expect.ensures.reads (λ _. index_end next e i)) c.in_err-at.ensures.err)
    c.from_residual-in_err-at.ensures.1

pub index_end-returns-clause-reads : goal.index_end-returns-clause-reads
index_end-returns-clause-reads t c = λ e next.
    let i = expr_of c.args.first.expr in
    let some = λ (u : Lexeme). behind_colon c.args.level e (trees.bound i) next in
    let none : Reader = token closing_bracket 0 an_index_end (λ _. index_end next e i) in
    let newer = c.accept_newer.ensures.reads an_index_end some none (refuses_at _ none an_index_end colon (λ text q. refl)) in
    record {
      by = missed_beside newer c.in_ok-one.ensures.read c.in_default.is ∙ was_read (c.expect.ensures.reads (λ _. index_end next e i)) c.in_ok-at.ensures.read
          ∙ ap (λ x. run_parser c.expect.new.self.edition 250 (index_end next e (expr_of x.expr)) (left c.expect.new.self)) (sym (c.in_ok-at.ensures.first ∙ c.in_ok-one.ensures.first));
    }

pub high-returns-in_err-accept-clause-reads : goal.high-returns-in_err-accept-clause-reads
high-returns-in_err-accept-clause-reads t c = λ e low next.
    let some = λ (u : Lexeme). cut_of next e low trees.no_bound in
    let none : Reader = expr 5 false (c.args.level + 1) an_index (high_end next e low) in
    then_fails refl (c.in_err-accept.ensures.reads some none) c.from_residual.ensures.1

pub high-returns-in-Some-clause-reads : goal.high-returns-in-Some-clause-reads
high-returns-in-Some-clause-reads t c = λ e low next.
    let some = λ (u : Lexeme). cut_of next e low trees.no_bound in
    let none : Reader = expr 5 false (c.args.level + 1) an_index (high_end next e low) in
    record {
      by = took (c.in_ok-accept.ensures.reads some none) c.in-Some.is
          ∙ ap (λ b. run_parser c.accept.new.self.edition 250 (cut_of next e low b) (left c.accept.new.self)) (sym c.unbounded.ensures.bound);
    }

pub high-returns-in_err-first-clause-reads : goal.high-returns-in_err-first-clause-reads
high-returns-in_err-first-clause-reads t c = λ e low next.
    let some = λ (u : Lexeme). cut_of next e low trees.no_bound in
    let none : Reader = expr 5 false (c.args.level + 1) an_index (high_end next e low) in
    then_fails (missed (c.in_ok-accept.ensures.reads some none) c.in_default.is) (c.in_err-first.ensures.reads (high_end next e low)) c.from_residual-in_err-first.ensures.1

pub high-returns-in_err-at-clause-reads : goal.high-returns-in_err-at-clause-reads
high-returns-in_err-at-clause-reads t c = λ e low next.
    let some = λ (u : Lexeme). cut_of next e low trees.no_bound in
    let none : Reader = expr 5 false (c.args.level + 1) an_index (high_end next e low) in
    let j = expr_of c.in_ok-first.first.expr in
    then_fails (missed (c.in_ok-accept.ensures.reads some none) c.in_default.is ∙ (c.in_ok-first.ensures.reads (high_end next e low)).by)
    (was_failing (c.expect.ensures.reads (λ _. cut_of next e low (trees.bound j))) c.in_err-at.ensures.err) c.from_residual-in_err-at.ensures.1

pub high-returns-clause-reads : goal.high-returns-clause-reads
high-returns-clause-reads t c = λ e low next.
    let some = λ (u : Lexeme). cut_of next e low trees.no_bound in
    let none : Reader = expr 5 false (c.args.level + 1) an_index (high_end next e low) in
    let j = expr_of c.in_ok-first.first.expr in
    let same = ap (λ x. trees.bound (expr_of x.expr)) c.in_ok-at.ensures.first in
    then_makes c.bound.result (cut_of next e low (trees.bound j))
    (missed (c.in_ok-accept.ensures.reads some none) c.in_default.is ∙ (c.in_ok-first.ensures.reads (high_end next e low)).by
    ∙ was_read (c.expect.ensures.reads (λ _. cut_of next e low (trees.bound j))) c.in_ok-at.ensures.read)
    (IfOk-weaker c.bound.result _ _ (λ b h. ap (cut_of next e low) (h ∙ same)) c.bound.ensures.bound) c.bound.ensures.err

-- behind a type that it begins with

pub behind-returns-in_err-operand-clause-reads : goal.behind-returns-in_err-operand-clause-reads
behind-returns-in_err-operand-clause-reads t c = λ next.
    then_fails refl (c.in_err-operand.ensures.reads (tails 5 false c.args.level next)) c.from_residual.ensures.1

pub behind-returns-clause-reads : goal.behind-returns-clause-reads
behind-returns-clause-reads t c = λ next.
    then_reads c.operators.result (c.in_ok-operand.ensures.reads (tails 5 false c.args.level next)).by (c.operators.ensures.reads next)

pub suffixes-returns-in_err-front-in-Selector-clause-reads : goal.suffixes-returns-in_err-front-in-Selector-clause-reads
suffixes-returns-in_err-front-in-Selector-clause-reads t c = λ next.
    let e = expr_of c.suffixes.front.expr in
    let ts = left c.suffixes.self in
    then_fails (c.suffixes.invariant.reads next
    ∙ as_selector c.suffixes.self.edition c.args.header c.args.level e next _ ts (sym c.suffix.ensures ∙ c.in-Some.is ∙ ap Some c.in-Selector.is)
    ∙ ap (λ m. run_parser c.suffixes.self.edition 250 (token period (c.args.level + m) another (behind_selector e (λ x. suffixes c.args.header c.args.level x next))) ts) (sym c.suffixes.front.counted))
    (c.in_err-front-in-Selector.ensures.reads (λ x. suffixes c.args.header c.args.level x next)) c.from_residual.ensures.1

pub suffixes-suffixes-preserved-in_ok-front-in-Selector : goal.suffixes-suffixes-preserved-in_ok-front-in-Selector
suffixes-suffixes-preserved-in_ok-front-in-Selector t c =
    let e = expr_of c.suffixes.front.expr in
    let ts = left c.suffixes.self in
    record {
      reads = λ next.
          c.suffixes.invariant.reads next
          ∙ as_selector c.suffixes.self.edition c.args.header c.args.level e next _ ts (sym c.suffix.ensures ∙ c.in-Some.is ∙ ap Some c.in-Selector.is)
          ∙ ap (λ m. run_parser c.suffixes.self.edition 250 (token period (c.args.level + m) another (behind_selector e (λ x. suffixes c.args.header c.args.level x next))) ts) (sym c.suffixes.front.counted)
          ∙ (c.in_ok-front-in-Selector.ensures.reads (λ x. suffixes c.args.header c.args.level x next)).by;
      fits = c.in_ok-front-in-Selector.ensures.fits;
      shorter = omega (arith, c.suffixes.invariant.shorter, c.in_ok-front-in-Selector.ensures.shorter);
    }

pub suffixes-returns-in_err-front-in-Index-clause-reads : goal.suffixes-returns-in_err-front-in-Index-clause-reads
suffixes-returns-in_err-front-in-Index-clause-reads t c = λ next.
    let e = expr_of c.suffixes.front.expr in
    let ts = left c.suffixes.self in
    then_fails (c.suffixes.invariant.reads next
    ∙ as_index c.suffixes.self.edition c.args.header c.args.level e next _ ts (sym c.suffix.ensures ∙ c.in-Some.is ∙ ap Some c.in-Index.is)
    ∙ ap (λ m. run_parser c.suffixes.self.edition 250 (token opening_bracket (c.args.level + m) another (behind_index c.args.level e (λ x. suffixes c.args.header c.args.level x next))) ts) (sym c.suffixes.front.counted))
    (c.in_err-front-in-Index.ensures.reads (λ x. suffixes c.args.header c.args.level x next)) c.from_residual-in_err-front-in-Index.ensures.1

pub suffixes-suffixes-preserved-in_ok-front-in-Index : goal.suffixes-suffixes-preserved-in_ok-front-in-Index
suffixes-suffixes-preserved-in_ok-front-in-Index t c =
    let e = expr_of c.suffixes.front.expr in
    let ts = left c.suffixes.self in
    record {
      reads = λ next.
          c.suffixes.invariant.reads next
          ∙ as_index c.suffixes.self.edition c.args.header c.args.level e next _ ts (sym c.suffix.ensures ∙ c.in-Some.is ∙ ap Some c.in-Index.is)
          ∙ ap (λ m. run_parser c.suffixes.self.edition 250 (token opening_bracket (c.args.level + m) another (behind_index c.args.level e (λ x. suffixes c.args.header c.args.level x next))) ts) (sym c.suffixes.front.counted)
          ∙ (c.in_ok-front-in-Index.ensures.reads (λ x. suffixes c.args.header c.args.level x next)).by;
      fits = c.in_ok-front-in-Index.ensures.fits;
      shorter = omega (arith, c.suffixes.invariant.shorter, c.in_ok-front-in-Index.ensures.shorter);
    }

pub suffixes-returns-in_err-front-in-Call-clause-reads : goal.suffixes-returns-in_err-front-in-Call-clause-reads
suffixes-returns-in_err-front-in-Call-clause-reads t c = λ next.
    let e = expr_of c.suffixes.front.expr in
    let ts = left c.suffixes.self in
    then_fails (c.suffixes.invariant.reads next
    ∙ as_call c.suffixes.self.edition c.args.header c.args.level e next _ ts (sym c.suffix.ensures ∙ c.in-Some.is ∙ ap Some c.in-Call.is)
    ∙ ap (λ m. run_parser c.suffixes.self.edition 250 (token opening (c.args.level + m) another (behind_call c.args.level e (λ x. suffixes c.args.header c.args.level x next))) ts) (sym c.suffixes.front.counted))
    (c.in_err-front-in-Call.ensures.reads (λ x. suffixes c.args.header c.args.level x next)) c.from_residual-in_err-front-in-Call.ensures.1

pub suffixes-suffixes-preserved-in_ok-front-in-Call : goal.suffixes-suffixes-preserved-in_ok-front-in-Call
suffixes-suffixes-preserved-in_ok-front-in-Call t c =
    let e = expr_of c.suffixes.front.expr in
    let ts = left c.suffixes.self in
    record {
      reads = λ next.
          c.suffixes.invariant.reads next
          ∙ as_call c.suffixes.self.edition c.args.header c.args.level e next _ ts (sym c.suffix.ensures ∙ c.in-Some.is ∙ ap Some c.in-Call.is)
          ∙ ap (λ m. run_parser c.suffixes.self.edition 250 (token opening (c.args.level + m) another (behind_call c.args.level e (λ x. suffixes c.args.header c.args.level x next))) ts) (sym c.suffixes.front.counted)
          ∙ (c.in_ok-front-in-Call.ensures.reads (λ x. suffixes c.args.header c.args.level x next)).by;
      fits = c.in_ok-front-in-Call.ensures.fits;
      shorter = omega (arith, c.suffixes.invariant.shorter, c.in_ok-front-in-Call.ensures.shorter);
    }

pub suffixes-returns-in_err-front-in-CompositeLit-clause-reads : goal.suffixes-returns-in_err-front-in-CompositeLit-clause-reads
suffixes-returns-in_err-front-in-CompositeLit-clause-reads t c = λ next.
    let e = expr_of c.suffixes.front.expr in
    let ts = left c.suffixes.self in
    let q = sym c.suffix.ensures ∙ c.in-Some.is ∙ ap Some c.in-CompositeLit.is in
    let a = literal_named c.args.header e ts q in
    then_fails (c.suffixes.invariant.reads next ∙ as_literal c.suffixes.self.edition c.args.header c.args.level e next a.0 ts q a.1)
    (c.in_err-front-in-CompositeLit.ensures.reads a.0 a.1 (λ x. suffixes c.args.header c.args.level x next)) c.from_residual-in_err-front-in-CompositeLit.ensures.1

pub suffixes-suffixes-preserved : goal.suffixes-suffixes-preserved
suffixes-suffixes-preserved t c =
    let e = expr_of c.suffixes.front.expr in
    let ts = left c.suffixes.self in
    let q = sym c.suffix.ensures ∙ c.in-Some.is ∙ ap Some c.in-CompositeLit.is in
    let a = literal_named c.args.header e ts q in
    record {
      reads = λ next.
          c.suffixes.invariant.reads next ∙ as_literal c.suffixes.self.edition c.args.header c.args.level e next a.0 ts q a.1
          ∙ (c.in_ok-front-in-CompositeLit.ensures.reads a.0 a.1 (λ x. suffixes c.args.header c.args.level x next)).by;
      fits = c.in_ok-front-in-CompositeLit.ensures.fits;
      shorter = omega (arith, c.suffixes.invariant.shorter, c.in_ok-front-in-CompositeLit.ensures.shorter);
    }

pub suffixes-returns-clause-reads : goal.suffixes-returns-clause-reads
suffixes-returns-clause-reads t c = λ next.
    record { by = c.suffixes.invariant.reads next ∙ suffix_ends c.suffixes.self.edition c.args.header c.args.level (expr_of c.suffixes.front.expr) next (left c.suffixes.self) (sym c.suffix.ensures ∙ c.in_default.is) }
