-- Answers at types and their fields.
use Rattle.std.proofs.Common.{◌+◌, ◌-◌, false, refl, sym, ap, ◌∙◌}
use Rattle.std.proofs.lemmas.Result.{IfOk-weaker}
use Rattle.go_pexpr.specs.declared.operators.Beginning.TheVariants as begins
use Rattle.go_pexpr.proofs.Begins.{begins_as, name_first, bracket_first, structure_first}
use Rattle.go_scan.specs.declared.token.TokenKind.TheVariants as kinds
use Rattle.go_scan.specs.declared.keyword.Keyword.TheVariants as keywords
use Rattle.go_ast.specs.Trees as trees
use Rattle.go_ast.specs.Expected.{a_type, a_length}
use Rattle.go_ast.specs.Grammar.{opening_bracket, Lexeme, closing_bracket}
use Rattle.go_ast.specs.Machine.{expr, names, fields, keyword, behind_struct, run_parser, type, Reader, behind_bracket}
use Rattle.go_ast.specs.Views.{type_of, expr_of}
use Rattle.go_pexpr.specs.Reads.{left, expected_of}
use Rattle.go_pexpr.proofs.Reading.{then_reads, then_fails, then_makes, then_refuses, was_read, was_failing, took, missed}
use Rattle.go_pexpr.proofs.Steps.{refuses_at}
use Rattle.go_pexpr.proofs.Turns.{type_as_name, type_as_array, type_as_struct, type_fails}
use Rattle.go_pexpr.proofs.TreeStates.{made_struct, open_struct, item_of, slice_of, sized_end}
use Rattle.go_pexpr.proofs.parser.Parser.+tree.Goals as goal

-- types of arrays and slices

pub bracket_type-returns-in_err-accept_newer-clause-reads : goal.bracket_type-returns-in_err-accept_newer-clause-reads
bracket_type-returns-in_err-accept_newer-clause-reads t c = λ next.
    let l = c.args.level in
    let p = c.in_ok-bracket.bracket.place in
    let some = λ (u : Lexeme). type (l + 1) a_type (slice_of next p) in
    let none : Reader = expr 5 false (l + 1) a_length (sized_end l next p) in
    then_fails (c.in_ok-bracket.ensures.reads (behind_bracket l next)).by
    (c.in_err-accept_newer.ensures.reads a_length some none (refuses_at _ none a_length closing_bracket (λ text q. refl))) c.from_residual-in_err-accept_newer.ensures.1

pub bracket_type-returns-in_err-item-clause-reads : goal.bracket_type-returns-in_err-item-clause-reads
bracket_type-returns-in_err-item-clause-reads t c = λ next.
    let l = c.args.level in
    let p = c.in_ok-bracket.bracket.place in
    let some = λ (u : Lexeme). type (l + 1) a_type (slice_of next p) in
    let none : Reader = expr 5 false (l + 1) a_length (sized_end l next p) in
    let newer = c.in_ok-accept_newer.ensures.reads a_length some none (refuses_at _ none a_length closing_bracket (λ text q. refl)) in
    then_fails ((c.in_ok-bracket.ensures.reads (behind_bracket l next)).by ∙ took newer c.in-Some.is) (c.in_err-item.ensures.reads (slice_of next p)) c.from_residual-in_err-item.ensures.1

pub bracket_type-returns-in-Some-clause-reads : goal.bracket_type-returns-in-Some-clause-reads
bracket_type-returns-in-Some-clause-reads t c = λ next.
    let l = c.args.level in
    let p = c.in_ok-bracket.bracket.place in
    let some = λ (u : Lexeme). type (l + 1) a_type (slice_of next p) in
    let none : Reader = expr 5 false (l + 1) a_length (sized_end l next p) in
    let newer = c.in_ok-accept_newer.ensures.reads a_length some none (refuses_at _ none a_length closing_bracket (λ text q. refl)) in
    then_makes c.slice.result (next (trees.slice p (type_of c.in_ok-item.item.type_expr)))
    ((c.in_ok-bracket.ensures.reads (behind_bracket l next)).by ∙ took newer c.in-Some.is ∙ (c.in_ok-item.ensures.reads (slice_of next p)).by)
    (IfOk-weaker c.slice.result _ _ (λ b h. ap next h) c.slice.ensures.expr) c.slice.ensures.err

pub bracket_type-returns-in_err-first-clause-reads : goal.bracket_type-returns-in_err-first-clause-reads
bracket_type-returns-in_err-first-clause-reads t c = λ next.
    let l = c.args.level in
    let p = c.in_ok-bracket.bracket.place in
    let some = λ (u : Lexeme). type (l + 1) a_type (slice_of next p) in
    let none : Reader = expr 5 false (l + 1) a_length (sized_end l next p) in
    let newer = c.in_ok-accept_newer.ensures.reads a_length some none (refuses_at _ none a_length closing_bracket (λ text q. refl)) in
    then_fails ((c.in_ok-bracket.ensures.reads (behind_bracket l next)).by ∙ missed newer c.in_default.is) (c.in_err-first.ensures.reads (sized_end l next p)) c.from_residual-in_err-first.ensures.1

pub bracket_type-returns-in_err-length-clause-reads : goal.bracket_type-returns-in_err-length-clause-reads
bracket_type-returns-in_err-length-clause-reads t c = λ next.
    let l = c.args.level in
    let p = c.in_ok-bracket.bracket.place in
    let e = expr_of c.in_ok-first.first.expr in
    let some = λ (u : Lexeme). type (l + 1) a_type (slice_of next p) in
    let none : Reader = expr 5 false (l + 1) a_length (sized_end l next p) in
    let newer = c.in_ok-accept_newer.ensures.reads a_length some none (refuses_at _ none a_length closing_bracket (λ text q. refl)) in
    then_fails ((c.in_ok-bracket.ensures.reads (behind_bracket l next)).by ∙ missed newer c.in_default.is ∙ (c.in_ok-first.ensures.reads (sized_end l next p)).by)
    (was_failing (c.expect-end.ensures.reads (λ _. item_of l next p e)) c.in_err-length.ensures.err) c.from_residual-in_err-length.ensures.1

pub bracket_type-returns-in_err-sized-clause-reads : goal.bracket_type-returns-in_err-sized-clause-reads
bracket_type-returns-in_err-sized-clause-reads t c = λ next.
    let l = c.args.level in
    let p = c.in_ok-bracket.bracket.place in
    let e = expr_of c.in_ok-first.first.expr in
    let some = λ (u : Lexeme). type (l + 1) a_type (slice_of next p) in
    let none : Reader = expr 5 false (l + 1) a_length (sized_end l next p) in
    let newer = c.in_ok-accept_newer.ensures.reads a_length some none (refuses_at _ none a_length closing_bracket (λ text q. refl)) in
    then_fails ((c.in_ok-bracket.ensures.reads (behind_bracket l next)).by ∙ missed newer c.in_default.is ∙ (c.in_ok-first.ensures.reads (sized_end l next p)).by
    ∙ was_read (c.expect-end.ensures.reads (λ _. item_of l next p e)) c.in_ok-length.ensures.read)
    (was_failing (c.type_at-behind.ensures.reads (λ a. next (trees.array p e a))) c.in_err-sized.ensures.err) c.from_residual-in_err-sized.ensures.1

pub bracket_type-returns-clause-reads : goal.bracket_type-returns-clause-reads
bracket_type-returns-clause-reads t c = λ next.
    let l = c.args.level in
    let p = c.in_ok-bracket.bracket.place in
    let e = expr_of c.in_ok-first.first.expr in
    let a = type_of c.in_ok-sized.item.type_expr in
    let same = ap (λ x. expr_of x.expr) (c.in_ok-sized.ensures.first ∙ c.in_ok-length.ensures.first) in
    let some = λ (u : Lexeme). type (l + 1) a_type (slice_of next p) in
    let none : Reader = expr 5 false (l + 1) a_length (sized_end l next p) in
    let newer = c.in_ok-accept_newer.ensures.reads a_length some none (refuses_at _ none a_length closing_bracket (λ text q. refl)) in
    then_makes c.array.result (next (trees.array p e a))
    ((c.in_ok-bracket.ensures.reads (behind_bracket l next)).by ∙ missed newer c.in_default.is ∙ (c.in_ok-first.ensures.reads (sized_end l next p)).by
    ∙ was_read (c.expect-end.ensures.reads (λ _. item_of l next p e)) c.in_ok-length.ensures.read
    ∙ was_read (c.type_at-behind.ensures.reads (λ b. next (trees.array p e b))) c.in_ok-sized.ensures.read)
    (IfOk-weaker c.array.result _ _ (λ b h. ap next (h ∙ ap (λ x. trees.array p x a) same)) c.array.ensures.expr) c.array.ensures.err

-- types of structs

pub struct_type-returns-in_err-expect-clause-reads : goal.struct_type-returns-in_err-expect-clause-reads
struct_type-returns-in_err-expect-clause-reads t c = λ next.
    then_fails (c.in_ok-word.ensures.reads (behind_struct c.args.level next)).by
    (c.in_err-expect.ensures.reads (open_struct c.args.level next c.in_ok-word.word.place)) c.from_residual-in_err-expect.ensures.1

pub struct_type-returns-in_err-fields-clause-reads : goal.struct_type-returns-in_err-fields-clause-reads
struct_type-returns-in_err-fields-clause-reads t c = λ next.
    let p = c.in_ok-word.word.place in
    then_fails ((c.in_ok-word.ensures.reads (behind_struct c.args.level next)).by ∙ (c.in_ok-expect.ensures.reads (open_struct c.args.level next p)).by)
    (c.in_err-fields.ensures.reads (made_struct next p)) c.from_residual-in_err-fields.ensures.1

pub struct_type-returns-clause-reads : goal.struct_type-returns-clause-reads
struct_type-returns-clause-reads t c = λ next.
    let p = c.in_ok-word.word.place in
    record {
      by = (c.in_ok-word.ensures.reads (behind_struct c.args.level next)).by ∙ (c.in_ok-expect.ensures.reads (open_struct c.args.level next p)).by
          ∙ (c.in_ok-fields.ensures.reads (made_struct next p)).by
          ∙ ap (λ a. run_parser c.fields.new.self.edition 250 (next a) (left c.fields.new.self)) (sym c.structure.ensures.expr);
    }

-- a field

pub field-returns-in_err-item-clause-reads : goal.field-returns-in_err-item-clause-reads
field-returns-in_err-item-clause-reads t c = λ next.
    then_fails (c.in_ok-names.ensures.reads (λ ns. type c.args.level a_type (next ns))).by
    (c.in_err-item.ensures.reads (next c.in_ok-names.names.items)) c.from_residual-in_err-item.ensures.1

pub field-returns-clause-reads : goal.field-returns-clause-reads
field-returns-clause-reads t c = λ next.
    record { by = (c.in_ok-names.ensures.reads (λ ns. type c.args.level a_type (next ns))).by ∙ (c.in_ok-item.ensures.reads (next c.in_ok-names.names.items)).by }

-- types

pub type_at-returns-in-Name-clause-reads : goal.type_at-returns-in-Name-clause-reads
type_at-returns-in-Name-clause-reads t c = λ next.
    let ts = left c.args.self.now in
    then_reads c.named_type.result (type_as_name c.args.self.now.edition c.args.level (expected_of c.args.expected) next ts (name_first ts (sym c.beginning.ensures ∙ c.in-Name.is))) (c.named_type.ensures.reads next)

pub type_at-returns-in-Bracket-clause-reads : goal.type_at-returns-in-Bracket-clause-reads
type_at-returns-in-Bracket-clause-reads t c = λ next.
    let ts = left c.args.self.now in
    then_reads c.bracket_type.result (type_as_array c.args.self.now.edition c.args.level (expected_of c.args.expected) next ts (bracket_first ts (sym c.beginning.ensures ∙ c.in-Bracket.is))) (c.bracket_type.ensures.reads next)

pub type_at-returns-in-Structure-clause-reads : goal.type_at-returns-in-Structure-clause-reads
type_at-returns-in-Structure-clause-reads t c = λ next.
    let ts = left c.args.self.now in
    then_reads c.struct_type.result (type_as_struct c.args.self.now.edition c.args.level (expected_of c.args.expected) next ts (structure_first ts (sym c.beginning.ensures ∙ c.in-Structure.is))) (c.struct_type.ensures.reads next)

pub type_at-returns-in_default-clause-reads : goal.type_at-returns-in_default-clause-reads
type_at-returns-in_default-clause-reads t c = λ next.
    let ts = left c.args.self.now in
    then_refuses c.wrong.result _ (type_fails c.args.self.now.edition c.args.level (expected_of c.args.expected) next ts
    (λ h. c.in_default.not-Name (c.beginning.ensures ∙ begins_as kinds.Name begins.Name ts refl h))
    (λ h. c.in_default.not-Bracket (c.beginning.ensures ∙ begins_as opening_bracket begins.Bracket ts refl h))
    (λ h. c.in_default.not-Structure (c.beginning.ensures ∙ begins_as (keyword keywords.Struct) begins.Structure ts refl h))) c.wrong.ensures
