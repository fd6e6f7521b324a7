mod Types
mod Operands
mod Suffixes
mod Arguments
mod Lists
use Rattle.go_pexpr.proofs.parser.Parser.+tree.Answers.Types as types
use Rattle.go_pexpr.proofs.parser.Parser.+tree.Answers.Operands as operands
use Rattle.go_pexpr.proofs.parser.Parser.+tree.Answers.Suffixes as suffixes
use Rattle.go_pexpr.proofs.parser.Parser.+tree.Answers.Arguments as arguments
use Rattle.go_pexpr.proofs.parser.Parser.+tree.Answers.Lists as lists
use Rattle.go_pexpr.proofs.parser.Parser.+tree.Goals as goal

-- types of arrays and slices

pub bracket_type-returns-in_err-accept_newer-clause-reads : goal.bracket_type-returns-in_err-accept_newer-clause-reads
bracket_type-returns-in_err-accept_newer-clause-reads = types.bracket_type-returns-in_err-accept_newer-clause-reads

pub bracket_type-returns-in_err-item-clause-reads : goal.bracket_type-returns-in_err-item-clause-reads
bracket_type-returns-in_err-item-clause-reads = types.bracket_type-returns-in_err-item-clause-reads

pub bracket_type-returns-in-Some-clause-reads : goal.bracket_type-returns-in-Some-clause-reads
bracket_type-returns-in-Some-clause-reads = types.bracket_type-returns-in-Some-clause-reads

pub bracket_type-returns-in_err-first-clause-reads : goal.bracket_type-returns-in_err-first-clause-reads
bracket_type-returns-in_err-first-clause-reads = types.bracket_type-returns-in_err-first-clause-reads

pub bracket_type-returns-in_err-length-clause-reads : goal.bracket_type-returns-in_err-length-clause-reads
bracket_type-returns-in_err-length-clause-reads = types.bracket_type-returns-in_err-length-clause-reads

pub bracket_type-returns-in_err-sized-clause-reads : goal.bracket_type-returns-in_err-sized-clause-reads
bracket_type-returns-in_err-sized-clause-reads = types.bracket_type-returns-in_err-sized-clause-reads

pub bracket_type-returns-clause-reads : goal.bracket_type-returns-clause-reads
bracket_type-returns-clause-reads = types.bracket_type-returns-clause-reads

-- types of structs

pub struct_type-returns-in_err-expect-clause-reads : goal.struct_type-returns-in_err-expect-clause-reads
struct_type-returns-in_err-expect-clause-reads = types.struct_type-returns-in_err-expect-clause-reads

pub struct_type-returns-in_err-fields-clause-reads : goal.struct_type-returns-in_err-fields-clause-reads
struct_type-returns-in_err-fields-clause-reads = types.struct_type-returns-in_err-fields-clause-reads

pub struct_type-returns-clause-reads : goal.struct_type-returns-clause-reads
struct_type-returns-clause-reads = types.struct_type-returns-clause-reads

-- a field

pub field-returns-in_err-item-clause-reads : goal.field-returns-in_err-item-clause-reads
field-returns-in_err-item-clause-reads = types.field-returns-in_err-item-clause-reads

pub field-returns-clause-reads : goal.field-returns-clause-reads
field-returns-clause-reads = types.field-returns-clause-reads

-- types

pub type_at-returns-in-Name-clause-reads : goal.type_at-returns-in-Name-clause-reads
type_at-returns-in-Name-clause-reads = types.type_at-returns-in-Name-clause-reads

pub type_at-returns-in-Bracket-clause-reads : goal.type_at-returns-in-Bracket-clause-reads
type_at-returns-in-Bracket-clause-reads = types.type_at-returns-in-Bracket-clause-reads

pub type_at-returns-in-Structure-clause-reads : goal.type_at-returns-in-Structure-clause-reads
type_at-returns-in-Structure-clause-reads = types.type_at-returns-in-Structure-clause-reads

pub type_at-returns-in_default-clause-reads : goal.type_at-returns-in_default-clause-reads
type_at-returns-in_default-clause-reads = types.type_at-returns-in_default-clause-reads

-- operators

pub binary-returns-in_err-front-clause-reads : goal.binary-returns-in_err-front-clause-reads
binary-returns-in_err-front-clause-reads = operands.binary-returns-in_err-front-clause-reads

pub binary-returns-clause-reads : goal.binary-returns-clause-reads
binary-returns-clause-reads = operands.binary-returns-clause-reads

pub operators-operators-init : goal.operators-operators-init
operators-operators-init = operands.operators-operators-init

pub operators-returns-in_err-front-clause-reads : goal.operators-returns-in_err-front-clause-reads
operators-returns-in_err-front-clause-reads = operands.operators-returns-in_err-front-clause-reads

pub operators-operators-preserved : goal.operators-operators-preserved
operators-operators-preserved = operands.operators-operators-preserved

pub right-returns-in_err-bump-clause-reads : goal.right-returns-in_err-bump-clause-reads
right-returns-in_err-bump-clause-reads = operands.right-returns-in_err-bump-clause-reads

pub right-returns-clause-reads : goal.right-returns-clause-reads
right-returns-clause-reads = operands.right-returns-clause-reads

pub operators-returns-clause-reads : goal.operators-returns-clause-reads
operators-returns-clause-reads = operands.operators-returns-clause-reads

-- operands

pub operand-returns-in-Name-clause-reads : goal.operand-returns-in-Name-clause-reads
operand-returns-in-Name-clause-reads = operands.operand-returns-in-Name-clause-reads

pub operand-returns-in-Integer-clause-reads : goal.operand-returns-in-Integer-clause-reads
operand-returns-in-Integer-clause-reads = operands.operand-returns-in-Integer-clause-reads

pub operand-returns-in-Rune-clause-reads : goal.operand-returns-in-Rune-clause-reads
operand-returns-in-Rune-clause-reads = operands.operand-returns-in-Rune-clause-reads

pub operand-returns-in-String-clause-reads : goal.operand-returns-in-String-clause-reads
operand-returns-in-String-clause-reads = operands.operand-returns-in-String-clause-reads

pub operand-returns-in-Parenthesis-clause-reads : goal.operand-returns-in-Parenthesis-clause-reads
operand-returns-in-Parenthesis-clause-reads = operands.operand-returns-in-Parenthesis-clause-reads

pub operand-returns-in_err-bracket-in-Bracket-clause-reads : goal.operand-returns-in_err-bracket-in-Bracket-clause-reads
operand-returns-in_err-bracket-in-Bracket-clause-reads = operands.operand-returns-in_err-bracket-in-Bracket-clause-reads

pub operand-returns-in_ok-bracket-in-Bracket-clause-reads : goal.operand-returns-in_ok-bracket-in-Bracket-clause-reads
operand-returns-in_ok-bracket-in-Bracket-clause-reads = operands.operand-returns-in_ok-bracket-in-Bracket-clause-reads

pub operand-returns-in_err-structure-in-Structure-clause-reads : goal.operand-returns-in_err-structure-in-Structure-clause-reads
operand-returns-in_err-structure-in-Structure-clause-reads = operands.operand-returns-in_err-structure-in-Structure-clause-reads

pub operand-returns-in_ok-structure-in-Structure-clause-reads : goal.operand-returns-in_ok-structure-in-Structure-clause-reads
operand-returns-in_ok-structure-in-Structure-clause-reads = operands.operand-returns-in_ok-structure-in-Structure-clause-reads

pub operand-returns-in-Other-clause-reads : goal.operand-returns-in-Other-clause-reads
operand-returns-in-Other-clause-reads = operands.operand-returns-in-Other-clause-reads

-- an expression in parentheses

pub parenthesized-returns-in_err-place-clause-reads : goal.parenthesized-returns-in_err-place-clause-reads
parenthesized-returns-in_err-place-clause-reads = operands.parenthesized-returns-in_err-place-clause-reads

pub parenthesized-returns-clause-reads : goal.parenthesized-returns-clause-reads
parenthesized-returns-clause-reads = operands.parenthesized-returns-clause-reads

-- an expression behind a mark, and between two

pub opened-returns-in_err-inner-clause-reads : goal.opened-returns-in_err-inner-clause-reads
opened-returns-in_err-inner-clause-reads = operands.opened-returns-in_err-inner-clause-reads

pub opened-returns-clause-reads : goal.opened-returns-clause-reads
opened-returns-clause-reads = operands.opened-returns-clause-reads

pub enclosed-returns-in_err-front-clause-reads : goal.enclosed-returns-in_err-front-clause-reads
enclosed-returns-in_err-front-clause-reads = operands.enclosed-returns-in_err-front-clause-reads

pub enclosed-returns-in_err-enclosed-clause-reads : goal.enclosed-returns-in_err-enclosed-clause-reads
enclosed-returns-in_err-enclosed-clause-reads = operands.enclosed-returns-in_err-enclosed-clause-reads

pub enclosed-returns-clause-reads : goal.enclosed-returns-clause-reads
enclosed-returns-clause-reads = operands.enclosed-returns-clause-reads

-- signs

pub unary-returns-in_default-clause-reads : goal.unary-returns-in_default-clause-reads
unary-returns-in_default-clause-reads = operands.unary-returns-in_default-clause-reads

pub unary-returns-in_err-token-clause-reads : goal.unary-returns-in_err-token-clause-reads
unary-returns-in_err-token-clause-reads = operands.unary-returns-in_err-token-clause-reads

pub unary-returns-in_err-operand-2-clause-reads : goal.unary-returns-in_err-operand-2-clause-reads
unary-returns-in_err-operand-2-clause-reads = operands.unary-returns-in_err-operand-2-clause-reads

pub unary-returns-clause-reads : goal.unary-returns-clause-reads
unary-returns-clause-reads = operands.unary-returns-clause-reads

-- behind a type

pub typed-returns-then-is_slice-clause-reads : goal.typed-returns-then-is_slice-clause-reads
typed-returns-then-is_slice-clause-reads = operands.typed-returns-then-is_slice-clause-reads

pub typed-returns-clause-reads : goal.typed-returns-clause-reads
typed-returns-clause-reads = operands.typed-returns-clause-reads

pub literal_or_conversion-returns-then-is_next-clause-reads : goal.literal_or_conversion-returns-then-is_next-clause-reads
literal_or_conversion-returns-then-is_next-clause-reads = operands.literal_or_conversion-returns-then-is_next-clause-reads

pub literal_or_conversion-returns-in_err-a-clause-reads : goal.literal_or_conversion-returns-in_err-a-clause-reads
literal_or_conversion-returns-in_err-a-clause-reads = operands.literal_or_conversion-returns-in_err-a-clause-reads

pub literal_or_conversion-returns-clause-reads : goal.literal_or_conversion-returns-clause-reads
literal_or_conversion-returns-clause-reads = operands.literal_or_conversion-returns-clause-reads

-- the elements of a literal

pub literal-returns-in_err-a-clause-reads : goal.literal-returns-in_err-a-clause-reads
literal-returns-in_err-a-clause-reads = operands.literal-returns-in_err-a-clause-reads

pub literal-returns-clause-reads : goal.literal-returns-clause-reads
literal-returns-clause-reads = operands.literal-returns-clause-reads

pub braced-returns-in_err-elements-clause-reads : goal.braced-returns-in_err-elements-clause-reads
braced-returns-in_err-elements-clause-reads = operands.braced-returns-in_err-elements-clause-reads

pub braced-returns-clause-reads : goal.braced-returns-clause-reads
braced-returns-clause-reads = operands.braced-returns-clause-reads

-- what is converted

pub converted-returns-in_err-inner-clause-reads : goal.converted-returns-in_err-inner-clause-reads
converted-returns-in_err-inner-clause-reads = operands.converted-returns-in_err-inner-clause-reads

pub converted-returns-in_err-value-clause-reads : goal.converted-returns-in_err-value-clause-reads
converted-returns-in_err-value-clause-reads = operands.converted-returns-in_err-value-clause-reads

pub converted-returns-clause-reads : goal.converted-returns-clause-reads
converted-returns-clause-reads = operands.converted-returns-clause-reads

-- elements of a literal of a named type

pub named_literal-literal-requires : goal.named_literal-literal-requires
named_literal-literal-requires = operands.named_literal-literal-requires

pub named_literal-returns-in-Some-clause-reads : goal.named_literal-returns-in-Some-clause-reads
named_literal-returns-in-Some-clause-reads = operands.named_literal-returns-in-Some-clause-reads

-- suffixes

pub called-returns-in_err-operand-clause-reads : goal.called-returns-in_err-operand-clause-reads
called-returns-in_err-operand-clause-reads = suffixes.called-returns-in_err-operand-clause-reads

pub called-returns-clause-reads : goal.called-returns-clause-reads
called-returns-clause-reads = suffixes.called-returns-clause-reads

pub passed-returns-clause-reads : goal.passed-returns-clause-reads
passed-returns-clause-reads = suffixes.passed-returns-clause-reads

pub indexed-returns-in_err-operand-clause-reads : goal.indexed-returns-in_err-operand-clause-reads
indexed-returns-in_err-operand-clause-reads = suffixes.indexed-returns-in_err-operand-clause-reads

pub indexed-returns-in-At-clause-reads : goal.indexed-returns-in-At-clause-reads
indexed-returns-in-At-clause-reads = suffixes.indexed-returns-in-At-clause-reads

pub indexed-returns-in-Part-clause-reads : goal.indexed-returns-in-Part-clause-reads
indexed-returns-in-Part-clause-reads = suffixes.indexed-returns-in-Part-clause-reads

pub indexed-returns-in-At-clause-fits : goal.indexed-returns-in-At-clause-fits
indexed-returns-in-At-clause-fits = suffixes.indexed-returns-in-At-clause-fits

pub indexed-returns-in-Part-clause-fits : goal.indexed-returns-in-Part-clause-fits
indexed-returns-in-Part-clause-fits = suffixes.indexed-returns-in-Part-clause-fits

-- what is in brackets

pub in_brackets-returns-in_err-accept_newer-clause-reads : goal.in_brackets-returns-in_err-accept_newer-clause-reads
in_brackets-returns-in_err-accept_newer-clause-reads = suffixes.in_brackets-returns-in_err-accept_newer-clause-reads

pub in_brackets-returns-in_err-high-clause-reads : goal.in_brackets-returns-in_err-high-clause-reads
in_brackets-returns-in_err-high-clause-reads = suffixes.in_brackets-returns-in_err-high-clause-reads

pub in_brackets-returns-in-Some-clause-reads : goal.in_brackets-returns-in-Some-clause-reads
in_brackets-returns-in-Some-clause-reads = suffixes.in_brackets-returns-in-Some-clause-reads

pub in_brackets-returns-in_err-first-clause-reads : goal.in_brackets-returns-in_err-first-clause-reads
in_brackets-returns-in_err-first-clause-reads = suffixes.in_brackets-returns-in_err-first-clause-reads

pub in_brackets-returns-clause-reads : goal.in_brackets-returns-clause-reads
in_brackets-returns-clause-reads = suffixes.in_brackets-returns-clause-reads

pub index_end-returns-in_err-one-clause-reads : goal.index_end-returns-in_err-one-clause-reads
index_end-returns-in_err-one-clause-reads = suffixes.index_end-returns-in_err-one-clause-reads

pub index_end-returns-in_err-low-clause-reads : goal.index_end-returns-in_err-low-clause-reads
index_end-returns-in_err-low-clause-reads = suffixes.index_end-returns-in_err-low-clause-reads

pub index_end-returns-in-Some-clause-reads : goal.index_end-returns-in-Some-clause-reads
index_end-returns-in-Some-clause-reads = suffixes.index_end-returns-in-Some-clause-reads

pub index_end-returns-in_err-at-clause-reads : goal.index_end-returns-in_err-at-clause-reads
index_end-returns-in_err-at-clause-reads = suffixes.index_end-returns-in_err-at-clause-reads

pub index_end-returns-clause-reads : goal.index_end-returns-clause-reads
index_end-returns-clause-reads = suffixes.index_end-returns-clause-reads

pub high-returns-in_err-accept-clause-reads : goal.high-returns-in_err-accept-clause-reads
high-returns-in_err-accept-clause-reads = suffixes.high-returns-in_err-accept-clause-reads

pub high-returns-in-Some-clause-reads : goal.high-returns-in-Some-clause-reads
high-returns-in-Some-clause-reads = suffixes.high-returns-in-Some-clause-reads

pub high-returns-in_err-first-clause-reads : goal.high-returns-in_err-first-clause-reads
high-returns-in_err-first-clause-reads = suffixes.high-returns-in_err-first-clause-reads

pub high-returns-in_err-at-clause-reads : goal.high-returns-in_err-at-clause-reads
high-returns-in_err-at-clause-reads = suffixes.high-returns-in_err-at-clause-reads

pub high-returns-clause-reads : goal.high-returns-clause-reads
high-returns-clause-reads = suffixes.high-returns-clause-reads

-- behind a type that it begins with

pub behind-returns-in_err-operand-clause-reads : goal.behind-returns-in_err-operand-clause-reads
behind-returns-in_err-operand-clause-reads = suffixes.behind-returns-in_err-operand-clause-reads

pub behind-returns-clause-reads : goal.behind-returns-clause-reads
behind-returns-clause-reads = suffixes.behind-returns-clause-reads

pub suffixes-returns-in_err-front-in-Selector-clause-reads : goal.suffixes-returns-in_err-front-in-Selector-clause-reads
suffixes-returns-in_err-front-in-Selector-clause-reads = suffixes.suffixes-returns-in_err-front-in-Selector-clause-reads

pub suffixes-suffixes-preserved-in_ok-front-in-Selector : goal.suffixes-suffixes-preserved-in_ok-front-in-Selector
suffixes-suffixes-preserved-in_ok-front-in-Selector = suffixes.suffixes-suffixes-preserved-in_ok-front-in-Selector

pub suffixes-returns-in_err-front-in-Index-clause-reads : goal.suffixes-returns-in_err-front-in-Index-clause-reads
suffixes-returns-in_err-front-in-Index-clause-reads = suffixes.suffixes-returns-in_err-front-in-Index-clause-reads

pub suffixes-suffixes-preserved-in_ok-front-in-Index : goal.suffixes-suffixes-preserved-in_ok-front-in-Index
suffixes-suffixes-preserved-in_ok-front-in-Index = suffixes.suffixes-suffixes-preserved-in_ok-front-in-Index

pub suffixes-returns-in_err-front-in-Call-clause-reads : goal.suffixes-returns-in_err-front-in-Call-clause-reads
suffixes-returns-in_err-front-in-Call-clause-reads = suffixes.suffixes-returns-in_err-front-in-Call-clause-reads

pub suffixes-suffixes-preserved-in_ok-front-in-Call : goal.suffixes-suffixes-preserved-in_ok-front-in-Call
suffixes-suffixes-preserved-in_ok-front-in-Call = suffixes.suffixes-suffixes-preserved-in_ok-front-in-Call

pub suffixes-returns-in_err-front-in-CompositeLit-clause-reads : goal.suffixes-returns-in_err-front-in-CompositeLit-clause-reads
suffixes-returns-in_err-front-in-CompositeLit-clause-reads = suffixes.suffixes-returns-in_err-front-in-CompositeLit-clause-reads

pub suffixes-suffixes-preserved : goal.suffixes-suffixes-preserved
suffixes-suffixes-preserved = suffixes.suffixes-suffixes-preserved

pub suffixes-returns-clause-reads : goal.suffixes-returns-clause-reads
suffixes-returns-clause-reads = suffixes.suffixes-returns-clause-reads

-- the operands of a call

pub operands-returns-in_err-expect-clause-reads : goal.operands-returns-in_err-expect-clause-reads
operands-returns-in_err-expect-clause-reads = arguments.operands-returns-in_err-expect-clause-reads

pub operands-returns-then-is_next-clause-reads : goal.operands-returns-then-is_next-clause-reads
operands-returns-then-is_next-clause-reads = arguments.operands-returns-then-is_next-clause-reads

pub operands-returns-in_err-first-clause-reads : goal.operands-returns-in_err-first-clause-reads
operands-returns-in_err-first-clause-reads = arguments.operands-returns-in_err-first-clause-reads

pub operands-returns-in_err-operand-clause-reads : goal.operands-returns-in_err-operand-clause-reads
operands-returns-in_err-operand-clause-reads = arguments.operands-returns-in_err-operand-clause-reads

pub operands-returns-clause-reads : goal.operands-returns-clause-reads
operands-returns-clause-reads = arguments.operands-returns-clause-reads

-- the first of them

pub first_operand-returns-then-not-has_slices-clause-reads : goal.first_operand-returns-then-not-has_slices-clause-reads
first_operand-returns-then-not-has_slices-clause-reads = arguments.first_operand-returns-then-not-has_slices-clause-reads

pub first_operand-returns-clause-reads : goal.first_operand-returns-clause-reads
first_operand-returns-clause-reads = arguments.first_operand-returns-clause-reads

pub type_or_operand-returns-in_err-bracket-in-Bracket-clause-reads : goal.type_or_operand-returns-in_err-bracket-in-Bracket-clause-reads
type_or_operand-returns-in_err-bracket-in-Bracket-clause-reads = arguments.type_or_operand-returns-in_err-bracket-in-Bracket-clause-reads

pub type_or_operand-returns-in_ok-bracket-in-Bracket-clause-reads : goal.type_or_operand-returns-in_ok-bracket-in-Bracket-clause-reads
type_or_operand-returns-in_ok-bracket-in-Bracket-clause-reads = arguments.type_or_operand-returns-in_ok-bracket-in-Bracket-clause-reads

pub type_or_operand-returns-in_err-structure-in-Structure-clause-reads : goal.type_or_operand-returns-in_err-structure-in-Structure-clause-reads
type_or_operand-returns-in_err-structure-in-Structure-clause-reads = arguments.type_or_operand-returns-in_err-structure-in-Structure-clause-reads

pub type_or_operand-returns-in_ok-structure-in-Structure-clause-reads : goal.type_or_operand-returns-in_ok-structure-in-Structure-clause-reads
type_or_operand-returns-in_ok-structure-in-Structure-clause-reads = arguments.type_or_operand-returns-in_ok-structure-in-Structure-clause-reads

pub type_or_operand-returns-in_default-clause-reads : goal.type_or_operand-returns-in_default-clause-reads
type_or_operand-returns-in_default-clause-reads = arguments.type_or_operand-returns-in_default-clause-reads

-- behind a type that it begins with

pub operand_of_type-returns-then-is_next-clause-reads : goal.operand_of_type-returns-then-is_next-clause-reads
operand_of_type-returns-then-is_next-clause-reads = arguments.operand_of_type-returns-then-is_next-clause-reads

pub operand_of_type-returns-then-is_slice-clause-reads : goal.operand_of_type-returns-then-is_slice-clause-reads
operand_of_type-returns-then-is_slice-clause-reads = arguments.operand_of_type-returns-then-is_slice-clause-reads

pub operand_of_type-returns-clause-reads : goal.operand_of_type-returns-clause-reads
operand_of_type-returns-clause-reads = arguments.operand_of_type-returns-clause-reads

pub literal_operand-returns-in_err-of-clause-reads : goal.literal_operand-returns-in_err-of-clause-reads
literal_operand-returns-in_err-of-clause-reads = arguments.literal_operand-returns-in_err-of-clause-reads

pub literal_operand-returns-clause-reads : goal.literal_operand-returns-clause-reads
literal_operand-returns-clause-reads = arguments.literal_operand-returns-clause-reads

pub converted_operand-returns-then-not-is_next-clause-reads : goal.converted_operand-returns-then-not-is_next-clause-reads
converted_operand-returns-then-not-is_next-clause-reads = arguments.converted_operand-returns-then-not-is_next-clause-reads

pub converted_operand-returns-in_err-to-clause-reads : goal.converted_operand-returns-in_err-to-clause-reads
converted_operand-returns-in_err-to-clause-reads = arguments.converted_operand-returns-in_err-to-clause-reads

pub converted_operand-returns-clause-reads : goal.converted_operand-returns-clause-reads
converted_operand-returns-clause-reads = arguments.converted_operand-returns-clause-reads

-- fields

pub fields-returns-in_err-names-clause-reads : goal.fields-returns-in_err-names-clause-reads
fields-returns-in_err-names-clause-reads = lists.fields-returns-in_err-names-clause-reads

pub fields-returns-in_err-separate-clause-reads : goal.fields-returns-in_err-separate-clause-reads
fields-returns-in_err-separate-clause-reads = lists.fields-returns-in_err-separate-clause-reads

pub fields-fields-preserved : goal.fields-fields-preserved
fields-fields-preserved = lists.fields-fields-preserved

pub fields-returns-in_err-expect-clause-reads : goal.fields-returns-in_err-expect-clause-reads
fields-returns-in_err-expect-clause-reads = lists.fields-returns-in_err-expect-clause-reads

pub fields-returns-clause-reads : goal.fields-returns-clause-reads
fields-returns-clause-reads = lists.fields-returns-clause-reads

-- arguments

pub arguments-returns-in_err-item-clause-reads : goal.arguments-returns-in_err-item-clause-reads
arguments-returns-in_err-item-clause-reads = lists.arguments-returns-in_err-item-clause-reads

pub arguments-returns-in_err-separate-clause-reads : goal.arguments-returns-in_err-separate-clause-reads
arguments-returns-in_err-separate-clause-reads = lists.arguments-returns-in_err-separate-clause-reads

pub arguments-arguments-init : goal.arguments-arguments-init
arguments-arguments-init = lists.arguments-arguments-init

pub arguments-arguments-preserved : goal.arguments-arguments-preserved
arguments-arguments-preserved = lists.arguments-arguments-preserved

pub arguments-returns-in_err-expect-clause-reads : goal.arguments-returns-in_err-expect-clause-reads
arguments-returns-in_err-expect-clause-reads = lists.arguments-returns-in_err-expect-clause-reads

pub arguments-returns-clause-reads : goal.arguments-returns-clause-reads
arguments-returns-clause-reads = lists.arguments-returns-clause-reads

-- elements of a literal

pub elements-returns-in_err-item-clause-reads : goal.elements-returns-in_err-item-clause-reads
elements-returns-in_err-item-clause-reads = lists.elements-returns-in_err-item-clause-reads

pub elements-returns-in_err-separate-clause-reads : goal.elements-returns-in_err-separate-clause-reads
elements-returns-in_err-separate-clause-reads = lists.elements-returns-in_err-separate-clause-reads

pub elements-elements-preserved : goal.elements-elements-preserved
elements-elements-preserved = lists.elements-elements-preserved

pub elements-returns-in_err-expect-clause-reads : goal.elements-returns-in_err-expect-clause-reads
elements-returns-in_err-expect-clause-reads = lists.elements-returns-in_err-expect-clause-reads

pub elements-returns-clause-reads : goal.elements-returns-clause-reads
elements-returns-clause-reads = lists.elements-returns-clause-reads

-- an element

pub element-returns-then-not-is_next-clause-reads : goal.element-returns-then-not-is_next-clause-reads
element-returns-then-not-is_next-clause-reads = lists.element-returns-then-not-is_next-clause-reads

pub element-returns-in_err-key-in-Ok-clause-reads : goal.element-returns-in_err-key-in-Ok-clause-reads
element-returns-in_err-key-in-Ok-clause-reads = lists.element-returns-in_err-key-in-Ok-clause-reads

pub element-returns-in_ok-key-in-Ok-clause-reads : goal.element-returns-in_ok-key-in-Ok-clause-reads
element-returns-in_ok-key-in-Ok-clause-reads = lists.element-returns-in_ok-key-in-Ok-clause-reads

-- the value behind a key

pub keyed-returns-clause-reads : goal.keyed-returns-clause-reads
keyed-returns-clause-reads = lists.keyed-returns-clause-reads

-- the value of an element

pub value-returns-in_err-place-clause-reads : goal.value-returns-in_err-place-clause-reads
value-returns-in_err-place-clause-reads = lists.value-returns-in_err-place-clause-reads

pub value-returns-then-is_next-clause-reads : goal.value-returns-then-is_next-clause-reads
value-returns-then-is_next-clause-reads = lists.value-returns-then-is_next-clause-reads

pub value-returns-in_err-expr-clause-reads : goal.value-returns-in_err-expr-clause-reads
value-returns-in_err-expr-clause-reads = lists.value-returns-in_err-expr-clause-reads

pub value-returns-clause-reads : goal.value-returns-clause-reads
value-returns-clause-reads = lists.value-returns-clause-reads
