-- A device of the proofs, and nothing that a reader has to trust: the grammar as a machine that takes one token after
-- another. What it takes the grammar derives, and the other way round, as the lemmas show. The contracts of the parser's
-- inner functions speak of it, and that of `parse` doesn't.
use Rattle.std.specs.Prelude.{ℕ, zero, suc, ◌+◌, nat_le, nat_eq, Bool, true, false, ◌&&◌, ◌||◌, not, List, [], ◌∷◌, ◌++◌, Option, Some, None, codes}
use Rattle.std.specs.Str.{bytes_eq}
use Rattle.go_text.specs.declared.edition.Edition.{Edition}
use Rattle.go_text.specs.declared.place.Place.{Place}
use Rattle.go_text.specs.Editions.{has_slices}
use Rattle.go_scan.specs.declared.token.TokenKind.{TokenKind}
use Rattle.go_scan.specs.declared.token.TokenKind.TheVariants as kinds
use Rattle.go_scan.specs.declared.keyword.Keyword.{Keyword}
use Rattle.go_scan.specs.declared.keyword.Keyword.TheVariants as keywords
use Rattle.go_scan.specs.declared.punctuation.Punctuation.TheVariants as marks
use Rattle.go_ast.specs.Kinds.{same}
use Rattle.go_ast.specs.Literals.{string_value, rune_value}
use Rattle.go_ast.specs.Operators.{unary_of, binary_of, assignment_of, tighter}
use Rattle.go_ast.specs.Expected.{Expected, an_operand, a_value, a_type, a_declared_type, a_parameter_type, a_length, an_index, an_index_end, a_selected_name, an_element_end, a_field_end, a_result_end, a_statement, behind_a_name, behind_a_jump, a_function_name, a_function_opening, an_import, an_import_path, another, is_left_out_at, fault_at}
use Rattle.go_ast.specs.Trees.{Name, UnaryOperator, BinaryOperator, TypeExpr, named, qualified, array, slice, struct, Expression, name, integer, rune, string, parenthesized, composite_lit, conversion, selector, index, cut, Bound, no_bound, bound, call, type_operand, unary, binary, ExpressionList, no_exprs, Element, expression_element, value_element, Simple, call_statement, increment, decrement, assignment, operator_assignment, short_var_decl, ConstSpec, VarSpec, TypeSpec, Decl, constants, variables, types, Statement, empty, declaration, simple, return, break, continue, fallthrough, block_statement, if_statement, for_statement, range_statement, switch_statement, Block, block, If, conditional, Else, no_else, else_block, else_if, Cases, no_clauses, clause, Parameter, FunctionDecl, TopLevel, declared, function, ImportSpec, File, place_of, pack, pack_elements, pack_fields, pack_statements}
use Rattle.go_ast.specs.Heights.{height, type_height}
use Rattle.go_ast.specs.Grammar.{Lexeme, name_of, assign, opening, closing, opening_bracket, closing_bracket, opening_brace, closing_brace, comma, period, semicolon, colon, define, is_call, simple_place, type_place, concat}

-- lists whose items have a separator between them: for which list, at which level its items stand
pub data ListKind : Type 0 where
  fields : ℕ → ListKind
  arguments : ℕ → ListKind
  elements : ℕ → ListKind
  const_specs : ℕ → ListKind
  var_specs : ℕ → ListKind
  type_specs : ℕ → ListKind
  import_specs : ListKind
  statements : ℕ → ListKind
  parameters : ListKind
  results : ListKind

abbrev pub Item : ListKind → Type 0
Item (fields l) = List Name × TypeExpr
Item (arguments l) = Expression
Item (elements l) = Option Name × Element
Item (const_specs l) = ConstSpec
Item (var_specs l) = VarSpec
Item (type_specs l) = TypeSpec
Item import_specs = ImportSpec
Item (statements l) = Statement
Item parameters = Parameter
Item results = TypeExpr

abbrev pub separator : ListKind → TokenKind
separator (fields l) = semicolon
separator (arguments l) = comma
separator (elements l) = comma
separator (const_specs l) = semicolon
separator (var_specs l) = semicolon
separator (type_specs l) = semicolon
separator import_specs = semicolon
separator (statements l) = semicolon
separator parameters = comma
separator results = comma

abbrev pub closer : ListKind → TokenKind
closer (fields l) = closing_brace
closer (arguments l) = closing
closer (elements l) = closing_brace
closer (const_specs l) = closing
closer (var_specs l) = closing
closer (type_specs l) = closing
closer import_specs = closing
closer (statements l) = closing_brace
closer parameters = closing
closer results = closing

-- where left sides stand: as a statement of a list, behind `if` or `switch`, behind `for`, or behind the second semicolon
-- of a `for`
pub data Position : Type 0 where
  in_list : Position
  in_header : Position
  in_for : Position
  behind_turns : Position

-- a clause: its place, its values and its statements
abbrev pub Clause : Type 0
Clause = Place × (Option ExpressionList × List Statement)

abbrev pub pack_cases : List Clause → Cases
pack_cases [] = no_clauses
pack_cases (c ∷ cs) = clause c.0 c.1.0 (pack_statements c.1.1) (pack_cases cs)

-- What is due behind the tokens taken so far; `next` is what is due behind that, by what it makes. A level is that of the
-- node that begins, and `need` the level of the deepest node that a token brings.
pub data Reader : Type 0 where
  -- the end of the file
  ended : File → Reader
  -- a token of a kind
  token : (kind : TokenKind) (need : ℕ) (x : Expected) (next : Lexeme → Reader) → Reader
  package_name : (next : Lexeme → Reader) → Reader
  import_path : (x : Expected) (next : Lexeme → Reader) → Reader
  -- a token of a kind, or else something other
  optional : (kind : TokenKind) (need : ℕ) (some : Lexeme → Reader) (none : Reader) → Reader
  -- a token of a kind that came with slices, which may not come before, or else something other
  newer : (kind : TokenKind) (need : ℕ) (x : Expected) (some : Lexeme → Reader) (none : Reader) → Reader
  -- a type, which may be missing
  type : (l : ℕ) (x : Expected) (next : TypeExpr → Reader) → Reader
  optional_type : (l : ℕ) (x : Expected) (some : TypeExpr → Reader) (none : Reader) → Reader
  -- an expression of operators of n levels, which may be missing; what may be behind one
  expr : (n : ℕ) (h : Bool) (l : ℕ) (x : Expected) (next : Expression → Reader) → Reader
  optional_expr : (h : Bool) (l : ℕ) (x : Expected) (some : Expression → Reader) (none : Reader) → Reader
  suffixes : (h : Bool) (l : ℕ) (left : Expression) (next : Expression → Reader) → Reader
  operators : (n : ℕ) (h : Bool) (l : ℕ) (left : Expression) (next : Expression → Reader) → Reader
  -- more names or expressions behind these
  more_names : (front : List Name) (next : List Name → Reader) → Reader
  more_exprs : (h : Bool) (l : ℕ) (front : List Expression) (next : List Expression → Reader) → Reader
  -- an item of a list behind these, or the list's end; what is behind an item, the last of these
  list_start : (k : ListKind) (front : List (Item k)) (next : List (Item k) → Lexeme → Reader) → Reader
  list_end : (k : ListKind) (x : Expected) (front : List (Item k)) (next : List (Item k) → Lexeme → Reader) → Reader
  -- a call's operands
  operands : (l : ℕ) (next : List Expression → Lexeme → Reader) → Reader
  -- what is behind these left sides: of a statement, of an expression alone, and of `name := range`
  lefts : (m : Position) (h : Bool) (l : ℕ) (front : List Expression) (next : Simple → Reader) (alone : Expression → Reader) (range : Name → Expression → Reader) → Reader
  -- what is behind an `if`'s first block, in front of the rest
  else_part : (l : ℕ) (p : Place) (init : Option Simple) (condition : Expression) (body : Block) (next : If → Reader) → Reader
  -- a statement of a clause behind these, or the clause's end, and what is behind a statement; the clauses in front of it
  clause_start : (l : ℕ) (done : List Clause) (p : Place) (values : Option ExpressionList) (front : List Statement) (next : Cases → Lexeme → Reader) → Reader
  clause_end : (l : ℕ) (x : Expected) (done : List Clause) (p : Place) (values : Option ExpressionList) (front : List Statement) (next : Cases → Lexeme → Reader) → Reader
  -- what is behind an import or a declaration
  import_end : (p : Name) (iss : List (List ImportSpec)) → Reader
  decl_end : (p : Name) (is : List ImportSpec) (ds : List TopLevel) → Reader

-- what a token does: it is taken, and brings nodes down to a level; or it may not come where this is expected
pub data Move : Type 0 where
  Take : (need : ℕ) → Reader → Move
  Fail : Expected → Move

abbrev pub cond : Bool → Move → Move → Move
cond true m n = m
cond false m n = n

-- a token of a kind, at which a node begins
abbrev pub on_token : TokenKind → ℕ → Expected → (Lexeme → Reader) → Lexeme → Move
on_token kind need x next t = cond (same kind t.kind) (Take need (next t)) (Fail x)

abbrev pub keyword : Keyword → TokenKind
keyword k = kinds.Keyword k

abbrev pub names : ℕ → (List Name → Reader) → Reader
names need next = token kinds.Name need another (λ t. more_names (name_of t ∷ []) next)

-- types

abbrev pub behind_name : (TypeExpr → Reader) → Lexeme → Reader
behind_name next t =
    optional period 0 (λ _. token kinds.Name 0 a_selected_name (λ s. next (qualified t.place (name_of t) (name_of s)))) (next (named t.place (name_of t)))

abbrev pub behind_bracket : ℕ → (TypeExpr → Reader) → Lexeme → Reader
behind_bracket l next t =
    newer closing_bracket 0 a_length (λ _. type (l + 1) a_type (λ a. next (slice t.place a)))
    (expr 5 false (l + 1) a_length (λ e. token closing_bracket 0 another (λ _. type (l + 1) a_type (λ a. next (array t.place e a)))))

abbrev pub behind_struct : ℕ → (TypeExpr → Reader) → Lexeme → Reader
behind_struct l next t =
    token opening_brace 0 another (λ _. list_start (fields (l + 1)) [] (λ fs _. next (struct t.place (pack_fields fs))))

abbrev pub on_type : ℕ → Expected → (TypeExpr → Reader) → Lexeme → Move
on_type l x next t =
    cond (same kinds.Name t.kind) (Take l (behind_name next t))
    (cond (same opening_bracket t.kind) (Take (l + 1) (behind_bracket l next t))
    (cond (same (keyword keywords.Struct) t.kind) (Take l (behind_struct l next t)) (Fail x)))

abbrev pub begins_type : TokenKind → Bool
begins_type k = same kinds.Name k || same opening_bracket k || same (keyword keywords.Struct) k

-- expressions

-- the operators that may follow, the tightest first
abbrev pub tails : ℕ → Bool → ℕ → (Expression → Reader) → Expression → Reader
tails zero h l next e = next e
tails (suc n) h l next e = tails n h l (λ a. operators n h l a next) e

-- what is behind an operand
abbrev pub behind_operand : ℕ → Bool → ℕ → (Expression → Reader) → Expression → Reader
behind_operand n h l next e = suffixes h l e (tails n h l next)

abbrev pub behind_opening : ℕ → Bool → ℕ → (Expression → Reader) → Lexeme → Reader
behind_opening n h l next t =
    expr 5 false (l + 1) an_operand (λ e. token closing 0 another (λ _. behind_operand n h l next (parenthesized t.place e)))

-- the elements of a literal of a type, and what is converted to one
abbrev pub literal_elements : ℕ → (Expression → Reader) → TypeExpr → Lexeme → Reader
literal_elements l next a o = list_start (elements (l + 2)) [] (λ es _. next (composite_lit (type_place a) a o.place (pack_elements es)))

abbrev pub converted_operand : ℕ → (Expression → Reader) → TypeExpr → Lexeme → Reader
converted_operand l next a o =
    expr 5 false (l + 1) an_operand (λ e.
    optional comma 0 (λ _. token closing 0 another (λ _. next (conversion (type_place a) a e)))
    (token closing 0 another (λ _. next (conversion (type_place a) a e))))

-- behind an array, slice or struct type that begins an operand: its elements, or but for a slice what is converted to it
abbrev pub behind_literal_type : ℕ → (Expression → Reader) → TypeExpr → Reader
behind_literal_type l next (slice p a) = token opening_brace (l + 1) another (literal_elements l next (slice p a))
behind_literal_type l next a =
    optional opening_brace (l + 1) (literal_elements l next a) (token opening (l + 1) another (converted_operand l next a))

abbrev pub on_unary : ℕ → Bool → ℕ → (Expression → Reader) → Lexeme → Move → Option UnaryOperator → Move
on_unary n h l next t other None = other
on_unary n h l next t other (Some op) = Take (l + 1) (expr 0 h (l + 1) an_operand (λ e. tails n h l next (unary t.place op e)))

abbrev pub on_expr : ℕ → Bool → ℕ → Expected → (Expression → Reader) → Lexeme → Move
on_expr n h l x next t =
    cond (same kinds.Name t.kind) (Take l (behind_operand n h l next (name t.place t.text)))
    (cond (same kinds.Integer t.kind) (Take l (behind_operand n h l next (integer t.place t.text)))
    (cond (same kinds.Rune t.kind) (Take l (behind_operand n h l next (rune t.place (rune_value t.text))))
    (cond (same kinds.String t.kind) (Take l (behind_operand n h l next (string t.place (string_value t.text))))
    (cond (same opening t.kind) (Take (l + 1) (behind_opening n h l next t))
    (cond (same opening_bracket t.kind) (Take (l + 2) (behind_bracket (l + 1) (behind_literal_type l (behind_operand n h l next)) t))
    (cond (same (keyword keywords.Struct) t.kind) (Take (l + 1) (behind_struct (l + 1) (behind_literal_type l (behind_operand n h l next)) t))
    (on_unary n h l next t (Fail x) (unary_of t.kind))))))))

abbrev pub is_some : {A : Type 0} → Option A → Bool
is_some None = false
is_some (Some a) = true

abbrev pub begins_expr : TokenKind → Bool
begins_expr k =
    same kinds.Name k || same kinds.Integer k || same kinds.Rune k || same kinds.String k || same opening k || same opening_bracket k
    || same (keyword keywords.Struct) k || is_some (unary_of k)

-- the type that an expression may be, if a brace follows it
abbrev pub literal_type : Expression → Option TypeExpr
literal_type (name p text) = Some (named p (record { text = text; place = p }))
literal_type (selector p (name q text) f) = Some (qualified p (record { text = text; place = q }) f)
literal_type _ = None

abbrev pub on_brace : Bool → ℕ → (Expression → Reader) → Lexeme → Move → Option TypeExpr → Move
on_brace false l behind t other (Some a) =
    cond (same opening_brace t.kind) (Take (l + 1) (list_start (elements (l + 2)) []
    (λ es _. behind (composite_lit (type_place a) a t.place (pack_elements es))))) other
on_brace h l behind t other a = other

-- behind the colon of a part of an operand
abbrev pub behind_colon : ℕ → Expression → Bound → (Expression → Reader) → Reader
behind_colon l e low behind =
    optional closing_bracket 0 (λ _. behind (cut (place_of e) e low no_bound))
    (expr 5 false (l + 1) an_index (λ j. token closing_bracket 0 an_index_end (λ _. behind (cut (place_of e) e low (bound j)))))

abbrev pub behind_index : ℕ → Expression → (Expression → Reader) → Reader
behind_index l e behind =
    newer colon 0 an_index (λ _. behind_colon l e no_bound behind)
    (expr 5 false (l + 1) an_index (λ i.
    newer colon 0 an_index_end (λ _. behind_colon l e (bound i) behind) (token closing_bracket 0 an_index_end (λ _. behind (index (place_of e) e i)))))

abbrev pub on_suffix : Bool → ℕ → Expression → (Expression → Reader) → Lexeme → Move → Move
on_suffix h l e behind t other =
    cond (same period t.kind) (Take (l + height e) (token kinds.Name 0 a_selected_name (λ s. behind (selector (place_of e) e (name_of s)))))
    (cond (same opening_bracket t.kind)
    (Take (l + height e) (behind_index l e behind))
    (cond (same opening t.kind) (Take (l + height e) (operands (l + 1) (λ es _. behind (call (place_of e) e (pack es)))))
    (on_brace h l behind t other (literal_type e))))

abbrev pub on_operator : ℕ → Bool → ℕ → Expression → (Expression → Reader) → Move → Option BinaryOperator → Move
on_operator n h l e behind other None = other
on_operator n h l e behind other (Some op) =
    cond (nat_eq (tighter op) n) (Take (l + height e) (expr n h (l + 1) an_operand (λ r. behind (binary (place_of e) op e r)))) other

-- elements of a literal

-- behind an element without a key: one that is a name may be the key
abbrev pub behind_element : ℕ → List (Option Name × Element) → (List (Option Name × Element) → Lexeme → Reader) → Expression → Reader
behind_element l front next (name p text) =
    let other : Reader = list_end (elements l) another (front ++ (None, expression_element (name p text)) ∷ []) next in
    let key : Option Name = Some (record { text = text; place = p }) in
    optional colon 0 (λ _.
    optional opening_brace l (λ o. list_start (elements (l + 1)) []
    (λ es _. list_end (elements l) an_element_end (front ++ (key, value_element o.place (pack_elements es)) ∷ []) next))
    (expr 5 false l an_operand (λ e. list_end (elements l) an_element_end (front ++ (key, expression_element e) ∷ []) next)))
    other
behind_element l front next e = list_end (elements l) an_element_end (front ++ (None, expression_element e) ∷ []) next

abbrev pub on_element : ℕ → List (Option Name × Element) → (List (Option Name × Element) → Lexeme → Reader) → Lexeme → Move
on_element l front next t =
    cond (same opening_brace t.kind)
    (Take l (list_start (elements (l + 1)) [] (λ es _. list_end (elements l) an_element_end
    (front ++ (None, value_element t.place (pack_elements es)) ∷ []) next)))
    (on_expr 5 false l an_operand (behind_element l front next) t)

-- declarations

abbrev pub value_list : ℕ → (ExpressionList → Reader) → Reader
value_list l next = expr 5 false l a_value (λ e. more_exprs false l (e ∷ []) (λ es. next (pack es)))

abbrev pub const_rest : ℕ → (ConstSpec → Reader) → List Name → Reader
const_rest l next ns =
    optional_type l a_type (λ a. token assign 0 another (λ _. value_list l (λ es. next (record { names = ns; type = Some a; values = es }))))
    (optional assign l (λ _. value_list l (λ es. next (record { names = ns; type = None; values = es })))
    (next (record { names = ns; type = None; values = no_exprs })))

abbrev pub var_rest : ℕ → (VarSpec → Reader) → List Name → Reader
var_rest l next ns =
    optional_type l a_type (λ a.
    optional assign 0 (λ _. value_list l (λ es. next (record { names = ns; type = Some a; values = es })))
    (next (record { names = ns; type = Some a; values = no_exprs })))
    (token assign 0 another (λ _. value_list l (λ es. next (record { names = ns; type = None; values = es }))))

abbrev pub type_rest : ℕ → (TypeSpec → Reader) → Lexeme → Reader
type_rest l next t = type l a_declared_type (λ a. next (record { name = name_of t; type = a }))

abbrev pub group : (k : ListKind) → (List (Item k) → Reader) → ((Item k → Reader) → Reader) → Reader
group k next single = optional opening 0 (λ _. list_start k [] (λ ss _. next ss)) (single (λ s. next (s ∷ [])))

abbrev pub behind_const : ℕ → (Decl → Reader) → Lexeme → Reader
behind_const l next t = group (const_specs l) (λ ss. next (constants t.place ss)) (λ one. names 0 (const_rest l one))

abbrev pub behind_var : ℕ → (Decl → Reader) → Lexeme → Reader
behind_var l next t = group (var_specs l) (λ ss. next (variables t.place ss)) (λ one. names l (var_rest l one))

abbrev pub behind_type : ℕ → (Decl → Reader) → Lexeme → Reader
behind_type l next t = group (type_specs l) (λ ss. next (types t.place ss)) (λ one. token kinds.Name l another (type_rest l one))

-- simple statements

-- the names that some expressions are, if all are names
abbrev pub name_if : Expression → Option Name
name_if (name p text) = Some (record { text = text; place = p })
name_if _ = None

abbrev pub push_name : Option Name → Option (List Name) → Option (List Name)
push_name (Some n) (Some ns) = Some (n ∷ ns)
push_name _ _ = None

abbrev pub names_if : List Expression → Option (List Name)
names_if [] = Some []
names_if (e ∷ es) = push_name (name_if e) (names_if es)

abbrev pub may_define : Position → Bool
may_define behind_turns = false
may_define _ = true

abbrev pub is_header : Position → Bool
is_header in_header = true
is_header in_for = true
is_header _ = false

abbrev pub short_var_decl_values : Bool → ℕ → List Name → (Simple → Reader) → Reader
short_var_decl_values h l ns next = expr 5 h l an_operand (λ e. more_exprs h l (e ∷ []) (λ es. next (short_var_decl ns (pack es))))

-- behind `:=`
abbrev pub behind_define : Position → Bool → ℕ → List Name → (Simple → Reader) → (Name → Expression → Reader) → Reader
behind_define in_for h l (n ∷ []) next range =
    optional (keyword keywords.Range) 0 (λ _. expr 5 h l an_operand (λ e. range n e)) (short_var_decl_values h l (n ∷ []) next)
behind_define m h l ns next range = short_var_decl_values h l ns next

abbrev pub on_define : Position → Bool → ℕ → (Simple → Reader) → (Name → Expression → Reader) → Lexeme → Move → Option (List Name) → Move
on_define m h l next range t other None = other
on_define m h l next range t other (Some ns) = cond (same define t.kind && may_define m) (Take 0 (behind_define m h l ns next range)) other

abbrev pub on_assignment : Bool → ℕ → Expression → (Simple → Reader) → Move → Option BinaryOperator → Move
on_assignment h l e next other None = other
on_assignment h l e next other (Some op) = Take 0 (expr 5 h l an_operand (λ r. next (operator_assignment op e r)))

-- behind several left sides, and behind one or more
abbrev pub on_lefts : Position → Bool → ℕ → List Expression → (Simple → Reader) → (Expression → Reader) → (Name → Expression → Reader) → Lexeme → Move → Move
on_lefts m h l front next alone range t other =
    cond (same comma t.kind) (Take 0 (expr 5 h l an_operand (λ e. lefts m h l (front ++ e ∷ []) next alone range)))
    (cond (same assign t.kind) (Take 0 (expr 5 h l a_value (λ e. more_exprs h l (e ∷ []) (λ es. next (assignment (pack front) (pack es))))))
    (on_define m h l next range t other (names_if front)))

-- behind one, which is no more than that
abbrev pub on_left : Bool → ℕ → Expression → (Simple → Reader) → Lexeme → Move → Move
on_left h l e next t other =
    cond (same (kinds.Punctuation marks.Increment) t.kind) (Take 0 (next (increment e)))
    (cond (same (kinds.Punctuation marks.Decrement) t.kind) (Take 0 (next (decrement e)))
    (on_assignment h l e next other (assignment_of t.kind)))

-- what is expected behind an expression that is no statement
abbrev pub behind_left : Position → Expression → Expected
behind_left in_list (name p text) = behind_a_name
behind_left _ _ = another

-- a statement of a list, which can't be followed by a block or a `range`
abbrev pub list_lefts : Position → Bool → ℕ → (Simple → Reader) → Expression → Reader
list_lefts m h l next e = lefts m h l (e ∷ []) next (λ a. next (call_statement a)) (λ n a. next (call_statement a))

-- statements

abbrev pub open_block : ℕ → (Block → Reader) → Lexeme → Reader
open_block l next o = list_start (statements (l + 1)) [] (λ ss c. next (block o.place (pack_statements ss) c.place))

abbrev pub read_block : ℕ → (Block → Reader) → Reader
read_block l next = token opening_brace l another (open_block l next)

abbrev pub if_condition : ℕ → Place → (If → Reader) → Option Simple → Reader
if_condition l p next i = expr 5 true (l + 1) an_operand (λ c. read_block (l + 1) (λ b. else_part l p i c b next))

abbrev pub behind_if : ℕ → (If → Reader) → Lexeme → Reader
behind_if l next t =
    optional semicolon 0 (λ _. if_condition l t.place next None)
    (expr 5 true (l + 1) an_operand (λ e. lefts in_header true (l + 1) (e ∷ []) (λ s. token semicolon 0 another (λ _. if_condition l t.place next (Some s)))
    (λ c. read_block (l + 1) (λ b. else_part l t.place None c b next)) (λ n a. if_condition l t.place next None)))

abbrev pub behind_else : ℕ → (Else → Reader) → Reader
behind_else l next = optional (keyword keywords.If) (l + 2) (behind_if (l + 1) (λ i. next (else_if i))) (read_block (l + 1) (λ b. next (else_block b)))

abbrev pub for_body : ℕ → Place → (Statement → Reader) → Option Simple → Option Expression → Option Simple → Block → Reader
for_body l p next i c n b = next (for_statement p i c n b)

abbrev pub for_turns : ℕ → Place → (Statement → Reader) → Option Simple → Option Expression → Reader
for_turns l p next i c =
    optional opening_brace (l + 1) (open_block (l + 1) (for_body l p next i c None))
    (expr 5 true (l + 1) an_operand (list_lefts behind_turns true (l + 1) (λ s. read_block (l + 1) (for_body l p next i c (Some s)))))

abbrev pub for_condition : ℕ → Place → (Statement → Reader) → Option Simple → Reader
for_condition l p next i =
    optional semicolon 0 (λ _. for_turns l p next i None)
    (expr 5 true (l + 1) an_operand (λ c. token semicolon 0 another (λ _. for_turns l p next i (Some c))))

abbrev pub range_body : ℕ → Place → (Statement → Reader) → Option Name → Expression → Reader
range_body l p next n e = read_block (l + 1) (λ b. next (range_statement p n e b))

abbrev pub behind_for : ℕ → (Statement → Reader) → Lexeme → Reader
behind_for l next t =
    optional opening_brace (l + 1) (open_block (l + 1) (for_body l t.place next None None None))
    (optional semicolon 0 (λ _. for_condition l t.place next None)
    (optional (keyword keywords.Range) 0 (λ _. expr 5 true (l + 1) an_operand (range_body l t.place next None))
    (expr 5 true (l + 1) an_operand (λ e. lefts in_for true (l + 1) (e ∷ []) (λ s. token semicolon 0 another (λ _. for_condition l t.place next (Some s)))
    (λ c. read_block (l + 1) (for_body l t.place next None (Some c) None)) (λ n a. range_body l t.place next (Some n) a)))))

abbrev pub clause_body : ℕ → List Clause → (Cases → Lexeme → Reader) → Place → Option ExpressionList → Reader
clause_body l done next p values = token colon 0 another (λ _. clause_start l done p values [] next)

abbrev pub behind_case : ℕ → List Clause → (Cases → Lexeme → Reader) → Lexeme → Reader
behind_case l done next t =
    expr 5 false (l + 1) an_operand (λ e. more_exprs false (l + 1) (e ∷ []) (λ es. clause_body l done next t.place (Some (pack es))))

abbrev pub read_clauses : ℕ → (Cases → Lexeme → Reader) → Reader
read_clauses l next =
    optional (keyword keywords.Case) (l + 1) (behind_case l [] next)
    (optional (keyword keywords.Default) 0 (λ t. clause_body l [] next t.place None) (token closing_brace 0 another (next no_clauses)))

abbrev pub switch_body : ℕ → Place → (Statement → Reader) → Option Simple → Option Expression → Reader
switch_body l p next i tag = read_clauses l (λ cs _. next (switch_statement p i tag cs))

abbrev pub switch_tag : ℕ → Place → (Statement → Reader) → Option Simple → Reader
switch_tag l p next i =
    optional opening_brace 0 (λ _. switch_body l p next i None)
    (expr 5 true (l + 1) an_operand (λ e. token opening_brace 0 another (λ _. switch_body l p next i (Some e))))

abbrev pub behind_switch : ℕ → (Statement → Reader) → Lexeme → Reader
behind_switch l next t =
    optional opening_brace 0 (λ _. switch_body l t.place next None None)
    (optional semicolon 0 (λ _. switch_tag l t.place next None)
    (expr 5 true (l + 1) an_operand (λ e. lefts in_header true (l + 1) (e ∷ []) (λ s. token semicolon 0 another (λ _. switch_tag l t.place next (Some s)))
    (λ tag. token opening_brace 0 another (λ _. switch_body l t.place next None (Some tag))) (λ n a. switch_tag l t.place next None))))

abbrev pub behind_return : ℕ → (Statement → Reader) → Lexeme → Reader
behind_return l next t =
    optional_expr false (l + 1) an_operand (λ e. more_exprs false (l + 1) (e ∷ []) (λ es. next (return t.place (pack es)))) (next (return t.place no_exprs))

-- a statement that isn't empty, and what is expected behind it but a semicolon or the list's end
abbrev pub on_stmt : ℕ → (Expected → Statement → Reader) → Lexeme → Move
on_stmt l next t =
    cond (same (keyword keywords.Const) t.kind) (Take l (behind_const (l + 1) (λ d. next another (declaration t.place d)) t))
    (cond (same (keyword keywords.Var) t.kind) (Take l (behind_var (l + 1) (λ d. next another (declaration t.place d)) t))
    (cond (same (keyword keywords.Return) t.kind) (Take l (behind_return l (next another) t))
    (cond (same (keyword keywords.Break) t.kind) (Take l (next behind_a_jump (break t.place)))
    (cond (same (keyword keywords.Continue) t.kind) (Take l (next behind_a_jump (continue t.place)))
    (cond (same (keyword keywords.Fallthrough) t.kind) (Take l (next another (fallthrough t.place)))
    (cond (same opening_brace t.kind) (Take (l + 1) (open_block (l + 1) (λ b. next another (block_statement b)) t))
    (cond (same (keyword keywords.If) t.kind) (Take (l + 1) (behind_if l (λ i. next another (if_statement i)) t))
    (cond (same (keyword keywords.For) t.kind) (Take (l + 1) (behind_for l (next another) t))
    (cond (same (keyword keywords.Switch) t.kind) (Take l (behind_switch l (next another) t))
    (on_expr 5 false (l + 1) a_statement (list_lefts in_list false (l + 1) (λ s. next another (simple (simple_place s) s))) t))))))))))

-- imports

abbrev pub is_string_token : List ℕ → Lexeme → Bool
is_string_token other t = same kinds.String t.kind && not (bytes_eq (string_value t.text) other)

abbrev pub import_spec_of : Option Name → Place → Lexeme → ImportSpec
import_spec_of n p t = record { place = p; name = n; path = string_value t.text; path_place = t.place }

abbrev pub import_spec : (ImportSpec → Reader) → Reader
import_spec next =
    optional kinds.Name 0 (λ n. import_path an_import_path (λ t. next (import_spec_of (Some (name_of n)) n.place t)))
    (import_path an_import (λ t. next (import_spec_of None t.place t)))

-- lists

-- behind a type that a call's first operand begins with: its elements, what is converted to it, or but for these the type itself
abbrev pub behind_operand_type : ℕ → (Expression → Reader) → TypeExpr → Reader
behind_operand_type l next (slice p a) =
    optional opening_brace (l + type_height (slice p a)) (literal_elements l (behind_operand 5 false l next) (slice p a)) (next (type_operand p (slice p a)))
behind_operand_type l next a =
    optional opening_brace (l + type_height a) (literal_elements l (behind_operand 5 false l next) a)
    (optional opening (l + type_height a) (converted_operand l (behind_operand 5 false l next) a) (next (type_operand (type_place a) a)))

-- a call's first operand, which with slices may be a type
abbrev pub on_operand : Bool → ℕ → (Expression → Reader) → Lexeme → Move
on_operand true l next t =
    cond (same opening_bracket t.kind) (Take (l + 1) (behind_bracket l (behind_operand_type l next) t))
    (cond (same (keyword keywords.Struct) t.kind) (Take l (behind_struct l (behind_operand_type l next) t)) (on_expr 5 false l an_operand next t))
on_operand false l next t = on_expr 5 false l an_operand next t

abbrev pub on_item : (k : ListKind) → List (Item k) → (List (Item k) → Lexeme → Reader) → Lexeme → Move
on_item (fields l) front next t =
    on_token kinds.Name l another (λ n. more_names (name_of n ∷ []) (λ ns. type l a_type (λ a. list_end (fields l) a_field_end (front ++ (ns, a) ∷ []) next))) t
on_item (arguments l) front next t = on_expr 5 false l an_operand (λ e. list_end (arguments l) another (front ++ e ∷ []) next) t
on_item (elements l) front next t = on_element l front next t
on_item (const_specs l) front next t =
    on_token kinds.Name 0 another (λ n. more_names (name_of n ∷ []) (const_rest l (λ s. list_end (const_specs l) another (front ++ s ∷ []) next))) t
on_item (var_specs l) front next t =
    on_token kinds.Name l another (λ n. more_names (name_of n ∷ []) (var_rest l (λ s. list_end (var_specs l) another (front ++ s ∷ []) next))) t
on_item (type_specs l) front next t = on_token kinds.Name l another (type_rest l (λ s. list_end (type_specs l) another (front ++ s ∷ []) next)) t
on_item import_specs front next t =
    cond (same kinds.Name t.kind) (Take 0 (import_path an_import_path
    (λ s. list_end import_specs another (front ++ import_spec_of (Some (name_of t)) t.place s ∷ []) next)))
    (cond (is_string_token (codes "C") t) (Take 0 (list_end import_specs another (front ++ import_spec_of None t.place t ∷ []) next)) (Fail an_import))
on_item (statements l) front next t =
    cond (same semicolon t.kind) (Take l (list_start (statements l) (front ++ empty t.place ∷ []) next))
    (on_stmt l (λ x s. list_end (statements l) x (front ++ s ∷ []) next) t)
on_item parameters front next t =
    on_token kinds.Name 1 another (λ n. more_names (name_of n ∷ [])
    (λ ns. type 1 a_parameter_type (λ a. list_end parameters another (front ++ record { names = ns; type = a } ∷ []) next))) t
on_item results front next t = on_type 1 a_type (λ a. list_end results a_result_end (front ++ a ∷ []) next) t

-- clauses

abbrev pub with_clause : List Clause → Place → Option ExpressionList → List Statement → List Clause
with_clause done p values front = done ++ (p, (values, front)) ∷ []

abbrev pub on_clause : ℕ → List Clause → (Cases → Lexeme → Reader) → Lexeme → Move → Move
on_clause l done next t other =
    cond (same (keyword keywords.Case) t.kind) (Take (l + 1) (behind_case l done next t))
    (cond (same (keyword keywords.Default) t.kind) (Take 0 (clause_body l done next t.place None)) other)

-- files

abbrev pub to_file : Name → List ImportSpec → List TopLevel → File
to_file p is ds = record { «package» = p; imports = is; declarations = ds }

abbrev pub read_results : (List TypeExpr → Reader) → Reader
read_results next = optional opening 0 (λ _. list_start results [] (λ rs _. next rs)) (optional_type 1 a_type (λ a. next (a ∷ [])) (next []))

abbrev pub behind_func : (FunctionDecl → Reader) → Lexeme → Reader
behind_func next t =
    token kinds.Name 0 a_function_name (λ n. token opening 0 a_function_opening (λ _. list_start parameters [] (λ ps _. read_results (λ rs.
    read_block 1 (λ b. next (record { place = t.place; name = name_of n; parameters = ps; results = rs; body = b }))))))

abbrev pub decls_at : Name → List ImportSpec → List TopLevel → Reader
decls_at p is ds =
    optional (keyword keywords.Const) 0 (behind_const 1 (λ d. decl_end p is (ds ++ declared d ∷ [])))
    (optional (keyword keywords.Var) 0 (behind_var 1 (λ d. decl_end p is (ds ++ declared d ∷ [])))
    (optional (keyword keywords.Type) 0 (behind_type 1 (λ d. decl_end p is (ds ++ declared d ∷ [])))
    (optional (keyword keywords.Func) 1 (behind_func (λ f. decl_end p is (ds ++ function f ∷ []))) (ended (to_file p is ds)))))

abbrev pub read_imports : Name → List (List ImportSpec) → Reader
read_imports p iss =
    optional (keyword keywords.Import) 0 (λ _. group import_specs (λ is. import_end p (iss ++ is ∷ [])) import_spec) (decls_at p (concat iss) [])

-- what is due first
abbrev pub start : Reader
start = token (keyword keywords.Package) 0 another (λ _. package_name (λ n. token semicolon 0 another (λ _. read_imports (name_of n) [])))

-- steps

-- what may be missing is passed over, unless the token begins what is left out in its place
abbrev pub on_optional : Bool → Bool → Expected → Move → Move → Move
on_optional true out x there missing = there
on_optional false true x there missing = Fail x
on_optional false false x there missing = missing

-- what a token does
abbrev pub parser_step : Edition → Reader → Lexeme → Move
parser_step ed (ended f) t = Fail another
parser_step ed (token kind need x next) t = on_token kind need x next t
parser_step ed (package_name next) t = cond (same kinds.Name t.kind && not (bytes_eq t.text (codes "_"))) (Take 0 (next t)) (Fail another)
parser_step ed (import_path x next) t = cond (is_string_token (codes "C") t) (Take 0 (next t)) (Fail x)
parser_step ed (optional kind need some none) t = cond (same kind t.kind) (Take need (some t)) (parser_step ed none t)
parser_step ed (newer kind need x some none) t = cond (same kind t.kind) (cond (has_slices ed) (Take need (some t)) (Fail x)) (parser_step ed none t)
parser_step ed (type l x next) t = on_type l x next t
parser_step ed (optional_type l x some none) t = on_optional (begins_type t.kind) (is_left_out_at x t.kind) x (on_type l x some t) (parser_step ed none t)
parser_step ed (expr n h l x next) t = on_expr n h l x next t
parser_step ed (optional_expr h l x some none) t = on_optional (begins_expr t.kind) (is_left_out_at x t.kind) x (on_expr 5 h l x some t) (parser_step ed none t)
parser_step ed (suffixes h l e next) t = on_suffix h l e (λ a. suffixes h l a next) t (parser_step ed (next e) t)
parser_step ed (operators n h l e next) t = on_operator n h l e (λ a. operators n h l a next) (parser_step ed (next e) t) (binary_of t.kind)
parser_step ed (more_names front next) t =
    cond (same comma t.kind) (Take 0 (token kinds.Name 0 another (λ n. more_names (front ++ name_of n ∷ []) next))) (parser_step ed (next front) t)
parser_step ed (more_exprs h l front next) t =
    cond (same comma t.kind) (Take 0 (expr 5 h l an_operand (λ e. more_exprs h l (front ++ e ∷ []) next))) (parser_step ed (next front) t)
parser_step ed (list_start k front next) t = cond (same (closer k) t.kind) (Take 0 (next front t)) (on_item k front next t)
parser_step ed (list_end k x front next) t =
    cond (same (separator k) t.kind) (Take 0 (list_start k front next)) (cond (same (closer k) t.kind) (Take 0 (next front t)) (Fail x))
parser_step ed (operands l next) t =
    cond (same closing t.kind) (Take 0 (next [] t)) (on_operand (has_slices ed) l (λ e. list_end (arguments l) another (e ∷ []) next) t)
parser_step ed (lefts m h l [] next alone range) t = Fail another
parser_step ed (lefts m h l (e ∷ []) next alone range) t =
    on_lefts m h l (e ∷ []) next alone range t (on_left h l e next t
    (cond (is_header m && same opening_brace t.kind) (parser_step ed (alone e) t) (cond (is_call e) (parser_step ed (next (call_statement e)) t) (Fail (behind_left m e)))))
parser_step ed (lefts m h l (e ∷ f ∷ es) next alone range) t = on_lefts m h l (e ∷ f ∷ es) next alone range t (Fail another)
parser_step ed (else_part l p i c b next) t =
    cond (same (keyword keywords.Else) t.kind) (Take 0 (behind_else l (λ r. next (conditional p i c b r)))) (parser_step ed (next (conditional p i c b no_else)) t)
parser_step ed (clause_start l done p values front next) t =
    on_clause l (with_clause done p values front) next t
    (cond (same closing_brace t.kind) (Take 0 (next (pack_cases (with_clause done p values front)) t))
    (cond (same semicolon t.kind) (Take (l + 1) (clause_start l done p values (front ++ empty t.place ∷ []) next))
    (on_stmt (l + 1) (λ x s. clause_end l x done p values (front ++ s ∷ []) next) t)))
parser_step ed (clause_end l x done p values front next) t =
    cond (same semicolon t.kind) (Take 0 (clause_start l done p values front next))
    (cond (same closing_brace t.kind) (Take 0 (next (pack_cases (with_clause done p values front)) t)) (Fail x))
parser_step ed (import_end p iss) t = on_token semicolon 0 another (λ _. read_imports p iss) t
parser_step ed (decl_end p is ds) t = on_token semicolon 0 another (λ _. decls_at p is ds) t

abbrev pub final_if : Bool → Option File → Option File
final_if true f = f
final_if false f = None

-- the file, where the tokens may end
abbrev pub final : Reader → Option File
final (ended f) = Some f
final (optional kind need some none) = final none
final (newer kind need x some none) = final none
final (optional_type l x some none) = final none
final (optional_expr h l x some none) = final none
final (suffixes h l e next) = final (next e)
final (operators n h l e next) = final (next e)
final (more_names front next) = final (next front)
final (more_exprs h l front next) = final (next front)
final (lefts m h l (e ∷ []) next alone range) = final_if (is_call e) (final (next (call_statement e)))
final (else_part l p i c b next) = final (next (conditional p i c b no_else))
final _ = None

-- how a list of tokens ends: as a file, or refused where these are left, by a number
pub data ParseOutcome : Type 0 where
  Done : File → ParseOutcome
  Refused : (number : ℕ) → List Lexeme → ParseOutcome

abbrev pub at_end : Option File → ParseOutcome
at_end None = Refused 3 []
at_end (Some f) = Done f

abbrev pub by_level : Bool → ParseOutcome → List Lexeme → ParseOutcome
by_level true o ts = o
by_level false o ts = Refused 4 ts

abbrev pub by_move : ℕ → (Reader → ParseOutcome) → TokenKind → List Lexeme → Move → ParseOutcome
by_move limit go k ts (Take need s) = by_level (nat_le need limit) (go s) ts
by_move limit go k ts (Fail x) = Refused (fault_at x k) ts

unfoldable pub run_parser : Edition → ℕ → Reader → List Lexeme → ParseOutcome
run_parser ed limit s [] = at_end (final s)
run_parser ed limit s (t ∷ ts) = by_move limit (λ r. run_parser ed limit r ts) t.kind (t ∷ ts) (parser_step ed s t)
