-- What is due at some turns of an expression.
use Rattle.std.specs.Prelude.{ℕ, ◌+◌, Option, None, List, [], ◌∷◌, ◌++◌, false}
use Rattle.go_text.specs.declared.place.Place.{Place}
use Rattle.go_scan.specs.declared.token.TokenKind.{TokenKind}
use Rattle.go_scan.specs.declared.token.TokenKind.TheVariants as kinds
use Rattle.go_ast.specs.Trees.{Name, TypeExpr, Expression, Element, parenthesized, selector, index, bound, call, type_operand, composite_lit, expression_element, value_element, place_of, pack, pack_elements}
use Rattle.go_ast.specs.Expected.{Expected, an_operand, an_element_end, a_selected_name, an_index_end, another}
use Rattle.go_ast.specs.Grammar.{Lexeme, name_of, type_place, comma, colon, opening, closing, closing_bracket, opening_brace}
use Rattle.go_ast.specs.Machine.{Reader, token, optional, newer, expr, operands, list_start, list_end, elements, behind_element, name_if}
use Rattle.go_ast.specs.Machine as machine

-- behind an opening parenthesis
abbrev pub behind_paren : ℕ → (Expression → Reader) → Lexeme → Reader
behind_paren l next t = expr 5 false (l + 1) an_operand (λ e. token closing 0 another (λ _. next (parenthesized t.place e)))

-- behind the opening parenthesis of a conversion
abbrev pub behind_conversion : ℕ → (Expression → Reader) → Lexeme → Reader
behind_conversion l next t =
    expr 5 false (l + 1) an_operand (λ e. optional comma 0 (λ _. token closing 0 another (λ _. next e)) (token closing 0 another (λ _. next e)))

-- behind the brace of a value without a type
abbrev pub behind_value : ℕ → (Element → Reader) → Lexeme → Reader
behind_value l next o = list_start (elements (l + 1)) [] (λ es _. next (value_element o.place (pack_elements es)))

-- the value of an element
abbrev pub read_value : ℕ → (Element → Reader) → Reader
read_value l next = optional opening_brace l (behind_value l next) (expr 5 false l an_operand (λ e. next (expression_element e)))

-- the key that a value may be
abbrev pub key_in : Element → Option Name
key_in (expression_element e) = name_if e
key_in (value_element p es) = None

-- behind an element, the last of these
abbrev pub behind_last : ℕ → List (Option Name × Element) → (List (Option Name × Element) → Lexeme → Reader) → Option Name → Element → Reader
behind_last l front next key v = list_end (elements l) an_element_end (front ++ (key, v) ∷ []) next

-- behind a value that may be the key of an element
abbrev pub behind_first : ℕ → List (Option Name × Element) → (List (Option Name × Element) → Lexeme → Reader) → Element → Reader
behind_first l front next (expression_element e) = behind_element l front next e
behind_first l front next (value_element p es) = behind_last l front next None (value_element p es)

-- an element
abbrev pub element_at : ℕ → List (Option Name × Element) → (List (Option Name × Element) → Lexeme → Reader) → Reader
element_at l front next = read_value l (behind_first l front next)

-- behind a type that a call's first operand begins with and that isn't a slice's, of so many levels: what is converted to it, or
-- the type itself
abbrev pub conversion_or_type : ℕ → (Expression → Reader) → ℕ → TypeExpr → Reader
conversion_or_type l next n a =
    optional opening (l + n) (machine.converted_operand l (machine.behind_operand 5 false l next) a) (next (type_operand (type_place a) a))

-- behind the first token of each suffix of an operand
abbrev pub behind_selector : Expression → (Expression → Reader) → Lexeme → Reader
behind_selector e next t = token kinds.Name 0 a_selected_name (λ s. next (selector (place_of e) e (name_of s)))

abbrev pub behind_index : ℕ → Expression → (Expression → Reader) → Lexeme → Reader
behind_index l e next t = machine.behind_index l e next

-- behind an index, or the first bound of a part
abbrev pub index_ends : ℕ → Expression → (Expression → Reader) → Expression → Reader
index_ends l e next i =
    newer colon 0 an_index_end (λ _. machine.behind_colon l e (bound i) next) (token closing_bracket 0 an_index_end (λ _. next (index (place_of e) e i)))

abbrev pub behind_call : ℕ → Expression → (Expression → Reader) → Lexeme → Reader
behind_call l e next t = operands (l + 1) (λ es _. next (call (place_of e) e (pack es)))

abbrev pub behind_brace : ℕ → TypeExpr → (Expression → Reader) → Lexeme → Reader
behind_brace l a next t = list_start (elements (l + 2)) [] (λ es _. next (composite_lit (type_place a) a t.place (pack_elements es)))

-- the elements of a literal of a type
abbrev pub literal_at : ℕ → TypeExpr → (Expression → Reader) → Reader
literal_at l a next = token opening_brace (l + 1) another (behind_brace l a next)

-- the same, and what stands behind the literal
abbrev pub literal_then : ℕ → ℕ → TypeExpr → (Expression → Reader) → Reader
literal_then need l a next = token opening_brace need another (machine.literal_elements l (machine.behind_operand 5 false l next) a)

-- an expression between two marks
abbrev pub between : TokenKind → TokenKind → Expected → ℕ → ℕ → Expected → (Place → Expression → Reader) → Reader
between first last end need l x next =
    token first need another (λ t. expr 5 false l x (λ e. token last 0 end (λ _. next t.place e)))
