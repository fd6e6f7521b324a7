-- No statement and no item of a list is without tokens.
use Rattle.std.proofs.Common.{◌≡◌, ◌⊎◌, inl, inr, Bool, false, List, [], Option, Some, None, sym, subst}
use Rattle.go_text.specs.declared.edition.Edition.{Edition}
use Rattle.go_scan.specs.declared.token.TokenKind.TheVariants as kinds
use Rattle.go_scan.specs.declared.keyword.Keyword.TheVariants as keywords
use Rattle.go_ast.specs.Trees.{Name, ExpressionList, no_exprs, some_exprs, Element, expression_element, value_element, Simple, call_statement, increment, decrement, assignment, operator_assignment, short_var_decl, Decl, constants, variables, types, Statement, empty, declaration, simple, return, break, continue, fallthrough, block_statement, if_statement, for_statement, range_statement, switch_statement, Block, block, If, conditional, ImportSpec}
use Rattle.go_ast.specs.Grammar.{Lexeme, Token, name_of, opening_brace, semicolon, IsKey, IsElement, AreExprs, IsSimple, IsDecl, IsBlock, IsIf, IsStmt}
use Rattle.go_ast.specs.Machine.{ListKind, fields, arguments, elements, const_specs, var_specs, type_specs, import_specs, statements, parameters, results, Item, keyword}
use Rattle.go_ast.proofs.Means.{IsItem}
use Rattle.go_ast.proofs.Tokens.{no_token}
use Rattle.go_ast.proofs.Types.{type_never}
use Rattle.go_ast.proofs.Operands.{expr_never}
use Rattle.go_ast.proofs.Specs.{names_never}

pub exprs_never : (ed : Edition) → (h : Bool) (es : ExpressionList) (ws : List Lexeme) → AreExprs ed h es [] ws → ⊥
exprs_never ed h no_exprs ws d = absurd d
exprs_never ed h (some_exprs e es) ws d = expr_never ed 5 h e d.0 d.1

pub simple_never : (ed : Edition) → (h : Bool) (s : Simple) (ws : List Lexeme) → IsSimple ed h s [] ws → ⊥
simple_never ed h (call_statement e) ws d = expr_never ed 5 h e ws d.0
simple_never ed h (increment e) ws d = expr_never ed 5 h e d.1 d.2
simple_never ed h (decrement e) ws d = expr_never ed 5 h e d.1 d.2
simple_never ed h (assignment ls rs) ws d = exprs_never ed h ls d.1 d.3
simple_never ed h (operator_assignment op l r) ws d = expr_never ed 5 h l d.1 d.3
simple_never ed h (short_var_decl ns rs) ws d = names_never ns d.1 d.3

pub decl_never : (ed : Edition) → (d : Decl) (ws : List Lexeme) → IsDecl ed d [] ws → ⊥
decl_never ed (constants p ss) ws d = no_token (keyword keywords.Const) d.0 d.1 d.2
decl_never ed (variables p ss) ws d = no_token (keyword keywords.Var) d.0 d.1 d.2
decl_never ed (types p ss) ws d = no_token (keyword keywords.Type) d.0 d.1 d.2

pub block_never : (ed : Edition) → (b : Block) (ws : List Lexeme) → IsBlock ed b [] ws → ⊥
block_never ed (block p ss q) ws d = no_token opening_brace d.0 d.2 d.4

pub if_never : (ed : Edition) → (i : If) (ws : List Lexeme) → IsIf ed i [] ws → ⊥
if_never ed (conditional p i e b r) ws d = no_token (keyword keywords.If) d.0 d.1 d.5

pub stmt_never : (ed : Edition) → (s : Statement) (ws : List Lexeme) → IsStmt ed s [] ws → ⊥
stmt_never ed (empty p) ws d = no_token semicolon d.0 d.1 d.2
stmt_never ed (declaration p x) ws d = decl_never ed x ws d.0
stmt_never ed (simple p s) ws d = simple_never ed false s ws d.0
stmt_never ed (return p es) ws d = no_token (keyword keywords.Return) d.0 d.1 d.2
stmt_never ed (break p) ws d = no_token (keyword keywords.Break) d.0 ws d.1
stmt_never ed (continue p) ws d = no_token (keyword keywords.Continue) d.0 ws d.1
stmt_never ed (fallthrough p) ws d = no_token (keyword keywords.Fallthrough) d.0 ws d.1
stmt_never ed (block_statement b) ws d = block_never ed b ws d
stmt_never ed (if_statement i) ws d = if_never ed i ws d
stmt_never ed (for_statement p i c n b) ws d = no_token (keyword keywords.For) d.0 d.1 d.3
stmt_never ed (range_statement p n e b) ws d = no_token (keyword keywords.For) d.0 d.2 d.6
stmt_never ed (switch_statement p i t cs) ws d = no_token (keyword keywords.Switch) d.0 d.3 d.8

element_never : (ed : Edition) → (e : Element) (ws : List Lexeme) → IsElement ed e [] ws → ⊥
element_never ed (expression_element e) ws d = expr_never ed 5 false e ws d
element_never ed (value_element p es) ws d = no_token opening_brace d.0 d.2 d.4

pub keyed_never : (ed : Edition) → (k : Option Name) (e : Element) (vs ws : List Lexeme) → IsKey k [] vs → IsElement ed e vs ws → ⊥
keyed_never ed None e vs ws key d = element_never ed e ws (subst (λ x. IsElement ed e x ws) (sym key) d)
keyed_never ed (Some n) e vs ws key d = no_token kinds.Name key.0 key.2 key.3

import_never : (i : ImportSpec) (n s : Lexeme) (xs vs : List Lexeme) →
    ((i.name ≡ None) × ([] ≡ xs) × (i.place ≡ s.place)) ⊎ ((i.name ≡ Some (name_of n)) × Token kinds.Name n [] xs × (i.place ≡ n.place)) →
    Token kinds.String s xs vs → ⊥
import_never i n s xs vs (inl d) path = no_token kinds.String s vs (subst (λ x. Token kinds.String s x vs) (sym d.1) path)
import_never i n s xs vs (inr d) path = no_token kinds.Name n xs d.1

pub item_never : (ed : Edition) → (k : ListKind) (i : Item k) (vs : List Lexeme) → IsItem ed k i [] vs → ⊥
item_never ed (fields l) i vs d = names_never i.0 d.0 d.1
item_never ed (arguments l) e vs d = expr_never ed 5 false e vs d
item_never ed (elements l) i vs d = keyed_never ed i.0 i.1 d.0 vs d.1 d.2
item_never ed (const_specs l) s vs d = names_never s.names d.0 d.1
item_never ed (var_specs l) s vs d = names_never s.names d.0 d.1
item_never ed (type_specs l) s vs d = no_token kinds.Name d.0 d.1 d.2
item_never ed import_specs i vs d = import_never i d.0 d.1 d.2 vs d.3 d.4
item_never ed (statements l) s vs d = stmt_never ed s vs d
item_never ed parameters p vs d = names_never p.names d.0 d.1
item_never ed results a vs d = type_never ed a vs d
