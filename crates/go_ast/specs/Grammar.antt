-- The grammar of an edition, by cases on the tree. `IsX e x us ws` says: the tokens us are an x, and then come the tokens ws.
-- The productions stand beside each relation as docs/GRAMMAR.md has them.
use Rattle.std.specs.Prelude.{◌≡◌, ◌≢◌, ◌⊎◌, ℕ, suc, ◌≤◌, ◌<◌, Bool, true, false, List, [], ◌∷◌, ◌++◌, Option, Some, None, codes}
use Rattle.go_text.specs.declared.edition.Edition.{Edition}
use Rattle.go_text.specs.declared.place.Place.{Place}
use Rattle.go_text.specs.Editions.{has_slices}
use Rattle.go_scan.specs.declared.token.TokenKind.{TokenKind}
use Rattle.go_scan.specs.declared.token.TokenKind.TheVariants as kinds
use Rattle.go_scan.specs.declared.keyword.Keyword.TheVariants as keywords
use Rattle.go_scan.specs.declared.punctuation.Punctuation.TheVariants as marks
use Rattle.go_scan.specs.Runes.{RuneValue}
use Rattle.go_scan.specs.Strings.{StringValue}
use Rattle.go_ast.specs.Trees.{Name, TypeExpr, named, qualified, array, slice, struct, FieldDecls, no_fields, field, Expression, name, integer, rune, string, parenthesized, composite_lit, conversion, selector, index, cut, Bound, no_bound, bound, call, type_operand, unary, binary, ExpressionList, no_exprs, some_exprs, Elements, no_elements, element, Element, expression_element, value_element, Simple, call_statement, increment, decrement, assignment, operator_assignment, short_var_decl, ConstSpec, VarSpec, TypeSpec, Decl, constants, variables, types, Statement, empty, declaration, simple, return, break, continue, fallthrough, block_statement, if_statement, for_statement, range_statement, switch_statement, Block, block, If, conditional, Else, no_else, else_block, else_if, StatementList, no_stmts, some_stmts, Cases, no_clauses, clause, Parameter, FunctionDecl, TopLevel, declared, function, ImportSpec, File, place_of}
use Rattle.go_ast.specs.Heights.{file_height}
use Rattle.go_ast.specs.Operators.{unary_of, binary_of, assignment_of, tighter}

-- a token as the grammar sees it: its kind, its bytes and its place
pub record Lexeme : Type 0 where
  pub kind : TokenKind
  pub text : List ℕ
  pub place : Place

-- tokens of which the first is t, of a kind, and the others are ws
pub record Token (kind : TokenKind) (t : Lexeme) (us ws : List Lexeme) : Type 0 where
  pub whole : us ≡ t ∷ ws
  pub is : t.kind ≡ kind

-- the name that a token is
abbrev pub name_of : Lexeme → Name
name_of t = record { text = t.text; place = t.place }

abbrev pub assign : TokenKind
assign = kinds.Punctuation marks.Assign

abbrev pub opening : TokenKind
opening = kinds.Punctuation marks.OpenParenthesis

abbrev pub closing : TokenKind
closing = kinds.Punctuation marks.CloseParenthesis

abbrev pub opening_bracket : TokenKind
opening_bracket = kinds.Punctuation marks.OpenBracket

abbrev pub closing_bracket : TokenKind
closing_bracket = kinds.Punctuation marks.CloseBracket

abbrev pub opening_brace : TokenKind
opening_brace = kinds.Punctuation marks.OpenBrace

abbrev pub closing_brace : TokenKind
closing_brace = kinds.Punctuation marks.CloseBrace

abbrev pub comma : TokenKind
comma = kinds.Punctuation marks.Comma

abbrev pub period : TokenKind
period = kinds.Punctuation marks.Period

abbrev pub semicolon : TokenKind
semicolon = kinds.Punctuation marks.Semicolon

abbrev pub colon : TokenKind
colon = kinds.Punctuation marks.Colon

abbrev pub define : TokenKind
define = kinds.Punctuation marks.Define

-- behind an item of a list: a separator and the others, or, behind the last, nothing
abbrev pub Behind : TokenKind → (List Lexeme → List Lexeme → Type 0) → Type 0 → List Lexeme → List Lexeme → Type 0
Behind separator Others Last us ws =
    ((t : Lexeme) × (vs : List Lexeme) × Token separator t us vs × Others vs ws) ⊎ (Last × (us ≡ ws))

-- { Item separator }, where the last separator may be missing
abbrev pub AreItems : {A : Type 0} → (A → List Lexeme → List Lexeme → Type 0) → TokenKind → List A → List Lexeme → List Lexeme → Type 0
AreItems Is separator [] us ws = us ≡ ws
AreItems Is separator (x ∷ xs) us ws = (vs : List Lexeme) × Is x us vs × Behind separator (AreItems Is separator xs) (xs ≡ []) vs ws

--   Names = Name { "," Name }
abbrev pub AreMoreNames : List Name → List Lexeme → List Lexeme → Type 0
AreMoreNames [] us ws = us ≡ ws
AreMoreNames (n ∷ ns) us ws = (c t : Lexeme) × (vs xs : List Lexeme) × Token comma c us vs × Token kinds.Name t vs xs × (n ≡ name_of t) × AreMoreNames ns xs ws

abbrev pub AreNames : List Name → List Lexeme → List Lexeme → Type 0
AreNames [] us ws = ⊥
AreNames (n ∷ ns) us ws = (t : Lexeme) × (vs : List Lexeme) × Token kinds.Name t us vs × (n ≡ name_of t) × AreMoreNames ns vs ws

-- a token of a kind that may be missing
abbrev pub MayBe : TokenKind → List Lexeme → List Lexeme → Type 0
MayBe kind us ws = (us ≡ ws) ⊎ ((t : Lexeme) × Token kind t us ws)

-- a type that is a name, or a name of a package's
abbrev pub is_named : TypeExpr → Bool
is_named (named p n) = true
is_named (qualified p m n) = true
is_named (array p e a) = false
is_named (slice p a) = false
is_named (struct p fs) = false

-- the place of a type's first token
abbrev pub type_place : TypeExpr → Place
type_place (named p n) = p
type_place (qualified p m n) = p
type_place (array p e a) = p
type_place (slice p a) = p
type_place (struct p fs) = p

-- a type whose values are written as conversions without a name of it
abbrev pub converts : TypeExpr → Bool
converts (named p n) = false
converts (qualified p m n) = false
converts (array p e a) = true
converts (slice p a) = false
converts (struct p fs) = true

-- what a suffix may stand behind: no operator's expression
abbrev pub IsPrimary : Expression → Type 0
IsPrimary (unary p op e) = ⊥
IsPrimary (binary p op a b) = ⊥
IsPrimary _ = Unit {0}

--   [ Name ":" ]
abbrev pub IsKey : Option Name → List Lexeme → List Lexeme → Type 0
IsKey None us ws = us ≡ ws
IsKey (Some n) us ws = (t c : Lexeme) × (vs : List Lexeme) × Token kinds.Name t us vs × (n ≡ name_of t) × Token colon c vs ws

abbrev nowhere : Place
nowhere = record { line = 0; column = 0 }

-- the items of some lists
abbrev pub concat : {A : Type 0} → List (List A) → List A
concat [] = []
concat (xs ∷ xss) = xs ++ concat xss

-- a call, parentheses dropped
abbrev pub is_call : Expression → Bool
is_call (parenthesized p e) = is_call e
is_call (call p f es) = true
is_call _ = false

-- a short variable declaration, which may not stand behind a turn of a `for`
abbrev pub is_short_var_decl : Simple → Bool
is_short_var_decl (short_var_decl ns rs) = true
is_short_var_decl _ = false

-- the place of a simple statement's first token
abbrev pub simple_place : Simple → Place
simple_place (call_statement e) = place_of e
simple_place (increment e) = place_of e
simple_place (decrement e) = place_of e
simple_place (assignment no_exprs rs) = nowhere
simple_place (assignment (some_exprs l ls) rs) = place_of l
simple_place (operator_assignment op l r) = place_of l
simple_place (short_var_decl [] rs) = nowhere
simple_place (short_var_decl (n ∷ ns) rs) = n.place

--   Group(Spec) = Spec | "(" { Spec ";" } ")"
abbrev pub IsGroup : {A : Type 0} → (A → List Lexeme → List Lexeme → Type 0) → List A → List Lexeme → List Lexeme → Type 0
IsGroup {A} Is ss us ws =
    ((s : A) × (ss ≡ s ∷ []) × Is s us ws)
    ⊎ ((o c : Lexeme) × (vs xs : List Lexeme) × Token opening o us vs × AreItems Is semicolon ss vs xs × Token closing c xs ws)

-- the place of a declaration's first token
abbrev pub decl_place : Decl → Place
decl_place (constants p ss) = p
decl_place (variables p ss) = p
decl_place (types p ss) = p

-- types aren't declared in functions
abbrev pub declares_types : Decl → Bool
declares_types (types p ss) = true
declares_types _ = false

--   [ Name ":=" ]
abbrev pub IsRangeName : Option Name → List Lexeme → List Lexeme → Type 0
IsRangeName None us ws = us ≡ ws
IsRangeName (Some n) us ws = (t d : Lexeme) × (vs : List Lexeme) × Token kinds.Name t us vs × (n ≡ name_of t) × Token define d vs ws

abbrev pub is_last : Cases → Bool
is_last no_clauses = true
is_last (clause p es ss cs) = false

--   ImportSpec = [ Name ] String, whose value isn't "C"
abbrev pub IsImportSpec : ImportSpec → List Lexeme → List Lexeme → Type 0
IsImportSpec i us ws =
    (n t : Lexeme) × (vs : List Lexeme)
    × (((i.name ≡ None) × (us ≡ vs) × (i.place ≡ t.place)) ⊎ ((i.name ≡ Some (name_of n)) × Token kinds.Name n us vs × (i.place ≡ n.place)))
    × Token kinds.String t vs ws × StringValue t.text i.path × (i.path ≢ codes "C") × (i.path_place ≡ t.place)

--   { Import ";" }, Import = "import" Group(ImportSpec)
abbrev pub AreImports : List (List ImportSpec) → List Lexeme → List Lexeme → Type 0
AreImports [] us ws = us ≡ ws
AreImports (is ∷ iss) us ws =
    (k t : Lexeme) × (vs xs ys : List Lexeme) × Token (kinds.Keyword keywords.Import) k us vs × IsGroup IsImportSpec is vs xs × Token semicolon t xs ys
    × AreImports iss ys ws

-- An expression has the operators of at most n levels outside its parentheses and brackets: 0 of none, which is a unary
-- one, 5 of all. `h` is the mark of a header, which goes down to what stands in no parentheses, brackets or braces of its
-- own: there no literal of a named type is read.
module _ (ed : Edition) where
  abbrev mutual
    --   Type = Name [ "." Name ] | "[" Expr "]" Type | "struct" "{" { Names Type ";" } "}", with slices "[" "]" Type too
    pub IsType : TypeExpr → List Lexeme → List Lexeme → Type 0
    IsType (named p n) us ws = (t : Lexeme) × Token kinds.Name t us ws × (p ≡ t.place) × (n ≡ name_of t)
    IsType (qualified p m n) us ws =
        (t d s : Lexeme) × (vs xs : List Lexeme) × Token kinds.Name t us vs × Token period d vs xs × Token kinds.Name s xs ws
        × (p ≡ t.place) × (m ≡ name_of t) × (n ≡ name_of s)
    IsType (array p e a) us ws =
        (o c : Lexeme) × (vs xs ys : List Lexeme) × Token opening_bracket o us vs × (p ≡ o.place)
        × IsExpr 5 false e vs xs × Token closing_bracket c xs ys × IsType a ys ws
    IsType (slice p a) us ws =
        (o c : Lexeme) × (vs xs : List Lexeme) × (has_slices ed ≡ true) × Token opening_bracket o us vs × (p ≡ o.place) × Token closing_bracket c vs xs
        × IsType a xs ws
    IsType (struct p fs) us ws =
        (k o c : Lexeme) × (vs xs ys : List Lexeme) × Token (kinds.Keyword keywords.Struct) k us vs × (p ≡ k.place)
        × Token opening_brace o vs xs × AreFields fs xs ys × Token closing_brace c ys ws

    pub AreFields : FieldDecls → List Lexeme → List Lexeme → Type 0
    AreFields no_fields us ws = us ≡ ws
    AreFields (field ns a fs) us ws =
        (vs xs : List Lexeme) × AreNames ns us vs × IsType a vs xs × Behind semicolon (AreFields fs) (fs ≡ no_fields) xs ws

    --   Operand = Name | Integer | Rune | String | "(" Expr ")" | Type "{" Elements "}" | Type "(" Expr [ "," ] ")"
    --   Primary = Operand | Primary "." Name | Primary "[" Expr "]" | Primary "(" [ Expr { "," Expr } [ "," ] ] ")"; with slices
    --             Primary "[" [ Expr ] ":" [ Expr ] "]" too, and the first Expr of a call may be a Type that isn't a name
    --   Unary   = Primary | ( "+" | "-" | "!" | "^" ) Unary
    --   Expr    = Unary | Expr operator Expr, of five levels, left to right
    pub IsExpr : ℕ → Bool → Expression → List Lexeme → List Lexeme → Type 0
    IsExpr n h (name p text) us ws = (t : Lexeme) × Token kinds.Name t us ws × (p ≡ t.place) × (text ≡ t.text)
    IsExpr n h (integer p text) us ws = (t : Lexeme) × Token kinds.Integer t us ws × (p ≡ t.place) × (text ≡ t.text)
    IsExpr n h (rune p value) us ws = (t : Lexeme) × Token kinds.Rune t us ws × (p ≡ t.place) × RuneValue t.text value
    IsExpr n h (string p value) us ws = (t : Lexeme) × Token kinds.String t us ws × (p ≡ t.place) × StringValue t.text value
    IsExpr n h (parenthesized p e) us ws =
        (o c : Lexeme) × (vs xs : List Lexeme) × Token opening o us vs × (p ≡ o.place) × IsExpr 5 false e vs xs × Token closing c xs ws
    IsExpr n h (composite_lit p a q es) us ws =
        (o c : Lexeme) × (vs xs ys : List Lexeme) × (h ≡ true → is_named a ≡ false) × IsType a us vs × (p ≡ type_place a)
        × Token opening_brace o vs xs × (q ≡ o.place) × AreElements es xs ys × Token closing_brace c ys ws
    IsExpr n h (conversion p a e) us ws =
        (o c : Lexeme) × (vs xs ys zs : List Lexeme) × (converts a ≡ true) × IsType a us vs × (p ≡ type_place a)
        × Token opening o vs xs × IsExpr 5 false e xs ys × MayBe comma ys zs × Token closing c zs ws
    IsExpr n h (selector p e f) us ws =
        (d t : Lexeme) × (vs xs : List Lexeme) × (p ≡ place_of e) × IsPrimary e × IsExpr 0 h e us vs × Token period d vs xs × Token kinds.Name t xs ws
        × (f ≡ name_of t)
    IsExpr n h (index p e i) us ws =
        (o c : Lexeme) × (vs xs ys : List Lexeme) × (p ≡ place_of e) × IsPrimary e × IsExpr 0 h e us vs
        × Token opening_bracket o vs xs × IsExpr 5 false i xs ys × Token closing_bracket c ys ws
    IsExpr n h (cut p e a b) us ws =
        (o m c : Lexeme) × (vs xs ys zs zs' : List Lexeme) × (has_slices ed ≡ true) × (p ≡ place_of e) × IsPrimary e × IsExpr 0 h e us vs
        × Token opening_bracket o vs xs × IsBound a xs ys × Token colon m ys zs × IsBound b zs zs' × Token closing_bracket c zs' ws
    IsExpr n h (type_operand p t) us ws = ⊥
    IsExpr n h (call p f es) us ws =
        (o c : Lexeme) × (vs xs ys : List Lexeme) × (p ≡ place_of f) × IsPrimary f × IsExpr 0 h f us vs
        × Token opening o vs xs × AreOperands es xs ys × Token closing c ys ws
    IsExpr n h (unary p op e) us ws =
        (t : Lexeme) × (vs : List Lexeme) × (us ≡ t ∷ vs) × (unary_of t.kind ≡ Some op) × (p ≡ t.place) × IsExpr 0 h e vs ws
    IsExpr n h (binary p op a b) us ws =
        (t : Lexeme) × (vs xs : List Lexeme) × (tighter op < n) × (p ≡ place_of a) × IsExpr (suc (tighter op)) h a us vs
        × (vs ≡ t ∷ xs) × (binary_of t.kind ≡ Some op) × IsExpr (tighter op) h b xs ws

    pub IsBound : Bound → List Lexeme → List Lexeme → Type 0
    IsBound no_bound us ws = us ≡ ws
    IsBound (bound e) us ws = IsExpr 5 false e us ws

    -- a type that isn't a name, with slices
    pub IsTypeOperand : Expression → List Lexeme → List Lexeme → Type 0
    IsTypeOperand (type_operand p a) us ws = (has_slices ed ≡ true) × (is_named a ≡ false) × IsType a us ws × (p ≡ type_place a)
    IsTypeOperand e us ws = ⊥

    -- [ ( Expr | Type ) { "," Expr } [ "," ] ]
    pub AreOperands : ExpressionList → List Lexeme → List Lexeme → Type 0
    AreOperands no_exprs us ws = us ≡ ws
    AreOperands (some_exprs e es) us ws =
        (vs : List Lexeme) × (IsExpr 5 false e us vs ⊎ IsTypeOperand e us vs) × Behind comma (AreArguments es) (es ≡ no_exprs) vs ws

    -- { Expr "," }, where the last comma may be missing
    pub AreArguments : ExpressionList → List Lexeme → List Lexeme → Type 0
    AreArguments no_exprs us ws = us ≡ ws
    AreArguments (some_exprs e es) us ws = (vs : List Lexeme) × IsExpr 5 false e us vs × Behind comma (AreArguments es) (es ≡ no_exprs) vs ws

    --   Elements = [ Elem { "," Elem } [ "," ] ], Elem = [ Name ":" ] ( Expr | "{" Elements "}" )
    pub AreElements : Elements → List Lexeme → List Lexeme → Type 0
    AreElements no_elements us ws = us ≡ ws
    AreElements (element k e es) us ws =
        (vs xs : List Lexeme) × IsKey k us vs × IsElement e vs xs × Behind comma (AreElements es) (es ≡ no_elements) xs ws

    pub IsElement : Element → List Lexeme → List Lexeme → Type 0
    IsElement (expression_element e) us ws = IsExpr 5 false e us ws
    IsElement (value_element p es) us ws =
        (o c : Lexeme) × (vs xs : List Lexeme) × Token opening_brace o us vs × (p ≡ o.place) × AreElements es vs xs × Token closing_brace c xs ws

  --   Exprs = Expr { "," Expr }
  abbrev pub AreMoreExprs : Bool → ExpressionList → List Lexeme → List Lexeme → Type 0
  AreMoreExprs h no_exprs us ws = us ≡ ws
  AreMoreExprs h (some_exprs e es) us ws = (c : Lexeme) × (vs xs : List Lexeme) × Token comma c us vs × IsExpr 5 h e vs xs × AreMoreExprs h es xs ws

  abbrev pub AreExprs : Bool → ExpressionList → List Lexeme → List Lexeme → Type 0
  AreExprs h no_exprs us ws = ⊥
  AreExprs h (some_exprs e es) us ws = (vs : List Lexeme) × IsExpr 5 h e us vs × AreMoreExprs h es vs ws

  --   Simple = Call | Expr ( "++" | "--" ) | Exprs "=" Exprs | Expr operator "=" Expr | Names ":=" Exprs
  abbrev pub IsSimple : Bool → Simple → List Lexeme → List Lexeme → Type 0
  IsSimple h (call_statement e) us ws = IsExpr 5 h e us ws × (is_call e ≡ true)
  IsSimple h (increment e) us ws = (t : Lexeme) × (vs : List Lexeme) × IsExpr 5 h e us vs × Token (kinds.Punctuation marks.Increment) t vs ws
  IsSimple h (decrement e) us ws = (t : Lexeme) × (vs : List Lexeme) × IsExpr 5 h e us vs × Token (kinds.Punctuation marks.Decrement) t vs ws
  IsSimple h (assignment ls rs) us ws = (t : Lexeme) × (vs xs : List Lexeme) × AreExprs h ls us vs × Token assign t vs xs × AreExprs h rs xs ws
  IsSimple h (operator_assignment op l r) us ws =
      (t : Lexeme) × (vs xs : List Lexeme) × IsExpr 5 h l us vs × (vs ≡ t ∷ xs) × (assignment_of t.kind ≡ Some op) × IsExpr 5 h r xs ws
  IsSimple h (short_var_decl ns rs) us ws = (t : Lexeme) × (vs xs : List Lexeme) × AreNames ns us vs × Token define t vs xs × AreExprs h rs xs ws

  -- a value that may be missing
  abbrev pub IsType? : Option TypeExpr → List Lexeme → List Lexeme → Type 0
  IsType? None us ws = us ≡ ws
  IsType? (Some a) us ws = IsType a us ws

  abbrev pub IsExpr? : Option Expression → List Lexeme → List Lexeme → Type 0
  IsExpr? None us ws = us ≡ ws
  IsExpr? (Some e) us ws = IsExpr 5 true e us ws

  abbrev pub IsSimple? : Option Simple → List Lexeme → List Lexeme → Type 0
  IsSimple? None us ws = us ≡ ws
  IsSimple? (Some s) us ws = IsSimple true s us ws

  -- "=" Exprs
  abbrev pub AreValues : ExpressionList → List Lexeme → List Lexeme → Type 0
  AreValues es us ws = (t : Lexeme) × (vs : List Lexeme) × Token assign t us vs × AreExprs false es vs ws

  --   ConstSpec = Names [ [ Type ] "=" Exprs ]
  abbrev pub IsConstSpec : ConstSpec → List Lexeme → List Lexeme → Type 0
  IsConstSpec s us ws =
      (vs : List Lexeme) × AreNames s.names us vs
      × (((s.type ≡ None) × (s.values ≡ no_exprs) × (vs ≡ ws)) ⊎ ((xs : List Lexeme) × IsType? s.type vs xs × AreValues s.values xs ws))

  --   VarSpec = Names ( Type [ "=" Exprs ] | "=" Exprs )
  abbrev pub IsVarSpec : VarSpec → List Lexeme → List Lexeme → Type 0
  IsVarSpec s us ws =
      (vs : List Lexeme) × AreNames s.names us vs
      × (((a : TypeExpr) × (s.type ≡ Some a) × (s.values ≡ no_exprs) × IsType a vs ws) ⊎ ((xs : List Lexeme) × IsType? s.type vs xs × AreValues s.values xs ws))

  --   TypeSpec = Name Type
  abbrev pub IsTypeSpec : TypeSpec → List Lexeme → List Lexeme → Type 0
  IsTypeSpec s us ws = (t : Lexeme) × (vs : List Lexeme) × Token kinds.Name t us vs × (s.name ≡ name_of t) × IsType s.type vs ws

  --   Decl = "const" Group(ConstSpec) | "var" Group(VarSpec) | "type" Group(TypeSpec)
  abbrev pub IsDecl : Decl → List Lexeme → List Lexeme → Type 0
  IsDecl (constants p ss) us ws = (k : Lexeme) × (vs : List Lexeme) × Token (kinds.Keyword keywords.Const) k us vs × (p ≡ k.place) × IsGroup IsConstSpec ss vs ws
  IsDecl (variables p ss) us ws = (k : Lexeme) × (vs : List Lexeme) × Token (kinds.Keyword keywords.Var) k us vs × (p ≡ k.place) × IsGroup IsVarSpec ss vs ws
  IsDecl (types p ss) us ws = (k : Lexeme) × (vs : List Lexeme) × Token (kinds.Keyword keywords.Type) k us vs × (p ≡ k.place) × IsGroup IsTypeSpec ss vs ws

  --   [ Simple ] ";", which may be missing whole
  abbrev pub IsStart : Option Simple → List Lexeme → List Lexeme → Type 0
  IsStart None us ws = (us ≡ ws) ⊎ ((t : Lexeme) × Token semicolon t us ws)
  IsStart (Some s) us ws = (t : Lexeme) × (vs : List Lexeme) × IsSimple true s us vs × Token semicolon t vs ws

  --   [ Expr ] | [ Simple ] ";" [ Expr ] ";" [ Simple ]
  abbrev pub IsForHead : Option Simple → Option Expression → Option Simple → List Lexeme → List Lexeme → Type 0
  IsForHead i c n us ws =
      ((i ≡ None) × (n ≡ None) × IsExpr? c us ws)
      ⊎ ((t r : Lexeme) × (vs xs ys zs : List Lexeme) × IsSimple? i us vs × Token semicolon t vs xs × IsExpr? c xs ys × Token semicolon r ys zs
      × IsSimple? n zs ws × ((s : Simple) → n ≡ Some s → is_short_var_decl s ≡ false))

  --   "case" Exprs | "default"
  abbrev pub IsCase : Place → Option ExpressionList → List Lexeme → List Lexeme → Type 0
  IsCase p None us ws = (t : Lexeme) × Token (kinds.Keyword keywords.Default) t us ws × (p ≡ t.place)
  IsCase p (Some es) us ws = (t : Lexeme) × (vs : List Lexeme) × Token (kinds.Keyword keywords.Case) t us vs × (p ≡ t.place) × AreExprs false es vs ws

  abbrev mutual
    --   Stmt = nothing | Decl | Simple | "return" [ Exprs ] | "break" | "continue" | "fallthrough" | Block | If | For | Switch
    pub IsStmt : Statement → List Lexeme → List Lexeme → Type 0
    IsStmt (empty p) us ws = (t : Lexeme) × (vs : List Lexeme) × Token semicolon t us vs × (p ≡ t.place) × (us ≡ ws)
    IsStmt (declaration p d) us ws = IsDecl d us ws × (p ≡ decl_place d) × (declares_types d ≡ false)
    IsStmt (simple p s) us ws = IsSimple false s us ws × (p ≡ simple_place s)
    IsStmt (return p es) us ws =
        (t : Lexeme) × (vs : List Lexeme) × Token (kinds.Keyword keywords.Return) t us vs × (p ≡ t.place)
        × (((es ≡ no_exprs) × (vs ≡ ws)) ⊎ AreExprs false es vs ws)
    IsStmt (break p) us ws = (t : Lexeme) × Token (kinds.Keyword keywords.Break) t us ws × (p ≡ t.place)
    IsStmt (continue p) us ws = (t : Lexeme) × Token (kinds.Keyword keywords.Continue) t us ws × (p ≡ t.place)
    IsStmt (fallthrough p) us ws = (t : Lexeme) × Token (kinds.Keyword keywords.Fallthrough) t us ws × (p ≡ t.place)
    IsStmt (block_statement b) us ws = IsBlock b us ws
    IsStmt (if_statement i) us ws = IsIf i us ws
    --   For = "for" ( [ Expr ] | [ Simple ] ";" [ Expr ] ";" [ Simple ] | [ Name ":=" ] "range" Expr ) Block
    IsStmt (for_statement p i c n b) us ws =
        (t : Lexeme) × (vs xs : List Lexeme) × Token (kinds.Keyword keywords.For) t us vs × (p ≡ t.place) × IsForHead i c n vs xs × IsBlock b xs ws
    IsStmt (range_statement p n e b) us ws =
        (t r : Lexeme) × (vs xs ys zs : List Lexeme) × Token (kinds.Keyword keywords.For) t us vs × (p ≡ t.place) × IsRangeName n vs xs
        × Token (kinds.Keyword keywords.Range) r xs ys × IsExpr 5 true e ys zs × IsBlock b zs ws
    --   Switch = "switch" [ [ Simple ] ";" ] [ Expr ] "{" { Clause } "}"
    IsStmt (switch_statement p i t cs) us ws =
        (k o c : Lexeme) × (vs xs ys zs zs' : List Lexeme) × Token (kinds.Keyword keywords.Switch) k us vs × (p ≡ k.place) × IsStart i vs xs
        × IsExpr? t xs ys × Token opening_brace o ys zs × AreClauses cs zs zs' × Token closing_brace c zs' ws

    --   Block = "{" { Stmt ";" } "}"
    pub IsBlock : Block → List Lexeme → List Lexeme → Type 0
    IsBlock (block p ss q) us ws =
        (o c : Lexeme) × (vs xs : List Lexeme) × Token opening_brace o us vs × (p ≡ o.place) × AreStmts true ss vs xs
        × Token closing_brace c xs ws × (q ≡ c.place)

    --   If = "if" [ [ Simple ] ";" ] Expr Block [ "else" ( If | Block ) ]
    pub IsIf : If → List Lexeme → List Lexeme → Type 0
    IsIf (conditional p i e b r) us ws =
        (t : Lexeme) × (vs xs ys zs : List Lexeme) × Token (kinds.Keyword keywords.If) t us vs × (p ≡ t.place) × IsStart i vs xs
        × IsExpr 5 true e xs ys × IsBlock b ys zs × IsElse r zs ws

    pub IsElse : Else → List Lexeme → List Lexeme → Type 0
    IsElse no_else us ws = us ≡ ws
    IsElse (else_block b) us ws = (t : Lexeme) × (vs : List Lexeme) × Token (kinds.Keyword keywords.Else) t us vs × IsBlock b vs ws
    IsElse (else_if i) us ws = (t : Lexeme) × (vs : List Lexeme) × Token (kinds.Keyword keywords.Else) t us vs × IsIf i vs ws

    -- { Stmt ";" }, where the last semicolon may be missing if `closed`, in front of a closing brace
    pub AreStmts : Bool → StatementList → List Lexeme → List Lexeme → Type 0
    AreStmts closed no_stmts us ws = us ≡ ws
    AreStmts closed (some_stmts s ss) us ws =
        (vs : List Lexeme) × IsStmt s us vs × Behind semicolon (AreStmts closed ss) ((ss ≡ no_stmts) × (closed ≡ true)) vs ws

    --   Clause = ( "case" Exprs | "default" ) ":" { Stmt ";" }
    pub AreClauses : Cases → List Lexeme → List Lexeme → Type 0
    AreClauses no_clauses us ws = us ≡ ws
    AreClauses (clause p es ss cs) us ws =
        (t : Lexeme) × (vs xs ys : List Lexeme) × IsCase p es us vs × Token colon t vs xs × AreStmts (is_last cs) ss xs ys × AreClauses cs ys ws

  --   Param = Names Type
  abbrev pub IsParameter : Parameter → List Lexeme → List Lexeme → Type 0
  IsParameter p us ws = (vs : List Lexeme) × AreNames p.names us vs × IsType p.type vs ws

  --   Result = [ Type | "(" [ Type { "," Type } [ "," ] ] ")" ]
  abbrev pub AreResults : List TypeExpr → List Lexeme → List Lexeme → Type 0
  AreResults rs us ws =
      ((rs ≡ []) × (us ≡ ws)) ⊎ ((a : TypeExpr) × (rs ≡ a ∷ []) × IsType a us ws)
      ⊎ ((o c : Lexeme) × (vs xs : List Lexeme) × Token opening o us vs × AreItems IsType comma rs vs xs × Token closing c xs ws)

  --   Func = "func" Name "(" [ Param { "," Param } [ "," ] ] ")" Result Block
  abbrev pub IsFunction : FunctionDecl → List Lexeme → List Lexeme → Type 0
  IsFunction f us ws =
      (k t o c : Lexeme) × (vs xs ys zs zs' zs'' : List Lexeme) × Token (kinds.Keyword keywords.Func) k us vs × (f.place ≡ k.place)
      × Token kinds.Name t vs xs × (f.name ≡ name_of t) × Token opening o xs ys × AreItems IsParameter comma f.parameters ys zs
      × Token closing c zs zs' × AreResults f.results zs' zs'' × IsBlock f.body zs'' ws

  abbrev pub IsTopLevel : TopLevel → List Lexeme → List Lexeme → Type 0
  IsTopLevel (declared d) us ws = IsDecl d us ws
  IsTopLevel (function f) us ws = IsFunction f us ws

  --   { ( Decl | Func ) ";" }
  abbrev pub AreTopLevels : List TopLevel → List Lexeme → List Lexeme → Type 0
  AreTopLevels [] us ws = us ≡ ws
  AreTopLevels (d ∷ ds) us ws = (t : Lexeme) × (vs xs : List Lexeme) × IsTopLevel d us vs × Token semicolon t vs xs × AreTopLevels ds xs ws

  --   File = "package" Name ";" { Import ";" } { ( Decl | Func ) ";" }, where the name isn't the underscore
  abbrev pub IsFile : File → List Lexeme → Type 0
  IsFile f us =
      (k t s : Lexeme) × (vs xs ys zs : List Lexeme) × (iss : List (List ImportSpec)) × Token (kinds.Keyword keywords.Package) k us vs
      × Token kinds.Name t vs xs × (t.text ≢ codes "_") × (f.«package» ≡ name_of t) × Token semicolon s xs ys
      × AreImports iss ys zs × (f.imports ≡ concat iss) × AreTopLevels f.declarations zs []

-- in that edition the tokens are a file, with at most so many levels
pub record Derives (e : Edition) (levels : ℕ) (ts : List Lexeme) (f : File) : Type 0 where
  pub derived : IsFile e f ts
  pub fits : file_height f ≤ levels

-- with some tokens behind them, the tokens are a file
abbrev pub Begins : Edition → ℕ → List Lexeme → Type 0
Begins e levels ts = (others : List Lexeme) × (f : File) × Derives e levels (ts ++ others) f
