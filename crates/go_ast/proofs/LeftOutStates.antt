-- What the machine's states say of what is left out: what the last token was where a state is due, and that the labels in
-- a state, and in all that may come behind it, are right.
use Rattle.std.proofs.Common.{◌≡◌, ℕ, ◌⊎◌, Bool, true, false, ◌&&◌, ◌||◌, List, [], ◌∷◌}
use Rattle.go_text.specs.declared.edition.Edition.{Edition}
use Rattle.go_text.specs.declared.place.Place.{Place}
use Rattle.go_text.specs.Editions.{has_slices}
use Rattle.go_scan.specs.declared.token.TokenKind.{TokenKind}
use Rattle.go_scan.specs.declared.token.TokenKind.TheVariants as kinds
use Rattle.go_scan.specs.declared.keyword.Keyword.TheVariants as keywords
use Rattle.go_scan.specs.declared.punctuation.Punctuation.TheVariants as marks
use Rattle.go_ast.specs.Kinds.{same}
use Rattle.go_ast.specs.Operators.{unary_of, binary_of, assignment_of}
use Rattle.go_ast.specs.Expected.{Expected, an_operand, a_value, a_type, a_declared_type, a_parameter_type, a_length, an_index, an_index_end, a_selected_name, an_element_end, a_field_end, a_result_end, a_statement, behind_a_jump, a_function_name, a_function_opening, an_import, an_import_path, another, is_left_out_at}
use Rattle.go_ast.specs.Trees.{Name, TypeExpr, Expression, name, Simple, call_statement, conditional, no_else, If, Cases}
use Rattle.go_ast.specs.Grammar.{Lexeme, assign, opening, closing, opening_bracket, closing_bracket, opening_brace, closing_brace, comma, period, semicolon, colon, define, is_call}
use Rattle.go_ast.specs.Machine.{ListKind, fields, arguments, elements, const_specs, var_specs, type_specs, import_specs, statements, parameters, results, Item, separator, closer, Position, in_list, Reader, ended, token, package_name, import_path, optional, newer, type, optional_type, expr, optional_expr, suffixes, operators, more_names, more_exprs, list_start, list_end, operands, lefts, else_part, clause_start, clause_end, import_end, decl_end, Move, Take, Fail, keyword, is_header, is_some, behind_left, parser_step}
use Rattle.go_ast.proofs.Positions.{is_for}
use Rattle.go_ast.proofs.Means.{is_level}

-- what the last token was, as far as a label hangs on it; or what comes before a part that may be missing
pub data Last : Type 0 where
  -- none of the others
  other : Last
  -- a name, behind which what is declared comes; names, behind which others may come; and one that ends something
  name_last : Last
  names : Last
  passed : Last
  -- a name that begins a statement, and one behind `func`
  first_name : Last
  func_name : Last
  bracket : Last
  dot : Last
  equals : Last
  func : Last
  jump : Last
  -- a colon may come for a key, a name may come for an import, the bracket may come behind the colon of a part
  keyed : Last
  nameable : Last
  bounded : Last

-- an expression, a type or names may end here
abbrev pub is_end : Last → Bool
is_end other = true
is_end passed = true
is_end names = true
is_end _ = false

abbrev pub is_plain : Last → Bool
is_plain other = true
is_plain passed = true
is_plain names = true
is_plain name_last = true
is_plain _ = false

abbrev pub is_func : Last → Bool
is_func func = true
is_func _ = false

-- kinds that a label hangs on
abbrev pub is_special : TokenKind → Bool
is_special kinds.Name = true
is_special (kinds.Punctuation marks.OpenBracket) = true
is_special (kinds.Punctuation marks.Period) = true
is_special (kinds.Punctuation marks.Assign) = true
is_special (kinds.Keyword keywords.Func) = true
is_special (kinds.Keyword keywords.Break) = true
is_special (kinds.Keyword keywords.Continue) = true
is_special _ = false

-- kinds of single tokens that are due, and of those that may be missing
abbrev pub is_mark : TokenKind → Bool
is_mark kinds.Name = true
is_mark (kinds.Punctuation marks.CloseBracket) = true
is_mark (kinds.Punctuation marks.OpenBrace) = true
is_mark (kinds.Punctuation marks.CloseBrace) = true
is_mark (kinds.Punctuation marks.OpenParenthesis) = true
is_mark (kinds.Punctuation marks.CloseParenthesis) = true
is_mark (kinds.Punctuation marks.Assign) = true
is_mark (kinds.Punctuation marks.Semicolon) = true
is_mark (kinds.Punctuation marks.Colon) = true
is_mark (kinds.Keyword keywords.Package) = true
is_mark _ = false

abbrev pub is_optional : TokenKind → Bool
is_optional kinds.Name = true
is_optional (kinds.Punctuation marks.Period) = true
is_optional (kinds.Punctuation marks.OpenBrace) = true
is_optional (kinds.Punctuation marks.OpenParenthesis) = true
is_optional (kinds.Punctuation marks.CloseBracket) = true
is_optional (kinds.Punctuation marks.Comma) = true
is_optional (kinds.Punctuation marks.Colon) = true
is_optional (kinds.Punctuation marks.Assign) = true
is_optional (kinds.Punctuation marks.Semicolon) = true
is_optional (kinds.Keyword keywords.If) = true
is_optional (kinds.Keyword keywords.Range) = true
is_optional (kinds.Keyword keywords.Case) = true
is_optional (kinds.Keyword keywords.Default) = true
is_optional (kinds.Keyword keywords.Const) = true
is_optional (kinds.Keyword keywords.Var) = true
is_optional (kinds.Keyword keywords.Type) = true
is_optional (kinds.Keyword keywords.Func) = true
is_optional (kinds.Keyword keywords.Import) = true
is_optional _ = false

-- kinds that came with slices
abbrev pub is_newer : TokenKind → Bool
is_newer (kinds.Punctuation marks.CloseBracket) = true
is_newer (kinds.Punctuation marks.Colon) = true
is_newer _ = false

-- what the last token is behind one that is due
abbrev pub after : TokenKind → Expected → Last
after kinds.Name a_function_name = func_name
after kinds.Name a_selected_name = passed
after kinds.Name _ = name_last
after (kinds.Punctuation marks.Assign) _ = equals
after _ _ = other

abbrev pub behind_optional : TokenKind → Last
behind_optional kinds.Name = name_last
behind_optional (kinds.Punctuation marks.Period) = dot
behind_optional (kinds.Punctuation marks.Assign) = equals
behind_optional (kinds.Keyword keywords.Func) = func
behind_optional _ = other

abbrev pub under : TokenKind → Last → Last
under kinds.Name p = nameable
under (kinds.Punctuation marks.Colon) p = keyed
under (kinds.Punctuation marks.CloseBracket) p = bounded
under _ p = p

-- a name and no more
abbrev pub is_lone : Expression → Bool
is_lone (name p text) = true
is_lone _ = false

abbrev pub is_alone : Position → List Expression → Bool
is_alone in_list (name p text ∷ []) = true
is_alone _ _ = false

-- a token with these bytes
abbrev pub tok : TokenKind → List ℕ → Place → Lexeme
tok k text place = record { kind = k; text = text; place = place }

-- the state takes tokens of these kinds, one after another, however deep
abbrev pub GoesBy : (Reader → Type 0) → Move → Type 0
GoesBy P (Take need q) = P q
GoesBy P (Fail x) = ⊥

abbrev pub Goes : (ed : Edition) → List TokenKind → Reader → Type 0
Goes ed [] s = Unit {0}
Goes ed (k ∷ ks) s = (text : List ℕ) × (place : Place) × GoesBy (Goes ed ks) (parser_step ed s (tok k text place))

-- which kinds a state may begin with, other than an opening brace
abbrev pub starts_type : TokenKind → Bool
starts_type k = same kinds.Name k || (same opening_bracket k || same (keyword keywords.Struct) k)

abbrev pub starts_expr : TokenKind → Bool
starts_expr k =
    same kinds.Name k || (same kinds.Integer k || (same kinds.Rune k || (same kinds.String k || (same opening k || (same opening_bracket k
    || (same (keyword keywords.Struct) k || is_some (unary_of k)))))))

abbrev pub starts_stmt : TokenKind → Bool
starts_stmt k =
    same (keyword keywords.Const) k || (same (keyword keywords.Var) k || (same (keyword keywords.Return) k || (same (keyword keywords.Break) k
    || (same (keyword keywords.Continue) k || (same (keyword keywords.Fallthrough) k || (same opening_brace k || (same (keyword keywords.If) k
    || (same (keyword keywords.For) k || (same (keyword keywords.Switch) k || starts_expr k)))))))))

abbrev pub starts_item : ListKind → TokenKind → Bool
starts_item (fields l) k = same kinds.Name k || false
starts_item (arguments l) k = starts_expr k
starts_item (elements l) k = same opening_brace k || starts_expr k
starts_item (const_specs l) k = same kinds.Name k || false
starts_item (var_specs l) k = same kinds.Name k || false
starts_item (type_specs l) k = same kinds.Name k || false
starts_item import_specs k = same kinds.Name k || (same kinds.String k || false)
starts_item (statements l) k = same semicolon k || starts_stmt k
starts_item parameters k = same kinds.Name k || false
starts_item results k = starts_type k

abbrev pub goes_left : TokenKind → Bool → Bool
goes_left k more = same comma k || (same assign k || (same define k || more))

-- what is left out isn't passed over
abbrev pub veto : Bool → Bool → Bool
veto true b = false
veto false b = b

-- what came with slices comes by the edition
abbrev pub by_newer : Bool → Bool → Bool → Bool
by_newer true e b = e
by_newer false e b = b

abbrev pub starts : (ed : Edition) → Reader → TokenKind → Bool
starts ed (ended f) k = false
starts ed (token kind need x next) k = same kind k || false
starts ed (package_name next) k = same kinds.Name k || false
starts ed (import_path x next) k = same kinds.String k || false
starts ed (optional kind need some none) k = same kind k || starts ed none k
starts ed (newer kind need x some none) k = by_newer (same kind k) (has_slices ed) (starts ed none k)
starts ed (type l x next) k = starts_type k
starts ed (optional_type l x some none) k = starts_type k || veto (is_left_out_at x k) (starts ed none k)
starts ed (expr n h l x next) k = starts_expr k
starts ed (optional_expr h l x some none) k = starts_expr k || veto (is_left_out_at x k) (starts ed none k)
starts ed (suffixes h l e next) k = same period k || (same opening_bracket k || (same opening k || starts ed (next e) k))
starts ed (operators n h l e next) k = is_level n (binary_of k) || starts ed (next e) k
starts ed (more_names front next) k = same comma k || starts ed (next front) k
starts ed (more_exprs h l front next) k = same comma k || starts ed (next front) k
starts ed (list_start s front next) k = same (closer s) k || starts_item s k
starts ed (list_end s x front next) k = same (separator s) k || (same (closer s) k || false)
starts ed (operands l next) k = same closing k || starts_expr k
starts ed (lefts m h l [] next alone range) k = false
starts ed (lefts m h l (e ∷ []) next alone range) k =
    goes_left k (same (kinds.Punctuation marks.Increment) k || (same (kinds.Punctuation marks.Decrement) k || (is_some (assignment_of k)
    || (is_call e && starts ed (next (call_statement e)) k))))
starts ed (lefts m h l (e ∷ f ∷ es) next alone range) k = goes_left k false
starts ed (else_part l p i c b next) k = same (keyword keywords.Else) k || starts ed (next (conditional p i c b no_else)) k
starts ed (clause_start l done p values front next) k =
    same (keyword keywords.Case) k || (same (keyword keywords.Default) k || (same closing_brace k || (same semicolon k || starts_stmt k)))
starts ed (clause_end l x done p values front next) k = same semicolon k || (same closing_brace k || false)
starts ed (import_end p iss) k = same semicolon k || false
starts ed (decl_end p is ds) k = same semicolon k || false

-- what is expected where a token may not come
abbrev pub pick : Bool → Expected → Expected → Expected
pick true x y = x
pick false x y = y

abbrev pub start_label : ListKind → Expected
start_label (fields l) = another
start_label (arguments l) = an_operand
start_label (elements l) = an_operand
start_label (const_specs l) = another
start_label (var_specs l) = another
start_label (type_specs l) = another
start_label import_specs = an_import
start_label (statements l) = a_statement
start_label parameters = another
start_label results = a_type

abbrev pub label : Reader → TokenKind → Expected
label (token kind need x next) k = x
label (import_path x next) k = x
label (optional kind need some none) k = label none k
label (newer kind need x some none) k = pick (same kind k) x (label none k)
label (type l x next) k = x
label (optional_type l x some none) k = pick (is_left_out_at x k) x (label none k)
label (expr n h l x next) k = x
label (optional_expr h l x some none) k = pick (is_left_out_at x k) x (label none k)
label (suffixes h l e next) k = label (next e) k
label (operators n h l e next) k = label (next e) k
label (more_names front next) k = label (next front) k
label (more_exprs h l front next) k = label (next front) k
label (list_start s front next) k = start_label s
label (list_end s x front next) k = x
label (operands l next) k = an_operand
label (lefts m h l (e ∷ []) next alone range) k = pick (is_call e) (label (next (call_statement e)) k) (behind_left m e)
label (else_part l p i c b next) k = label (next (conditional p i c b no_else)) k
label (clause_start l done p values front next) k = a_statement
label (clause_end l x done p values front next) k = x
label _ k = another

-- the labels of parts

-- what holds of a token that is due, by its kind: no period may come behind a bracket; no name was last in front of a name
abbrev pub MarkOk : (ed : Edition) → Last → TokenKind → (Lexeme → Reader) → Type 0
MarkOk ed p (kinds.Punctuation marks.CloseBracket) next = (t : Lexeme) → starts ed (next t) period ≡ false
MarkOk ed p kinds.Name next = p ≡ other
MarkOk ed p _ next = Unit {0}

abbrev pub TokenOk : (ed : Edition) → Last → TokenKind → Expected → (Lexeme → Reader) → Type 0
TokenOk ed p kind another next = (is_plain p ≡ true) × (is_mark kind ≡ true) × MarkOk ed p kind next
TokenOk ed p kind an_index_end next = (is_end p ≡ true) × (kind ≡ closing_bracket) × ((t : Lexeme) → starts ed (next t) period ≡ true)
TokenOk ed p kind a_selected_name next = (p ≡ dot) × (kind ≡ kinds.Name)
TokenOk ed p kind a_function_name next = (p ≡ func) × (kind ≡ kinds.Name)
TokenOk ed p kind a_function_opening next = (p ≡ func_name) × (kind ≡ opening)
TokenOk ed p kind _ next = ⊥

abbrev pub ImportOk : Last → Expected → Type 0
ImportOk nameable an_import = Unit {0}
ImportOk name_last an_import_path = Unit {0}
ImportOk _ _ = ⊥

abbrev pub OptionalKind : (ed : Edition) → TokenKind → Last → (Lexeme → Reader) → Reader → Type 0
OptionalKind ed kinds.Name p some none =
    (starts ed none kinds.String ≡ true) × (starts ed none kinds.Integer ≡ false) × (starts ed none (keyword keywords.Return) ≡ false) × (p ≡ other)
OptionalKind ed (kinds.Punctuation marks.Comma) p some none =
    (starts ed none comma ≡ false) × ((t : Lexeme) → (starts ed (some t) (keyword keywords.Struct) ≡ false) × (Goes ed (opening_brace ∷ []) (some t) → ⊥))
OptionalKind ed (kinds.Punctuation marks.Semicolon) p some none = starts ed none closing_brace ≡ false
OptionalKind ed (kinds.Punctuation marks.CloseBracket) p some none = ((t : Lexeme) → starts ed (some t) period ≡ true) × (label none colon ≡ an_index) × (p ≡ other)
OptionalKind ed _ p some none = Unit {0}

abbrev pub OptionalOk : (ed : Edition) → Last → TokenKind → (Lexeme → Reader) → Reader → Type 0
OptionalOk ed p kind some none = (is_end p ≡ true) × (is_optional kind ≡ true) × OptionalKind ed kind p some none

abbrev pub CommaIs : (ed : Edition) → Bool → (TypeExpr → Reader) → Type 0
CommaIs ed b next = (a : TypeExpr) → starts ed (next a) comma ≡ b

abbrev pub TypeOk : (ed : Edition) → Last → Expected → (TypeExpr → Reader) → Type 0
TypeOk ed other a_type next = Unit {0}
TypeOk ed names a_type next = CommaIs ed false next
TypeOk ed names a_parameter_type next = CommaIs ed true next
TypeOk ed name_last a_declared_type next = CommaIs ed false next
TypeOk ed _ _ _ = ⊥

abbrev pub OptionalTypeOk : (ed : Edition) → Last → Expected → (TypeExpr → Reader) → Reader → Type 0
OptionalTypeOk ed other a_type some none = starts ed none (keyword keywords.Return) ≡ false
OptionalTypeOk ed names a_type some none =
    CommaIs ed false some × (starts ed none assign ≡ true) × (starts ed none (keyword keywords.Return) ≡ false) × (starts ed none (keyword keywords.Struct) ≡ false)
OptionalTypeOk ed _ _ _ _ = ⊥

-- a length and an index differ in what may be behind their bracket
abbrev pub index_tail : List TokenKind
index_tail = kinds.Integer ∷ closing_bracket ∷ period ∷ []

abbrev pub ExprOk : (ed : Edition) → Last → Expected → Reader → Type 0
ExprOk ed other an_operand s = Unit {0}
ExprOk ed equals a_value s = Unit {0}
ExprOk ed bracket a_length s = Goes ed index_tail s → ⊥
ExprOk ed bracket an_index s = Goes ed index_tail s
ExprOk ed bounded an_index s = Unit {0}
ExprOk ed _ _ _ = ⊥

-- a token that came with slices, in its three places; what is expected otherwise is refused alike, and no comma comes there
abbrev pub NewerOk : (ed : Edition) → Last → TokenKind → Expected → (Lexeme → Reader) → Type 0
NewerOk ed p kind a_length some = (p ≡ bracket) × (kind ≡ closing_bracket) × ((t : Lexeme) → starts ed (some t) period ≡ false)
NewerOk ed p kind an_index some = (p ≡ bracket) × (kind ≡ colon)
NewerOk ed p kind an_index_end some = (is_end p ≡ true) × (kind ≡ colon)
NewerOk ed _ _ _ _ = ⊥

abbrev pub EndOk : ListKind → Expected → Last → Type 0
EndOk (fields l) a_field_end p = is_end p ≡ true
EndOk (elements l) an_element_end p = is_end p ≡ true
EndOk (elements l) another p = p ≡ keyed
EndOk (statements l) behind_a_jump p = p ≡ jump
EndOk (statements l) another p = is_end p ≡ true
EndOk results a_result_end p = is_end p ≡ true
EndOk (arguments l) another p = is_end p ≡ true
EndOk (const_specs l) another p = is_end p ≡ true
EndOk (var_specs l) another p = is_end p ≡ true
EndOk (type_specs l) another p = is_end p ≡ true
EndOk import_specs another p = is_end p ≡ true
EndOk parameters another p = is_end p ≡ true
EndOk _ _ _ = ⊥

abbrev pub LeftsOk : Bool → Last → Type 0
LeftsOk true p = p ≡ first_name
LeftsOk false p = is_end p ≡ true

abbrev pub ClauseOk : Expected → Last → Type 0
ClauseOk behind_a_jump p = p ≡ jump
ClauseOk another p = is_end p ≡ true
ClauseOk _ _ = ⊥

-- the labels in a state, and in all that may come behind it, are right
abbrev pub Right : (ed : Edition) → Reader → Last → Type 0
Right ed (ended f) p = is_end p ≡ true
Right ed (token kind need x next) p = TokenOk ed p kind x next × ((t : Lexeme) → Right ed (next t) (after kind x))
Right ed (package_name next) p = (p ≡ other) × ((t : Lexeme) → Right ed (next t) name_last)
Right ed (import_path x next) p = ImportOk p x × ((t : Lexeme) → Right ed (next t) other)
Right ed (optional kind need some none) p =
    OptionalOk ed p kind some none × ((t : Lexeme) → Right ed (some t) (behind_optional kind)) × Right ed none (under kind p)
Right ed (newer kind need x some none) p =
    NewerOk ed p kind x some × ((t : Lexeme) → Right ed (some t) other) × Right ed none p × ((k : TokenKind) → label none k ≡ x) × (starts ed none comma ≡ false)
Right ed (type l x next) p = TypeOk ed p x next × ((a : TypeExpr) (q : Last) → is_end q ≡ true → Right ed (next a) q)
Right ed (optional_type l x some none) p = OptionalTypeOk ed p x some none × ((a : TypeExpr) (q : Last) → is_end q ≡ true → Right ed (some a) q) × Right ed none p
Right ed (expr n h l x next) p = ExprOk ed p x (expr n h l x next) × ((e : Expression) (q : Last) → is_end q ≡ true → Right ed (next e) q)
Right ed (optional_expr h l x some none) p =
    (p ≡ other) × (x ≡ an_operand) × (starts ed none (keyword keywords.Return) ≡ false) × ((e : Expression) (q : Last) → is_end q ≡ true → Right ed (some e) q) × Right ed none p
    × (starts ed none kinds.String ≡ false)
Right ed (suffixes h l e next) p = Right ed (next e) p × ((a : Expression) (q : Last) → is_end q ≡ true → is_lone a ≡ false → Right ed (next a) q)
Right ed (operators n h l e next) p = Right ed (next e) p × ((a : Expression) (q : Last) → is_end q ≡ true → is_lone a ≡ false → Right ed (next a) q)
Right ed (more_names front next) p =
    (p ≡ name_last) × ((ns : List Name) → Right ed (next ns) names) × ((ns : List Name) → starts ed (next ns) comma ≡ false)
Right ed (more_exprs h l front next) p =
    (is_end p ≡ true) × ((es : List Expression) (q : Last) → is_end q ≡ true → Right ed (next es) q) × ((es : List Expression) → starts ed (next es) comma ≡ false)
Right ed (list_start k front next) p = (p ≡ other) × ((is : List (Item k)) (c : Lexeme) → Right ed (next is c) other)
Right ed (list_end k x front next) p = EndOk k x p × ((is : List (Item k)) (c : Lexeme) → Right ed (next is c) other)
Right ed (operands l next) p = (p ≡ other) × ((es : List Expression) (c : Lexeme) → Right ed (next es c) other)
Right ed (lefts m h l front next alone range) p =
    LeftsOk (is_alone m front) p × ((s : Simple) (q : Last) → is_end q ≡ true → Right ed (next s) q)
    × (is_header m ≡ true → (e : Expression) (q : Last) → is_end q ≡ true → Right ed (alone e) q)
    × (is_for m ≡ true → (n : Name) (e : Expression) (q : Last) → is_end q ≡ true → Right ed (range n e) q)
    × ((s : Simple) → starts ed (next s) comma ≡ false)
Right ed (else_part l p i c b next) q = (q ≡ other) × ((x : If) → Right ed (next x) other)
Right ed (clause_start l done p values front next) q = (q ≡ other) × ((cs : Cases) (c : Lexeme) → Right ed (next cs c) other)
Right ed (clause_end l x done p values front next) q = ClauseOk x q × ((cs : Cases) (c : Lexeme) → Right ed (next cs c) other)
Right ed (import_end p iss) q = is_end q ≡ true
Right ed (decl_end p is ds) q = is_end q ≡ true

-- what the last token is behind one that is taken, where a `return` could have stood or not
abbrev pub Tells : Last → Last → Bool → TokenKind → Type 0
Tells other p b k = is_special k ≡ false
Tells name_last p b k = (k ≡ kinds.Name) × (is_func p ≡ false) × (b ≡ false)
Tells passed p b k = (k ≡ kinds.Name) × (is_func p ≡ false) × (b ≡ false)
Tells first_name p b k = (k ≡ kinds.Name) × (is_func p ≡ false) × (b ≡ true)
Tells func_name p b k = (k ≡ kinds.Name) × (is_func p ≡ true)
Tells bracket p b k = k ≡ opening_bracket
Tells dot p b k = k ≡ period
Tells equals p b k = k ≡ assign
Tells func p b k = k ≡ keyword keywords.Func
Tells jump p b k = (k ≡ keyword keywords.Break) ⊎ (k ≡ keyword keywords.Continue)
Tells _ p b k = ⊥

abbrev pub Led : (ed : Edition) → Last → Bool → TokenKind → Move → Type 0
Led ed p b k (Take need q) = (r : Last) × Tells r p b k × Right ed q r
Led ed p b k (Fail x) = Unit {0}
