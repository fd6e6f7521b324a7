-- What a state means to the grammar: the tokens that lead from it to a file. The machine keeps it from token to token,
-- both ways, in states that are good: they have some tokens that lead to a file within the bound, and what may be behind an
-- optional part never begins as the part does.
use Rattle.std.proofs.Common.{◌≡◌, ◌≢◌, ℕ, suc, ◌+◌, ◌<◌, ◌≤◌, ◌⊎◌, Bool, true, false, ◌&&◌, ◌||◌, List, [], ◌∷◌, ◌++◌, Option, Some, None}
use Rattle.std.specs.Prelude.{not, codes, nat_eq}
use Rattle.go_text.specs.declared.edition.Edition.{Edition}
use Rattle.go_text.specs.Editions.{has_slices}
use Rattle.go_scan.specs.declared.token.TokenKind.{TokenKind}
use Rattle.go_scan.specs.declared.token.TokenKind.TheVariants as kinds
use Rattle.go_scan.specs.declared.keyword.Keyword.TheVariants as keywords
use Rattle.go_scan.specs.declared.punctuation.Punctuation.TheVariants as marks
use Rattle.go_ast.specs.Kinds.{same}
use Rattle.go_ast.specs.Literals.{string_value}
use Rattle.go_ast.specs.Operators.{binary_of, assignment_of, tighter}
use Rattle.go_ast.specs.Expected.{is_left_out_at}
use Rattle.go_ast.specs.Trees.{Name, BinaryOperator, TypeExpr, Expression, composite_lit, selector, index, cut, call, binary, Simple, call_statement, increment, decrement, assignment, operator_assignment, short_var_decl, Statement, conditional, Else, no_else, Cases, TopLevel, ImportSpec, File, place_of, pack, pack_statements}
use Rattle.go_ast.specs.Heights.{height, type_height, element_height, simple_height, const_height, var_height, type_spec_height, parameter_height, stmt_height, if_height, clauses_height, top_height}
use Rattle.go_ast.specs.Grammar.{Lexeme, Token, name_of, assign, opening, closing, opening_bracket, closing_bracket, opening_brace, closing_brace, comma, period, semicolon, colon, define, Behind, AreItems, AreMoreNames, AreNames, IsType, IsExpr, IsBound, AreOperands, AreArguments, AreElements, IsKey, IsElement, AreMoreExprs, AreExprs, is_call, is_short_var_decl, type_place, IsConstSpec, IsVarSpec, IsTypeSpec, IsStmt, IsElse, AreStmts, AreClauses, is_last, IsParameter, IsImportSpec, AreImports, AreTopLevels, concat}
use Rattle.go_ast.specs.Machine.{ListKind, fields, arguments, elements, const_specs, var_specs, type_specs, import_specs, statements, parameters, results, Item, separator, closer, Position, Clause, pack_cases, Reader, ended, token, package_name, import_path, optional, newer, operands, type, optional_type, expr, optional_expr, suffixes, operators, more_names, more_exprs, list_start, list_end, lefts, else_part, clause_start, clause_end, import_end, decl_end, Move, Take, Fail, keyword, begins_type, begins_expr, literal_type, is_some, names_if, may_define, is_header, with_clause, to_file}
use Rattle.go_ast.proofs.Positions.{is_for}

-- the expression is a itself, and takes no tokens
abbrev pub Itself : Expression → Expression → List Lexeme → List Lexeme → Type 0
Itself a e us ws = (e ≡ a) × (us ≡ ws)

-- the name x of a literal's type: a itself, or what a name selects from it
abbrev pub IsTypeName : Expression → Expression → List Lexeme → List Lexeme → Type 0
IsTypeName a x us ws =
    Itself a x us ws
    ⊎ ((d t : Lexeme) × (vs : List Lexeme) × Token period d us vs × Token kinds.Name t vs ws × (x ≡ selector (place_of a) a (name_of t)))

-- the expression a, which grows by suffixes to e: the tokens of the suffixes, and then others
abbrev pub Suffixed : (ed : Edition) → Bool → Expression → Expression → List Lexeme → List Lexeme → Type 0
Suffixed ed h a (selector p e f) us ws =
    Itself a (selector p e f) us ws
    ⊎ ((d t : Lexeme) × (vs xs : List Lexeme) × (p ≡ place_of e) × Suffixed ed h a e us vs × Token period d vs xs × Token kinds.Name t xs ws × (f ≡ name_of t))
Suffixed ed h a (index p e i) us ws =
    Itself a (index p e i) us ws
    ⊎ ((o c : Lexeme) × (vs xs ys : List Lexeme) × (p ≡ place_of e) × Suffixed ed h a e us vs × Token opening_bracket o vs xs × IsExpr ed 5 false i xs ys
    × Token closing_bracket c ys ws)
Suffixed ed h a (cut p e i j) us ws =
    Itself a (cut p e i j) us ws
    ⊎ ((o m c : Lexeme) × (vs xs ys zs zs' : List Lexeme) × (has_slices ed ≡ true) × (p ≡ place_of e) × Suffixed ed h a e us vs × Token opening_bracket o vs xs
    × IsBound ed i xs ys × Token colon m ys zs × IsBound ed j zs zs' × Token closing_bracket c zs' ws)
Suffixed ed h a (call p e es) us ws =
    Itself a (call p e es) us ws
    ⊎ ((o c : Lexeme) × (vs xs ys : List Lexeme) × (p ≡ place_of e) × Suffixed ed h a e us vs × Token opening o vs xs × AreOperands ed es xs ys
    × Token closing c ys ws)
Suffixed ed h a (composite_lit p b q es) us ws =
    Itself a (composite_lit p b q es) us ws
    ⊎ ((o c : Lexeme) × (vs xs ys : List Lexeme) × (x : Expression) × (h ≡ false) × IsTypeName a x us vs × (literal_type x ≡ Some b) × (p ≡ type_place b)
    × Token opening_brace o vs xs × (q ≡ o.place) × AreElements ed es xs ys × Token closing_brace c ys ws)
Suffixed ed h a e us ws = Itself a e us ws

-- the expression a, which grows by operators of a level to e
abbrev pub Joined : (ed : Edition) → ℕ → Bool → Expression → Expression → List Lexeme → List Lexeme → Type 0
Joined ed n h a (binary p op e b) us ws =
    Itself a (binary p op e b) us ws
    ⊎ ((t : Lexeme) × (vs xs : List Lexeme) × (tighter op ≡ n) × (p ≡ place_of e) × Joined ed n h a e us vs × (vs ≡ t ∷ xs) × (binary_of t.kind ≡ Some op)
    × IsExpr ed n h b xs ws)
Joined ed n h a e us ws = Itself a e us ws

-- an item of a list, its height and its level
abbrev pub IsItem : (ed : Edition) → (k : ListKind) → Item k → List Lexeme → List Lexeme → Type 0
IsItem ed (fields l) i us ws = (vs : List Lexeme) × AreNames i.0 us vs × IsType ed i.1 vs ws
IsItem ed (arguments l) e us ws = IsExpr ed 5 false e us ws
IsItem ed (elements l) i us ws = (vs : List Lexeme) × IsKey i.0 us vs × IsElement ed i.1 vs ws
IsItem ed (const_specs l) s us ws = IsConstSpec ed s us ws
IsItem ed (var_specs l) s us ws = IsVarSpec ed s us ws
IsItem ed (type_specs l) s us ws = IsTypeSpec ed s us ws
IsItem ed import_specs i us ws = IsImportSpec i us ws
IsItem ed (statements l) s us ws = IsStmt ed s us ws
IsItem ed parameters p us ws = IsParameter ed p us ws
IsItem ed results a us ws = IsType ed a us ws

abbrev pub item_height : (k : ListKind) → Item k → ℕ
item_height (fields l) i = type_height i.1
item_height (arguments l) e = height e
item_height (elements l) i = element_height i.1
item_height (const_specs l) s = const_height s
item_height (var_specs l) s = var_height s
item_height (type_specs l) s = type_spec_height s
item_height import_specs i = 0
item_height (statements l) s = stmt_height s
item_height parameters p = parameter_height p
item_height results a = type_height a

abbrev pub item_level : ListKind → ℕ
item_level (fields l) = l
item_level (arguments l) = l
item_level (elements l) = l
item_level (const_specs l) = l
item_level (var_specs l) = l
item_level (type_specs l) = l
item_level import_specs = 0
item_level (statements l) = l
item_level parameters = 1
item_level results = 1

-- a simple statement that begins with these left sides: the tokens behind them
abbrev pub Continues : (ed : Edition) → Bool → List Expression → Simple → List Lexeme → List Lexeme → Type 0
Continues ed h front (call_statement e) us ws = (front ≡ e ∷ []) × (is_call e ≡ true) × (us ≡ ws)
Continues ed h front (increment e) us ws = (t : Lexeme) × (front ≡ e ∷ []) × Token (kinds.Punctuation marks.Increment) t us ws
Continues ed h front (decrement e) us ws = (t : Lexeme) × (front ≡ e ∷ []) × Token (kinds.Punctuation marks.Decrement) t us ws
Continues ed h front (assignment ls rs) us ws =
    (es : List Expression) × (t : Lexeme) × (vs xs : List Lexeme) × AreMoreExprs ed h (pack es) us vs × (ls ≡ pack (front ++ es)) × Token assign t vs xs
    × AreExprs ed h rs xs ws
Continues ed h front (operator_assignment op l r) us ws =
    (t : Lexeme) × (vs : List Lexeme) × (front ≡ l ∷ []) × (us ≡ t ∷ vs) × (assignment_of t.kind ≡ Some op) × IsExpr ed 5 h r vs ws
Continues ed h front (short_var_decl ns rs) us ws =
    (es : List Expression) × (t : Lexeme) × (vs xs : List Lexeme) × AreMoreExprs ed h (pack es) us vs × (names_if (front ++ es) ≡ Some ns) × Token define t vs xs
    × AreExprs ed h rs xs ws

-- there is a first token, of a kind
abbrev pub IsFirst : TokenKind → List Lexeme → Type 0
IsFirst kind [] = ⊥
IsFirst kind (t ∷ us) = t.kind ≡ kind

-- which kinds a state may begin with

abbrev pub is_suffix : Bool → Expression → TokenKind → Bool
is_suffix h e k =
    same period k || same opening_bracket k || same opening k || (not h && same opening_brace k && is_some (literal_type e))

-- a suffix of some expression
abbrev pub is_tail : Bool → TokenKind → Bool
is_tail h k = same period k || same opening_bracket k || same opening k || (not h && same opening_brace k)

abbrev pub is_level : ℕ → Option BinaryOperator → Bool
is_level n None = false
is_level n (Some op) = nat_eq (tighter op) n

abbrev pub begins_stmt : TokenKind → Bool
begins_stmt k =
    same (keyword keywords.Const) k || same (keyword keywords.Var) k || same (keyword keywords.Return) k || same (keyword keywords.Break) k
    || same (keyword keywords.Continue) k || same (keyword keywords.Fallthrough) k || same opening_brace k || same (keyword keywords.If) k
    || same (keyword keywords.For) k || same (keyword keywords.Switch) k || begins_expr k

abbrev pub begins_item : ListKind → TokenKind → Bool
begins_item (fields l) k = same kinds.Name k
begins_item (arguments l) k = begins_expr k
begins_item (elements l) k = same opening_brace k || begins_expr k
begins_item (const_specs l) k = same kinds.Name k
begins_item (var_specs l) k = same kinds.Name k
begins_item (type_specs l) k = same kinds.Name k
begins_item import_specs k = same kinds.Name k || same kinds.String k
begins_item (statements l) k = same semicolon k || begins_stmt k
begins_item parameters k = same kinds.Name k
begins_item results k = begins_type k

abbrev pub continues : TokenKind → Bool
continues k =
    same comma k || same assign k || same define k || same (kinds.Punctuation marks.Increment) k || same (kinds.Punctuation marks.Decrement) k
    || is_some (assignment_of k)

-- for left sides, what may be behind a call that is a statement, or behind an expression alone
abbrev pub begins_behind : Position → Bool → TokenKind → Bool → Bool → Bool
begins_behind m is_call k by_next by_alone = (is_call && by_next) || (is_header m && same opening_brace k && by_alone)

abbrev pub begins : Reader → TokenKind → Bool
begins (ended f) k = false
begins (token kind need x next) k = same kind k
begins (package_name next) k = same kinds.Name k
begins (import_path x next) k = same kinds.String k
begins (optional kind need some none) k = same kind k || begins none k
begins (newer kind need x some none) k = same kind k || begins none k
begins (type l x next) k = begins_type k
begins (optional_type l x some none) k = begins_type k || begins none k
begins (expr n h l x next) k = begins_expr k
begins (optional_expr h l x some none) k = begins_expr k || begins none k
begins (suffixes h l e next) k = is_suffix h e k || begins (next e) k
begins (operators n h l e next) k = is_level n (binary_of k) || begins (next e) k
begins (more_names front next) k = same comma k || begins (next front) k
begins (more_exprs h l front next) k = same comma k || begins (next front) k
begins (list_start s front next) k = same (closer s) k || begins_item s k
begins (list_end s x front next) k = same (separator s) k || same (closer s) k
begins (operands l next) k = same closing k || begins_expr k
begins (lefts m h l [] next alone range) k = continues k
begins (lefts m h l (e ∷ []) next alone range) k = continues k || begins_behind m (is_call e) k (begins (next (call_statement e)) k) (begins (alone e) k)
begins (lefts m h l (e ∷ f ∷ es) next alone range) k = continues k
begins (else_part l p i c b next) k = same (keyword keywords.Else) k || begins (next (conditional p i c b no_else)) k
begins (clause_start l done p values front next) k =
    same (keyword keywords.Case) k || same (keyword keywords.Default) k || same closing_brace k || same semicolon k || begins_stmt k
begins (clause_end l x done p values front next) k = same semicolon k || same closing_brace k
begins (import_end p iss) k = same semicolon k
begins (decl_end p is ds) k = same semicolon k

-- no expression goes on with this kind
abbrev pub Closes : Bool → TokenKind → Type 0
Closes h k = (is_tail h k ≡ false) × (binary_of k ≡ None)

module _ (ed : Edition) (B : ℕ) where
  -- each fits at a level
  abbrev pub AllFit : {A : Type 0} → (A → ℕ) → ℕ → List A → Type 0
  AllFit tall l [] = Unit {0}
  AllFit tall l (x ∷ xs) = (l + tall x ≤ B + 1) × AllFit tall l xs

  abbrev pub FitItems : (k : ListKind) → List (Item k) → Type 0
  FitItems k is = AllFit (item_height k) (item_level k) is

  -- the tokens that lead from a state to a file
  abbrev pub Means : Reader → List Lexeme → File → Type 0
  Means (ended g) us f = (us ≡ []) × (f ≡ g)
  Means (token kind need x next) us f = (t : Lexeme) × (ws : List Lexeme) × Token kind t us ws × (need ≤ B) × Means (next t) ws f
  Means (package_name next) us f = (t : Lexeme) × (ws : List Lexeme) × Token kinds.Name t us ws × (t.text ≢ codes "_") × Means (next t) ws f
  Means (import_path x next) us f = (t : Lexeme) × (ws : List Lexeme) × Token kinds.String t us ws × (string_value t.text ≢ codes "C") × Means (next t) ws f
  Means (optional kind need some none) us f =
      ((t : Lexeme) × (ws : List Lexeme) × Token kind t us ws × (need ≤ B) × Means (some t) ws f) ⊎ Means none us f
  Means (newer kind need x some none) us f =
      ((t : Lexeme) × (ws : List Lexeme) × Token kind t us ws × (need ≤ B) × Means (some t) ws f × (has_slices ed ≡ true)) ⊎ Means none us f
  Means (type l x next) us f = (a : TypeExpr) × (ws : List Lexeme) × IsType ed a us ws × (l + type_height a ≤ B + 1) × Means (next a) ws f
  Means (optional_type l x some none) us f =
      ((a : TypeExpr) × (ws : List Lexeme) × IsType ed a us ws × (l + type_height a ≤ B + 1) × Means (some a) ws f) ⊎ Means none us f
  Means (expr n h l x next) us f = (e : Expression) × (ws : List Lexeme) × IsExpr ed n h e us ws × (l + height e ≤ B + 1) × Means (next e) ws f
  Means (optional_expr h l x some none) us f =
      ((e : Expression) × (ws : List Lexeme) × IsExpr ed 5 h e us ws × (l + height e ≤ B + 1) × Means (some e) ws f) ⊎ Means none us f
  Means (suffixes h l a next) us f = (e : Expression) × (ws : List Lexeme) × Suffixed ed h a e us ws × (l + height e ≤ B + 1) × Means (next e) ws f
  Means (operators n h l a next) us f = (e : Expression) × (ws : List Lexeme) × Joined ed n h a e us ws × (l + height e ≤ B + 1) × Means (next e) ws f
  Means (more_names front next) us f = (ns : List Name) × (ws : List Lexeme) × AreMoreNames ns us ws × Means (next (front ++ ns)) ws f
  Means (more_exprs h l front next) us f =
      (es : List Expression) × (ws : List Lexeme) × AreMoreExprs ed h (pack es) us ws × AllFit height l es × Means (next (front ++ es)) ws f
  Means (list_start k front next) us f =
      (is : List (Item k)) × (c : Lexeme) × (vs ws : List Lexeme) × AreItems (IsItem ed k) (separator k) is us vs × FitItems k is
      × Token (closer k) c vs ws × Means (next (front ++ is) c) ws f
  Means (list_end k x front next) us f =
      (is : List (Item k)) × (c : Lexeme) × (vs ws : List Lexeme) × Behind (separator k) (AreItems (IsItem ed k) (separator k) is) (is ≡ []) us vs
      × FitItems k is × Token (closer k) c vs ws × Means (next (front ++ is) c) ws f
  Means (operands l next) us f =
      (es : List Expression) × (c : Lexeme) × (vs ws : List Lexeme) × AreOperands ed (pack es) us vs × AllFit height l es × Token closing c vs ws × Means (next es c) ws f
  Means (lefts m h l front next alone range) us f =
      ((s : Simple) × (ws : List Lexeme) × Continues ed h front s us ws × (l + simple_height s ≤ B + 1) × (may_define m ≡ false → is_short_var_decl s ≡ false)
      × Means (next s) ws f)
      ⊎ ((e : Expression) × (front ≡ e ∷ []) × (is_header m ≡ true) × IsFirst opening_brace us × Means (alone e) us f)
      ⊎ ((n : Name) × (e : Expression) × (d r : Lexeme) × (vs xs ws : List Lexeme) × (is_for m ≡ true) × (names_if front ≡ Some (n ∷ [])) × Token define d us vs
      × Token (keyword keywords.Range) r vs xs × IsExpr ed 5 h e xs ws × (l + height e ≤ B + 1) × Means (range n e) ws f)
  Means (else_part l p i c b next) us f =
      (r : Else) × (ws : List Lexeme) × IsElse ed r us ws × (l + if_height (conditional p i c b r) ≤ B + 1) × Means (next (conditional p i c b r)) ws f
  Means (clause_start l done p values front next) us f =
      (ss : List Statement) × (cs : List Clause) × (c : Lexeme) × (vs xs ws : List Lexeme) × AreStmts ed (is_last (pack_cases cs)) (pack_statements ss) us vs
      × AreClauses ed (pack_cases cs) vs xs × AllFit stmt_height (l + 1) ss × (l + 1 + clauses_height (pack_cases cs) ≤ B + 1)
      × Token closing_brace c xs ws × Means (next (pack_cases (with_clause done p values (front ++ ss) ++ cs)) c) ws f
  Means (clause_end l x done p values front next) us f =
      (ss : List Statement) × (cs : List Clause) × (c : Lexeme) × (vs xs ws : List Lexeme)
      × Behind semicolon (AreStmts ed (is_last (pack_cases cs)) (pack_statements ss)) ((ss ≡ []) × (is_last (pack_cases cs) ≡ true)) us vs
      × AreClauses ed (pack_cases cs) vs xs × AllFit stmt_height (l + 1) ss × (l + 1 + clauses_height (pack_cases cs) ≤ B + 1)
      × Token closing_brace c xs ws × Means (next (pack_cases (with_clause done p values (front ++ ss) ++ cs)) c) ws f
  Means (import_end p iss) us f =
      (t : Lexeme) × (vs xs : List Lexeme) × (more : List (List ImportSpec)) × (ds : List TopLevel) × Token semicolon t us vs × AreImports more vs xs
      × AreTopLevels ed ds xs [] × AllFit top_height 1 ds × (f ≡ to_file p (concat (iss ++ more)) ds)
  Means (decl_end p is ds) us f =
      (t : Lexeme) × (vs : List Lexeme) × (more : List TopLevel) × Token semicolon t us vs × AreTopLevels ed more vs [] × AllFit top_height 1 more
      × (f ≡ to_file p is (ds ++ more))

  -- a state in which some token may be taken, or the file ended, within the bound
  abbrev pub Can : Reader → Type 0
  Can (token kind need x next) = need ≤ B
  Can (optional kind need some none) = (need ≤ B) ⊎ Can none
  Can (newer kind need x some none) = Can none
  Can (type l x next) = l ≤ B
  Can (optional_type l x some none) = (l ≤ B) ⊎ Can none
  Can (expr n h l x next) = l ≤ B
  Can (optional_expr h l x some none) = (l ≤ B) ⊎ Can none
  Can _ = Unit {0}

  -- what may be behind an expression of n levels of operators: no suffix, and no operator of these
  pub record Ends (n : ℕ) (h : Bool) (next : Expression → Reader) : Type 0 where
    pub no_suffix : (e : Expression) (k : TokenKind) → is_tail h k ≡ true → begins (next e) k ≡ false
    pub no_operator : (e : Expression) (k : TokenKind) (op : BinaryOperator) → binary_of k ≡ Some op → tighter op < n → begins (next e) k ≡ false

  -- what may be behind a type: no name that it selects
  abbrev pub NoPeriod : (TypeExpr → Reader) → Type 0
  NoPeriod next = (a : TypeExpr) → begins (next a) period ≡ false

  abbrev pub NoComma : {A : Type 0} → (A → Reader) → Type 0
  NoComma {A} next = (a : A) → begins (next a) comma ≡ false

  -- what may be behind a simple statement: nothing that continues one or its expressions, nor a block in a header
  abbrev pub EndsSimple : Position → Bool → (Simple → Reader) → Type 0
  EndsSimple m h next =
      (s : Simple) (k : TokenKind) → begins (next s) k ≡ true → (continues k ≡ false) × (is_header m ≡ true → same opening_brace k ≡ false) × Closes h k

  -- A good state: the parts of a state, whatever they make that fits, lead to states that can go on and are good, and none
  -- begins as what is optional in front of it does.
  abbrev pub Okay : Reader → Type 0
  Okay (ended f) = Unit {0}
  Okay (token kind need x next) = (t : Lexeme) → t.kind ≡ kind → need ≤ B → Can (next t) × Okay (next t)
  Okay (package_name next) = (t : Lexeme) → Can (next t) × Okay (next t)
  Okay (import_path x next) = (t : Lexeme) → Can (next t) × Okay (next t)
  Okay (optional kind need some none) =
      ((t : Lexeme) → t.kind ≡ kind → need ≤ B → Can (some t) × Okay (some t)) × Okay none × (begins none kind ≡ false)
  Okay (newer kind need x some none) =
      ((t : Lexeme) → t.kind ≡ kind → need ≤ B → Can (some t) × Okay (some t)) × Okay none × (begins none kind ≡ false)
  Okay (type l x next) = ((a : TypeExpr) → l + type_height a ≤ B + 1 → Can (next a) × Okay (next a)) × NoPeriod next
  Okay (optional_type l x some none) =
      ((a : TypeExpr) → l + type_height a ≤ B + 1 → Can (some a) × Okay (some a)) × NoPeriod some × Okay none
      × ((k : TokenKind) → (begins_type k || is_left_out_at x k) ≡ true → begins none k ≡ false)
  Okay (expr n h l x next) = ((e : Expression) → l + height e ≤ B + 1 → Can (next e) × Okay (next e)) × Ends n h next
  Okay (optional_expr h l x some none) =
      ((e : Expression) → l + height e ≤ B + 1 → Can (some e) × Okay (some e)) × Ends 5 h some × Okay none
      × ((k : TokenKind) → (begins_expr k || is_left_out_at x k) ≡ true → begins none k ≡ false)
  Okay (suffixes h l a next) =
      (l + height a ≤ B + 1) × ((e : Expression) → l + height e ≤ B + 1 → Can (next e) × Okay (next e)) × Ends 0 h next
  Okay (operators n h l a next) =
      (l + height a ≤ B + 1) × ((e : Expression) → l + height e ≤ B + 1 → Can (next e) × Okay (next e)) × Ends (suc n) h next
  Okay (more_names front next) = ((ns : List Name) → Can (next ns) × Okay (next ns)) × NoComma next
  Okay (more_exprs h l front next) =
      (l ≤ B) × AllFit height l front × ((es : List Expression) → AllFit height l es → Can (next es) × Okay (next es)) × NoComma next
      × ((es : List Expression) (k : TokenKind) → begins (next es) k ≡ true → Closes h k)
  Okay (list_start k front next) =
      (item_level k ≤ B + 1) × FitItems k front × ((is : List (Item k)) (c : Lexeme) → FitItems k is → Can (next is c) × Okay (next is c))
  Okay (list_end k x front next) =
      (item_level k ≤ B + 1) × FitItems k front × ((is : List (Item k)) (c : Lexeme) → FitItems k is → Can (next is c) × Okay (next is c))
  Okay (operands l next) =
      (l ≤ B + 1) × ((es : List Expression) (c : Lexeme) → AllFit height l es → Can (next es c) × Okay (next es c))
  Okay (lefts m h l front next alone range) =
      (l ≤ B) × AllFit height l front × (front ≢ []) × ((s : Simple) → l + simple_height s ≤ B + 1 → Can (next s) × Okay (next s)) × EndsSimple m h next
      × (is_header m ≡ true → (e : Expression) → l + height e ≤ B + 1 → Can (alone e) × Okay (alone e))
      × (is_for m ≡ true → (n : Name) → ((e : Expression) → l + height e ≤ B + 1 → Can (range n e) × Okay (range n e)) × Ends 5 h (range n))
  Okay (else_part l p i c b next) =
      (l + 1 ≤ B) × (l + if_height (conditional p i c b no_else) ≤ B + 1)
      × ((r : Else) → l + if_height (conditional p i c b r) ≤ B + 1 → Can (next (conditional p i c b r)) × Okay (next (conditional p i c b r)))
      × ((r : Else) → begins (next (conditional p i c b r)) (keyword keywords.Else) ≡ false)
  Okay (clause_start l done p values front next) =
      (l ≤ B) × (l + 1 + clauses_height (pack_cases (with_clause done p values front)) ≤ B + 1)
      × ((cs : Cases) (c : Lexeme) → l + 1 + clauses_height cs ≤ B + 1 → Can (next cs c) × Okay (next cs c))
  Okay (clause_end l x done p values front next) =
      (l ≤ B) × (l + 1 + clauses_height (pack_cases (with_clause done p values front)) ≤ B + 1)
      × ((cs : Cases) (c : Lexeme) → l + 1 + clauses_height cs ≤ B + 1 → Can (next cs c) × Okay (next cs c))
  Okay (import_end p iss) = 1 ≤ B
  Okay (decl_end p is ds) = 1 ≤ B

  abbrev pub Good : Reader → Type 0
  Good s = Can s × Okay s

  -- what a move leads to
  abbrev pub After : Move → List Lexeme → File → Type 0
  After (Take need s) us f = (need ≤ B) × Means s us f
  After (Fail x) us f = ⊥

  abbrev pub Kept : Move → Type 0
  Kept (Take need s) = need ≤ B → Good s
  Kept (Fail x) = Unit {0}

  -- some tokens lead on from a state to a file
  abbrev pub Comes : Reader → Type 0
  Comes s = (us : List Lexeme) × (f : File) × Means s us f
