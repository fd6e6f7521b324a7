-- The names that a file declares stand at tokens of their own, one behind another.
use Rattle.std.proofs.Common.{◌≡◌, ℕ, suc, ◌≤◌, ◌<◌, inl, inr, Bool, true, false, List, [], ◌∷◌, ◌++◌, append-nil, length, Option, Some, None, refl, sym, ap, ◌∙◌, subst, arith}
use Rattle.std.specs.List.{flat_map}
use Rattle.go_text.specs.declared.edition.Edition.{Edition}
use Rattle.go_text.specs.declared.place.Place.{Place}
use Rattle.go_text.specs.Places.{place_at}
use Rattle.go_scan.specs.declared.token.TokenKind.TheVariants as kinds
use Rattle.go_ast.specs.Trees.{Name, TypeExpr, Expression, ExpressionList, Simple, ConstSpec, VarSpec, TypeSpec, Decl, constants, variables, types, Statement, empty, declaration, simple, return, break, continue, fallthrough, block_statement, if_statement, for_statement, range_statement, switch_statement, Block, block, If, conditional, Else, no_else, else_block, else_if, StatementList, no_stmts, some_stmts, Cases, no_clauses, clause, Parameter, FunctionDecl, TopLevel, declared, function, ImportSpec, File}
use Rattle.go_ast.specs.Grammar.{Lexeme, Token, AreItems, AreMoreNames, AreNames, IsType, IsConstSpec, IsVarSpec, IsTypeSpec, IsGroup, IsDecl, IsStart, IsForHead, IsRangeName, IsCase, is_last, IsStmt, IsBlock, IsIf, IsElse, AreStmts, AreClauses, IsParameter, AreResults, IsFunction, IsImportSpec, AreImports, AreTopLevels, IsFile}
use Rattle.go_ast.specs.Grammar as grammar
use Rattle.go_package_laws.proofs.Completeness.Places.{Rises, rises_from}
use Rattle.go_package_laws.proofs.Completeness.Rests.{Rest, none, token, next, items_rest, names_rest, type_rest, expr_rest, exprs_rest, maybe_type, maybe_expr, values_rest, simple_rest, maybe_simple}

-- names stand at some of the tokens up to a rest of them, one behind another
abbrev Spread : List Name → List Lexeme → List Lexeme → Type 0
Spread [] us ws = Rest us ws
Spread (n ∷ ns) us ws = (t : Lexeme) × (vs xs : List Lexeme) × Rest us vs × Token kinds.Name t vs xs × (n.place ≡ t.place) × Spread ns xs ws

spread_front : (ns : List Name) (us vs ws : List Lexeme) → Rest us vs → Spread ns vs ws → Spread ns us ws
spread_front [] us vs ws r h = next r h
spread_front (n ∷ ns) us vs ws r (t, xs, ys, front, is, place, rest) = (t, xs, ys, next r front, is, place, rest)

spread_rest : (ns : List Name) (us ws : List Lexeme) → Spread ns us ws → Rest us ws
spread_rest [] us ws h = h
spread_rest (n ∷ ns) us ws (t, vs, xs, front, is, place, rest) = next front (next (token is) (spread_rest ns xs ws rest))

spread_both : (ns ms : List Name) (us vs ws : List Lexeme) → Spread ns us vs → Spread ms vs ws → Spread (ns ++ ms) us ws
spread_both [] ms us vs ws h k = spread_front ms us vs ws h k
spread_both (n ∷ ns) ms us vs ws (t, xs, ys, front, is, place, rest) k = (t, xs, ys, front, is, place, spread_both ns ms ys vs ws rest k)

spread_back : (ns : List Name) (us vs ws : List Lexeme) → Spread ns us vs → Rest vs ws → Spread ns us ws
spread_back ns us vs ws h r = subst (λ (l : List Name). Spread l us ws) (append-nil ns) (spread_both ns [] us vs ws h r)

-- ---- declarations

more_names_spread : (ns : List Name) (us ws : List Lexeme) → AreMoreNames ns us ws → Spread ns us ws
more_names_spread [] us ws h = none h
more_names_spread (n ∷ ns) us ws (c, t, vs, xs, comma, is, named, more) = (t, vs, xs, token comma, is, ap (λ (m : Name). m.place) named, more_names_spread ns xs ws more)

names_spread : (ns : List Name) (us ws : List Lexeme) → AreNames ns us ws → Spread ns us ws
names_spread [] us ws h = absurd h
names_spread (n ∷ ns) us ws (t, vs, is, named, more) = (t, us, vs, none refl, is, ap (λ (m : Name). m.place) named, more_names_spread ns vs ws more)

items_spread : {A : Type 0} (Is : A → List Lexeme → List Lexeme → Type 0) (names : A → List Name) → ((s : A) (us ws : List Lexeme) → Is s us ws → Spread (names s) us ws) → (xs : List A) (us ws : List Lexeme)
    → AreItems Is grammar.semicolon xs us ws → Spread (flat_map names xs) us ws
items_spread Is names each [] us ws h = none h
items_spread Is names each (x ∷ xs) us ws (vs, is, behind) = spread_both (names x) (flat_map names xs) us vs ws (each x us vs is) (elim behind [
  | inl h ↦ spread_front (flat_map names xs) vs h.1 ws (token h.2) (items_spread Is names each xs h.1 ws h.3)
  | inr h ↦ subst (λ l. Spread (flat_map names l) vs ws) (sym h.0) (none h.1)
])

group_spread : {A : Type 0} (Is : A → List Lexeme → List Lexeme → Type 0) (names : A → List Name) → ((s : A) (us ws : List Lexeme) → Is s us ws → Spread (names s) us ws) → (xs : List A) (us ws : List Lexeme)
    → IsGroup Is xs us ws → Spread (flat_map names xs) us ws
group_spread Is names each xs us ws (inl (s, only, is)) =
    subst (λ l. Spread (flat_map names l) us ws) (sym only) (subst (λ (l : List Name). Spread l us ws) (sym (append-nil (names s))) (each s us ws is))
group_spread Is names each xs us ws (inr (o, c, vs, ys, opens, items, closes)) =
    spread_front (flat_map names xs) us vs ws (token opens) (spread_back (flat_map names xs) vs ys ws (items_spread Is names each xs vs ys items) (token closes))

abbrev pub decl_names : Decl → List Name
decl_names (constants p ss) = flat_map (λ (s : ConstSpec). s.names) ss
decl_names (variables p ss) = flat_map (λ (s : VarSpec). s.names) ss
decl_names (types p ss) = flat_map (λ (s : TypeSpec). s.name ∷ []) ss

abbrev pub top_names : TopLevel → List Name
top_names (declared d) = decl_names d
top_names (function f) = f.name ∷ []

range_rest : (n : Option Name) (us ws : List Lexeme) → IsRangeName n us ws → Rest us ws
range_rest None us ws h = none h
range_rest (Some n) us ws (t, d, vs, is, named, last) = next (token is) (token last)

import_rest : (i : ImportSpec) (us ws : List Lexeme) → IsImportSpec i us ws → Rest us ws
import_rest i us ws (n, t, vs, front, is, value, path, place) =
    let first : Rest us vs = elim front [ inl h ↦ none h.1 | inr h ↦ token h.1 ] in
    next first (token is)

import_group : (specs : List ImportSpec) (us ws : List Lexeme) → IsGroup IsImportSpec specs us ws → Rest us ws
import_group specs us ws (inl (s, only, h)) = import_rest s us ws h
import_group specs us ws (inr (o, c, ys, zs, opens, items, closes)) = next (token opens) (next (items_rest IsImportSpec import_rest grammar.semicolon specs ys zs items) (token closes))

imports_rest : (iss : List (List ImportSpec)) (us ws : List Lexeme) → AreImports iss us ws → Rest us ws
imports_rest [] us ws h = none h
imports_rest (specs ∷ iss) us ws (k, t, vs, xs, ys, first, group, last, rest) = next (token first) (next (import_group specs vs xs group) (next (token last) (imports_rest iss ys ws rest)))

module _ (ed : Edition) where
  constant_spread : (s : ConstSpec) (us ws : List Lexeme) → IsConstSpec ed s us ws → Spread s.names us ws
  constant_spread s us ws (vs, names, rest) = spread_back s.names us vs ws (names_spread s.names us vs names) (elim rest [
    | inl h ↦ none h.2
    | inr h ↦ next (maybe_type ed s.type vs h.0 h.1) (values_rest ed s.values h.0 ws h.2)
  ])

  variable_spread : (s : VarSpec) (us ws : List Lexeme) → IsVarSpec ed s us ws → Spread s.names us ws
  variable_spread s us ws (vs, names, rest) = spread_back s.names us vs ws (names_spread s.names us vs names) (elim rest [
    | inl h ↦ type_rest ed h.0 vs ws h.3
    | inr h ↦ next (maybe_type ed s.type vs h.0 h.1) (values_rest ed s.values h.0 ws h.2)
  ])

  type_spread : (s : TypeSpec) (us ws : List Lexeme) → IsTypeSpec ed s us ws → Spread (s.name ∷ []) us ws
  type_spread s us ws (t, vs, is, named, of) = (t, us, vs, none refl, is, ap (λ (m : Name). m.place) named, type_rest ed s.type vs ws of)

  decl_spread : (d : Decl) (us ws : List Lexeme) → IsDecl ed d us ws → Spread (decl_names d) us ws
  decl_spread (constants p ss) us ws (k, vs, is, place, group) = spread_front (decl_names (constants p ss)) us vs ws (token is) (group_spread (IsConstSpec ed) (λ (s : ConstSpec). s.names) constant_spread ss vs ws group)
  decl_spread (variables p ss) us ws (k, vs, is, place, group) = spread_front (decl_names (variables p ss)) us vs ws (token is) (group_spread (IsVarSpec ed) (λ (s : VarSpec). s.names) variable_spread ss vs ws group)
  decl_spread (types p ss) us ws (k, vs, is, place, group) = spread_front (decl_names (types p ss)) us vs ws (token is) (group_spread (IsTypeSpec ed) (λ (s : TypeSpec). s.name ∷ []) type_spread ss vs ws group)

  -- ---- statements

  start_rest : (s : Option Simple) (us ws : List Lexeme) → IsStart ed s us ws → Rest us ws
  start_rest None us ws (inl same) = none same
  start_rest None us ws (inr (t, is)) = token is
  start_rest (Some s) us ws (t, vs, is, last) = next (simple_rest ed true s us vs is) (token last)

  head_rest : (i : Option Simple) (c : Option Expression) (n : Option Simple) (us ws : List Lexeme) → IsForHead ed i c n us ws → Rest us ws
  head_rest i c n us ws (inl (first, last, is)) = maybe_expr ed c us ws is
  head_rest i c n us ws (inr (t, r, vs, xs, ys, zs, first, semi, is, again, last, new)) =
      next (maybe_simple ed i us vs first) (next (token semi) (next (maybe_expr ed c xs ys is) (next (token again) (maybe_simple ed n zs ws last))))

  case_rest : (p : Place) (es : Option ExpressionList) (us ws : List Lexeme) → IsCase ed p es us ws → Rest us ws
  case_rest p None us ws (t, is, place) = token is
  case_rest p (Some es) us ws (t, vs, is, place, values) = next (token is) (exprs_rest ed false es vs ws values)

  mutual
    stmt_rest : (s : Statement) (us ws : List Lexeme) → IsStmt ed s us ws → Rest us ws
    stmt_rest (empty p) us ws (t, vs, is, place, same) = none same
    stmt_rest (declaration p d) us ws (is, place, local) = spread_rest (decl_names d) us ws (decl_spread d us ws is)
    stmt_rest (simple p s) us ws (is, place) = simple_rest ed false s us ws is
    stmt_rest (return p es) us ws (t, vs, is, place, values) = next (token is) (elim values [ inl h ↦ none h.1 | inr h ↦ exprs_rest ed false es vs ws h ])
    stmt_rest (break p) us ws (t, is, place) = token is
    stmt_rest (continue p) us ws (t, is, place) = token is
    stmt_rest (fallthrough p) us ws (t, is, place) = token is
    stmt_rest (block_statement b) us ws h = block_rest b us ws h
    stmt_rest (if_statement i) us ws h = if_rest i us ws h
    stmt_rest (for_statement p i c n b) us ws (t, vs, xs, is, place, head, body) = next (token is) (next (head_rest i c n vs xs head) (block_rest b xs ws body))
    stmt_rest (range_statement p n e b) us ws (t, r, vs, xs, ys, zs, is, place, named, range, of, body) =
        next (token is) (next (range_rest n vs xs named) (next (token range) (next (expr_rest ed 5 true e ys zs of) (block_rest b zs ws body))))
    stmt_rest (switch_statement p i t cs) us ws (k, o, c, vs, xs, ys, zs, last, is, place, start, tag, opens, clauses, closes) =
        next (token is) (next (start_rest i vs xs start) (next (maybe_expr ed t xs ys tag) (next (token opens) (next (clauses_rest cs zs last clauses) (token closes)))))

    block_rest : (b : Block) (us ws : List Lexeme) → IsBlock ed b us ws → Rest us ws
    block_rest (block p ss q) us ws (o, c, vs, xs, opens, place, stmts, closes, end) = next (token opens) (next (stmts_rest true ss vs xs stmts) (token closes))

    if_rest : (i : If) (us ws : List Lexeme) → IsIf ed i us ws → Rest us ws
    if_rest (conditional p i e b r) us ws (t, vs, xs, ys, zs, is, place, start, of, body, other) =
        next (token is) (next (start_rest i vs xs start) (next (expr_rest ed 5 true e xs ys of) (next (block_rest b ys zs body) (else_rest r zs ws other))))

    else_rest : (r : Else) (us ws : List Lexeme) → IsElse ed r us ws → Rest us ws
    else_rest no_else us ws h = none h
    else_rest (else_block b) us ws (t, vs, is, body) = next (token is) (block_rest b vs ws body)
    else_rest (else_if i) us ws (t, vs, is, other) = next (token is) (if_rest i vs ws other)

    stmts_rest : (closed : Bool) (ss : StatementList) (us ws : List Lexeme) → AreStmts ed closed ss us ws → Rest us ws
    stmts_rest closed no_stmts us ws h = none h
    stmts_rest closed (some_stmts s ss) us ws (vs, is, behind) = next (stmt_rest s us vs is) (elim behind [
      | inl h ↦ next (token h.2) (stmts_rest closed ss h.1 ws h.3)
      | inr h ↦ none h.1
    ])

    clauses_rest : (cs : Cases) (us ws : List Lexeme) → AreClauses ed cs us ws → Rest us ws
    clauses_rest no_clauses us ws h = none h
    clauses_rest (clause p es ss cs) us ws (t, vs, xs, ys, values, colon, stmts, rest) =
        next (case_rest p es us vs values) (next (token colon) (next (stmts_rest (is_last cs) ss xs ys stmts) (clauses_rest cs ys ws rest)))

  -- ---- files

  parameter_rest : (p : Parameter) (us ws : List Lexeme) → IsParameter ed p us ws → Rest us ws
  parameter_rest p us ws (vs, names, is) = next (names_rest p.names us vs names) (type_rest ed p.type vs ws is)

  results_rest : (rs : List TypeExpr) (us ws : List Lexeme) → AreResults ed rs us ws → Rest us ws
  results_rest rs us ws (inl (empty_list, same)) = none same
  results_rest rs us ws (inr (inl (a, only, is))) = type_rest ed a us ws is
  results_rest rs us ws (inr (inr (o, c, vs, xs, opens, items, closes))) = next (token opens) (next (items_rest (IsType ed) (type_rest ed) grammar.comma rs vs xs items) (token closes))

  function_spread : (f : FunctionDecl) (us ws : List Lexeme) → IsFunction ed f us ws → Spread (f.name ∷ []) us ws
  function_spread f us ws (k, t, o, c, vs, xs, ys, zs, end, behind, is, place, named, name, opens, parameters, closes, results, body) = (
    t,
    vs,
    xs,
    token is,
    named,
    ap (λ (m : Name). m.place) name,
    next (token opens) (next (items_rest (IsParameter ed) parameter_rest grammar.comma f.parameters ys zs parameters) (next (token closes) (next (results_rest f.results end behind results) (block_rest f.body behind ws body)))),
  )

  tops_spread : (ts : List TopLevel) (us ws : List Lexeme) → AreTopLevels ed ts us ws → Spread (flat_map top_names ts) us ws
  tops_spread [] us ws h = none h
  tops_spread (declared d ∷ ts) us ws (t, vs, xs, is, last, rest) =
      spread_both (decl_names d) (flat_map top_names ts) us vs ws (decl_spread d us vs is) (spread_front (flat_map top_names ts) vs xs ws (token last) (tops_spread ts xs ws rest))
  tops_spread (function f ∷ ts) us ws (t, vs, xs, is, last, rest) =
      spread_both (f.name ∷ []) (flat_map top_names ts) us vs ws (function_spread f us vs is) (spread_front (flat_map top_names ts) vs xs ws (token last) (tops_spread ts xs ws rest))

  file_spread : (f : File) (ts : List Lexeme) → IsFile ed f ts → Spread (flat_map top_names f.declarations) ts []
  file_spread f ts (k, t, s, vs, xs, ys, zs, iss, is, name, full, named, semicolon, imports, all, tops) =
      spread_front (flat_map top_names f.declarations) ts zs [] (next (token is) (next (token name) (next (token semicolon) (imports_rest iss ys zs imports)))) (tops_spread f.declarations zs [] tops)

-- ---- places

-- names stand at bytes of a text, each behind those before it
abbrev pub Placed : List ℕ → ℕ → List Name → Type 0
Placed text at [] = Unit {0}
Placed text at (n ∷ ns) = (k : ℕ) × (at ≤ k) × (k < length text) × (n.place ≡ place_at text k) × Placed text (suc k) ns

rest_rises : (text : List ℕ) (at : ℕ) (front ws : List Lexeme) → Rises text at (front ++ ws) → Rises text at ws
rest_rises text at [] ws h = h
rest_rises text at (t ∷ ts) ws (inl h) = rest_rises text at ts ws h.1
rest_rises text at (t ∷ ts) ws (inr (k, le, within, place, rest)) = rises_from text at (suc k) ws (omega (arith, le)) (rest_rises text (suc k) ts ws rest)

one_placed : (text : List ℕ) (at : ℕ) (t : Lexeme) (ts : List Lexeme) → t.kind ≡ kinds.Name → Rises text at (t ∷ ts) → (k : ℕ) × (at ≤ k) × (k < length text) × (t.place ≡ place_at text k) × Rises text (suc k) ts
one_placed text at t ts is (inl h) = absurd (h.0 is)
one_placed text at t ts is (inr h) = h

spread_placed : (text : List ℕ) (at : ℕ) (ns : List Name) (us ws : List Lexeme) → Spread ns us ws → Rises text at us → Placed text at ns
spread_placed text at [] us ws h r = tt
spread_placed text at (n ∷ ns) us ws (t, vs, xs, front, is, place, rest) r =
    let behind = rest_rises text at front.front vs (subst (Rises text at) front.whole r) in
    let k = one_placed text at t xs is.is (subst (Rises text at) is.whole behind) in
    (k.0, k.1, k.2, place ∙ k.3, spread_placed text (suc k.0) ns xs ws rest k.4)

pub file_placed : (ed : Edition) (text : List ℕ) (at : ℕ) (f : File) (ts : List Lexeme) → IsFile ed f ts → Rises text at ts → Placed text at (flat_map top_names f.declarations)
file_placed ed text at f ts is r = spread_placed text at (flat_map top_names f.declarations) ts [] (file_spread ed f ts is) r
