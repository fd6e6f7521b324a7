-- What the machine reads as a type or an expression is derived: it is so in a file whose other tokens are taken one by one.
use Rattle.std.proofs.Common.{◌≡◌, ℕ, ◌+◌, ◌≤◌, Bool, true, false, List, [], ◌∷◌, map, Option, Some, None, refl, sym, ap, ◌∙◌, subst, arith}
use Rattle.std.specs.Prelude.{nat_le}
use Rattle.std.proofs.lemmas.Bool.Decides.{nat_tests}
use Rattle.go_text.specs.declared.edition.Edition.{Edition}
use Rattle.go_scan.specs.declared.token.TokenKind.{TokenKind}
use Rattle.go_ast.specs.Kinds.{same}
use Rattle.go_ast.specs.Operators.{binary_of}
use Rattle.go_ast.specs.Expected.{Expected, another}
use Rattle.go_ast.specs.Heights.{height, type_height}
use Rattle.go_ast.specs.Trees.{Name, TypeExpr, Expression, ExpressionList, no_exprs, some_exprs, VarSpec, variables, TopLevel, declared, File}
use Rattle.go_ast.specs.Grammar.{Lexeme, name_of, period, IsType, IsExpr}
use Rattle.go_ast.specs.Machine.{Reader, ended, token, type, expr, Take, Fail, Done, by_level, by_move, cond, run_parser}
use Rattle.go_ast.specs.ReadTrees.{TypeEnds, ExprEnds, is_suffix_start, ReadsTypes, ReadsExprs}
use Rattle.go_ast.proofs.Same.{is_same, are_same, not_same}
use Rattle.go_ast.proofs.Means.{begins, Means, Good, Ends}
use Rattle.go_ast.proofs.Final.{reads}
use Rattle.go_ast.proofs.Theorem.{theory}

-- tokens of these kinds are due, and then the end of the file that is made of them
abbrev taking : List Lexeme → (List Name → File) → Reader
taking [] make = ended (make [])
taking (u ∷ us) make = token u.kind 0 another (λ t. taking us (λ ns. make (name_of t ∷ ns)))

abbrev kind_of : Lexeme → TokenKind
kind_of t = t.kind

taken_all : (f : Edition) (B : ℕ) (us : List Lexeme) (make : List Name → File) → run_parser f B (taking us make) us ≡ Done (make (map name_of us))
unfolding run_parser
taken_all f B [] make = refl
taken_all f B (u ∷ us) make =
    let low : nat_le 0 B ≡ true = grind (arith, nat_tests) in
    ap (λ c. by_move B (λ r. run_parser f B r us) u.kind (u ∷ us) (cond c (Take 0 (taking us (λ ns. make (name_of u ∷ ns)))) (Fail another))) (is_same u.kind u.kind refl)
    ∙ ap (λ c. by_level c (run_parser f B (taking us (λ ns. make (name_of u ∷ ns))) us) (u ∷ us)) low
    ∙ taken_all f B us (λ ns. make (name_of u ∷ ns))

first_kind : (us : List Lexeme) (make : List Name → File) (k : TokenKind) → begins (taking us make) k ≡ true → (t : Lexeme) × (ts : List Lexeme) × (us ≡ t ∷ ts) × (k ≡ t.kind)
first_kind [] make k e = cc
first_kind (u ∷ us) make k e = (u, us, refl, are_same u.kind k e)

module _ (ed : Edition) (B : ℕ) where
  good : (us : List Lexeme) (make : List Name → File) → Good ed B (taking us make)
  good [] make = (tt, tt)
  good (u ∷ us) make = (omega arith, λ t is le. good us (λ ns. make (name_of t ∷ ns)))

  whole : (us : List Lexeme) (make : List Name → File) (ts : List Lexeme) (g : File) → Means ed B (taking us make) ts g
      → (g ≡ make (map name_of ts)) × (map kind_of ts ≡ map kind_of us)
  whole [] make ts g (none, is) = (is ∙ ap (λ xs. make (map name_of xs)) (sym none), ap (λ xs. map kind_of xs) none)
  whole (u ∷ us) make ts g (t, rest, it, le, m) =
      let later = whole us (λ ns. make (name_of t ∷ ns)) rest g m in
      (later.0 ∙ ap (λ xs. make (map name_of xs)) (sym it.whole), ap (λ xs. map kind_of xs) it.whole ∙ ap (λ xs. kind_of t ∷ xs) later.1 ∙ ap (λ k. k ∷ map kind_of us) it.is)

same_lists : (us ws : List Lexeme) → map name_of us ≡ map name_of ws → map kind_of us ≡ map kind_of ws → us ≡ ws
same_lists [] [] p q = refl
same_lists [] (w ∷ ws) p q = cc
same_lists (u ∷ us) [] p q = cc
same_lists (u ∷ us) (w ∷ ws) p q =
    let names : name_of u ≡ name_of w = cc in
    let kinds : u.kind ≡ w.kind = cc in
    let first : u ≡ w = λ i. record { kind = kinds i; text = (names i).text; place = (names i).place } in
    let name_rest : map name_of us ≡ map name_of ws = cc in
    let kind_rest : map kind_of us ≡ map kind_of ws = cc in
    let rest : us ≡ ws = same_lists us ws name_rest kind_rest in
    ap (λ x. x ∷ us) first ∙ ap (λ xs. w ∷ xs) rest

-- ---- a file that has a tree and some names

abbrev nothing : Name
nothing = record { text = []; place = record { line = 0; column = 0 } }

abbrev file_with : Option TypeExpr → ExpressionList → List Name → File
file_with o es ns =
    record {
      «package» = nothing;
      imports = [];
      declarations = declared (variables (record { line = 0; column = 0 }) (record { names = ns; type = o; values = es } ∷ [])) ∷ [];
    }

abbrev spec_in : List TopLevel → Option VarSpec
spec_in (declared (variables p (s ∷ ss)) ∷ ds) = Some s
spec_in ds = None

same_some : (s t : VarSpec) → Some s ≡ Some t → s ≡ t
same_some s t e = cc

same_spec : (o q : Option TypeExpr) (es fs : ExpressionList) (ns ms : List Name) → file_with o es ns ≡ file_with q fs ms → (o ≡ q) × (es ≡ fs) × (ns ≡ ms)
same_spec o q es fs ns ms e =
    let one = same_some (record { names = ns; type = o; values = es }) (record { names = ms; type = q; values = fs }) (ap (λ f. spec_in f.declarations) e) in
    (ap (λ s. s.type) one, ap (λ s. s.values) one, ap (λ s. s.names) one)

-- ---- types and expressions

type_ends : (ws : List Lexeme) (make : List Name → File) → TypeEnds ws → begins (taking ws make) period ≡ false
type_ends [] make other = refl
type_ends (w ∷ ws) make other = not_same w.kind period (λ e. other (sym e))

pub types_read : (e : Edition) (B l : ℕ) (x : Expected) → l ≤ B → ReadsTypes e B l x
types_read e B l x le f a us ws other read =
    let make : TypeExpr → List Name → File = λ b. file_with (Some b) no_exprs in
    let next : TypeExpr → Reader = λ b. taking ws (make b) in
    let done : run_parser e B (type l x next) us ≡ Done (make a (map name_of ws)) = read next ∙ taken_all f B ws (make a) in
    let start : Good e B (type l x next) = (le, ((λ b fits. good e B ws (make b)), (λ b. type_ends ws (make b) other))) in
    let m : Means e B (type l x next) us (make a (map name_of ws)) = reads e B (theory e B) us (type l x next) (make a (map name_of ws)) start done in
    let behind = whole e B ws (make m.0) m.1 (make a (map name_of ws)) m.4 in
    let same = same_spec (Some a) (Some m.0) no_exprs no_exprs (map name_of ws) (map name_of m.1) behind.0 in
    let tree : m.0 ≡ a = (let it : Some a ≡ Some m.0 = same.0 in cc) in
    let rest : m.1 ≡ ws = same_lists m.1 ws (sym same.2) behind.1 in
    (subst (λ b. IsType e b us ws) tree (subst (λ vs. IsType e m.0 us vs) rest m.2), subst (λ b. l + type_height b ≤ B + 1) tree m.3)

expr_ends : (B : ℕ) (ed : Edition) (h : Bool) (ws : List Lexeme) (make : Expression → List Name → File) → ExprEnds h ws → Ends ed B 5 h (λ b. taking ws (make b))
expr_ends B ed h [] make other = record { no_suffix = λ b k s. refl; no_operator = λ b k op s lt. refl }
expr_ends B ed h (w ∷ ws) make other =
    record {
      no_suffix = λ b k s. not_same w.kind k (λ is. (let wrong : true ≡ false = sym s ∙ ap (is_suffix_start h) is ∙ other.0 in cc));
      no_operator = λ b k op s lt. not_same w.kind k (λ is. (let wrong : Some op ≡ None = sym s ∙ ap binary_of is ∙ other.1 in cc));
    }

pub exprs_read : (e : Edition) (B : ℕ) (h : Bool) (l : ℕ) (x : Expected) → l ≤ B → ReadsExprs e B h l x
exprs_read e B h l x le f a us ws other read =
    let make : Expression → List Name → File = λ b. file_with None (some_exprs b no_exprs) in
    let next : Expression → Reader = λ b. taking ws (make b) in
    let done : run_parser e B (expr 5 h l x next) us ≡ Done (make a (map name_of ws)) = read next ∙ taken_all f B ws (make a) in
    let start : Good e B (expr 5 h l x next) = (le, ((λ b fits. good e B ws (make b)), expr_ends B e h ws make other)) in
    let m : Means e B (expr 5 h l x next) us (make a (map name_of ws)) = reads e B (theory e B) us (expr 5 h l x next) (make a (map name_of ws)) start done in
    let behind = whole e B ws (make m.0) m.1 (make a (map name_of ws)) m.4 in
    let same = same_spec None None (some_exprs a no_exprs) (some_exprs m.0 no_exprs) (map name_of ws) (map name_of m.1) behind.0 in
    let tree : m.0 ≡ a = (let it : some_exprs a no_exprs ≡ some_exprs m.0 no_exprs = same.1 in cc) in
    let rest : m.1 ≡ ws = same_lists m.1 ws (sym same.2) behind.1 in
    (subst (λ b. IsExpr e 5 h b us ws) tree (subst (λ vs. IsExpr e 5 h m.0 us vs) rest m.2), subst (λ b. l + height b ≤ B + 1) tree m.3)
