-- How operators between operands go on, the tightest first.
use Rattle.std.proofs.Common.{◌≡◌, ℕ, zero, suc, ◌+◌, ◌-◌, ◌≤◌, ◌<◌, Bool, true, false, ◌&&◌, List, [], ◌∷◌, Option, Some, None, refl, sym, ap, ◌∙◌, subst, arith}
use Rattle.std.specs.Prelude.{nat_eq, nat_le, nat_lt}
use Rattle.std.proofs.lemmas.Bool.{eqb-true, eqb-false, eq-eqb, leb-true, le-leb}
use Rattle.go_text.specs.declared.edition.Edition.{Edition}
use Rattle.go_ast.specs.Expected.{Expected, an_operand, another}
use Rattle.go_ast.specs.Operators.{binary_of, tighter}
use Rattle.go_ast.specs.Trees.{Expression, binary, place_of}
use Rattle.go_ast.specs.declared.expression.BinaryOperator.{BinaryOperator}
use Rattle.go_ast.specs.Heights.{height}
use Rattle.go_ast.specs.Grammar.{Lexeme}
use Rattle.go_ast.specs.Machine.{Reader, Move, Take, Fail, token, expr, operators, on_operator, parser_step, cond, run_parser, tails}
use Rattle.go_pexpr.specs.Reads.{First}
use Rattle.go_pexpr.specs.Next.{some_if, of_levels, operator_at}
use Rattle.go_pexpr.proofs.Steps.{Kind, same_step, same_end, chosen}
use Rattle.go_pexpr.proofs.Turns.{splits, kind_at}

-- the operator between two operands
abbrev operator_of : List Lexeme → Option BinaryOperator
operator_of [] = None
operator_of (t ∷ ts) = binary_of t.kind

-- operators of so many levels may follow, from one level on
abbrev pub followed : (m c : ℕ) (h : Bool) (l : ℕ) (next : Expression → Reader) → Expression → Reader
followed m zero h l next e = next e
followed m (suc c) h l next e = operators m h l e (λ a. followed (suc m) c h l next a)

-- behind an expression of some levels those of the looser ones may follow
splits_from : (ed : Edition) → (m c n : ℕ) (h : Bool) (l : ℕ) (x : Expected) (next : Expression → Reader) (ts : List Lexeme) → m + c ≡ n →
    run_parser ed 250 (expr m h l x (λ a. followed m c h l next a)) ts ≡ run_parser ed 250 (expr 0 h l x (λ a. followed 0 n h l next a)) ts
splits_from ed zero c n h l x next ts e =
    let all : c ≡ n = omega (arith, e) in
    ap (λ j. run_parser ed 250 (expr 0 h l x (λ a. followed 0 j h l next a)) ts) all
splits_from ed (suc m) c n h l x next ts e =
    let rest : m + suc c ≡ n = omega (arith, e) in
    splits ed m h l x (λ a. followed (suc m) c h l next a) ts ∙ splits_from ed m (suc c) n h l x next ts rest

pub splits_all : (ed : Edition) → (n : ℕ) (h : Bool) (l : ℕ) (x : Expected) (next : Expression → Reader) (ts : List Lexeme) →
    run_parser ed 250 (expr n h l x next) ts ≡ run_parser ed 250 (expr 0 h l x (λ a. followed 0 (n - 0) h l next a)) ts
splits_all ed n h l x next ts =
    let e : n + 0 ≡ n - 0 = omega arith in
    splits_from ed n 0 (n - 0) h l x next ts e

tails_from : (m c n : ℕ) (h : Bool) (l : ℕ) (next : Expression → Reader) (e : Expression) → m + c ≡ n → tails m h l (λ a. followed m c h l next a) e ≡ followed 0 n h l next e
tails_from zero c n h l next e q =
    let all : c ≡ n = omega (arith, q) in
    ap (λ j. followed 0 j h l next e) all
tails_from (suc m) c n h l next e q =
    let rest : m + suc c ≡ n = omega (arith, q) in
    tails_from m (suc c) n h l next e rest

-- the operators that may follow are those of all these levels
pub tails_all : (n : ℕ) (h : Bool) (l : ℕ) (next : Expression → Reader) (e : Expression) → tails n h l next e ≡ followed 0 (n - 0) h l next e
tails_all n h l next e =
    let q : n + 0 ≡ n - 0 = omega arith in
    tails_from n 0 (n - 0) h l next e q

-- one level

not_eqb : (a b : ℕ) → (a ≡ b → ⊥) → nat_eq a b ≡ false
not_eqb a b never = by_test (nat_eq a b) refl
  where
    by_test : (c : Bool) → nat_eq a b ≡ c → nat_eq a b ≡ false
    by_test true e = absurd (never (eqb-true a b e))
    by_test false e = e

abbrev taken : ℕ → Bool → ℕ → Expression → (Expression → Reader) → BinaryOperator → Move
taken n h l a behind op = Take (l + height a) (expr n h (l + 1) an_operand (λ r. behind (binary (place_of a) op a r)))

level_takes : (ed : Edition) → (n : ℕ) (h : Bool) (l : ℕ) (a : Expression) (next : Expression → Reader) (t : Lexeme) (ts : List Lexeme) (op : BinaryOperator) → binary_of t.kind ≡ Some op → tighter op ≡ n →
    run_parser ed 250 (operators n h l a next) (t ∷ ts) ≡ run_parser ed 250 (token t.kind (l + height a) another (λ _. expr n h (l + 1) an_operand (λ r. operators n h l (binary (place_of a) op a r) next))) (t ∷ ts)
level_takes ed n h l a next t ts op q e =
    let behind = λ (r : Expression). operators n h l r next in
    same_step ed (operators n h l a next) (token t.kind (l + height a) another (λ _. expr n h (l + 1) an_operand (λ r. behind (binary (place_of a) op a r)))) t ts (
    ap (on_operator n h l a behind (parser_step ed (next a) t)) q
    ∙ ap (λ b. cond b (taken n h l a behind op) (parser_step ed (next a) t)) (eq-eqb (tighter op) n e)
    ∙ sym (chosen t.kind t (taken n h l a behind op) (Fail another) refl))

by_operator : (n : ℕ) (h : Bool) (l : ℕ) (a : Expression) (behind : Expression → Reader) (other : Move) (o : Option BinaryOperator) → ((op : BinaryOperator) → o ≡ Some op → tighter op ≡ n → ⊥) → on_operator n h l a behind other o ≡ other
by_operator n h l a behind other None never = refl
by_operator n h l a behind other (Some op) never = ap (λ b. cond b (taken n h l a behind op) other) (not_eqb (tighter op) n (never op refl))

level_ends : (ed : Edition) → (n : ℕ) (h : Bool) (l : ℕ) (a : Expression) (next : Expression → Reader) (ts : List Lexeme) → ((op : BinaryOperator) → operator_of ts ≡ Some op → tighter op ≡ n → ⊥) → run_parser ed 250 (operators n h l a next) ts ≡ run_parser ed 250 (next a) ts
level_ends ed n h l a next [] never = same_end ed (operators n h l a next) (next a) refl
level_ends ed n h l a next (t ∷ ts) never = same_step ed (operators n h l a next) (next a) t ts (by_operator n h l a (λ r. operators n h l r next) (parser_step ed (next a) t) (binary_of t.kind) never)

-- which operator is next

both_some : (x op : BinaryOperator) (m n : ℕ) (a b : Bool) → nat_le m (tighter x) ≡ a → nat_lt (tighter x) n ≡ b → some_if (a && b) x ≡ Some op → (x ≡ op) × (m ≤ tighter x) × (tighter x < n)
both_some x op m n true true e f q = (cc (q), leb-true m (tighter x) e, leb-true (suc (tighter x)) n f)
both_some x op m n true false e f q = cc (q)
both_some x op m n false b e f q = cc (q)

pub levels_some : (m n : ℕ) (o : Option BinaryOperator) (op : BinaryOperator) → of_levels m n o ≡ Some op → (o ≡ Some op) × (m ≤ tighter op) × (tighter op < n)
levels_some m n None op q = cc (q)
levels_some m n (Some x) op q =
    let r = both_some x op m n (nat_le m (tighter x)) (nat_lt (tighter x) n) refl refl q in
    (ap Some r.0, subst (λ y. m ≤ tighter y) r.0 r.1, subst (λ y. tighter y < n) r.0 r.2)

neither_none : (x : BinaryOperator) (a b : Bool) → a ≡ true → b ≡ true → some_if (a && b) x ≡ None → ⊥
neither_none x true true e f q = cc (q)
neither_none x true false e f q = cc (f)
neither_none x false b e f q = cc (e)

levels_none : (m n : ℕ) (o : Option BinaryOperator) → of_levels m n o ≡ None → (op : BinaryOperator) → o ≡ Some op → m ≤ tighter op → tighter op < n → ⊥
levels_none m n None q op e le lt = cc (e)
levels_none m n (Some x) q op e le lt =
    let same : x ≡ op = cc (e) in
    neither_none x (nat_le m (tighter x)) (nat_lt (tighter x) n) (le-leb m (tighter x) (subst (λ y. m ≤ tighter y) (sym same) le))
    (le-leb (suc (tighter x)) n (subst (λ y. tighter y < n) (sym same) lt)) q

-- some levels

due_at : (ed : Edition) → (i m j c : ℕ) (h : Bool) (l : ℕ) (a : Expression) (next : Expression → Reader) (t : Lexeme) (ts : List Lexeme) (op : BinaryOperator) → binary_of t.kind ≡ Some op → tighter op ≡ j → m ≤ j → i + m ≡ j + suc c →
    run_parser ed 250 (followed m i h l next a) (t ∷ ts) ≡ run_parser ed 250 (token t.kind (l + height a) another (λ _. expr j h (l + 1) an_operand (λ r. followed j (suc c) h l next (binary (place_of a) op a r)))) (t ∷ ts)
due_at ed zero m j c h l a next t ts op q e le all = absurd (omega (arith, le, all))
due_at ed (suc i) m j c h l a next t ts op q e le all = by_test (λ more rest. due_at ed i (suc m) j c h l a next t ts op q e more rest) (nat_eq m j) refl
  where
    due : Reader
    due = token t.kind (l + height a) another (λ _. expr j h (l + 1) an_operand (λ r. followed j (suc c) h l next (binary (place_of a) op a r)))

    by_test : (suc m ≤ j → i + suc m ≡ j + suc c → run_parser ed 250 (followed (suc m) i h l next a) (t ∷ ts) ≡ run_parser ed 250 due (t ∷ ts)) → (b : Bool) → nat_eq m j ≡ b → run_parser ed 250 (followed m (suc i) h l next a) (t ∷ ts) ≡ run_parser ed 250 due (t ∷ ts)
    by_test again true f =
        let here : m ≡ j = eqb-true m j f in
        let over : suc i ≡ suc c = omega (arith, here, all) in
        level_takes ed m h l a (λ r. followed (suc m) i h l next r) t ts op q (e ∙ sym here)
        ∙ ap (λ k. run_parser ed 250 (token t.kind (l + height a) another (λ _. expr k h (l + 1) an_operand (λ r. followed k (suc i) h l next (binary (place_of a) op a r)))) (t ∷ ts)) here
        ∙ ap (λ k. run_parser ed 250 (token t.kind (l + height a) another (λ _. expr j h (l + 1) an_operand (λ r. followed j k h l next (binary (place_of a) op a r)))) (t ∷ ts)) over
    by_test again false f =
        let other : m ≡ j → ⊥ = eqb-false m j f in
        let more : suc m ≤ j = omega (arith, le, other) in
        let rest : i + suc m ≡ j + suc c = omega (arith, all) in
        level_ends ed m h l a (λ r. followed (suc m) i h l next r) (t ∷ ts) (λ x p k. let same : x ≡ op = cc (p, q) in other (sym k ∙ ap tighter same ∙ e))
        ∙ again more rest

ends_at : (ed : Edition) → (c m : ℕ) (h : Bool) (l : ℕ) (a : Expression) (next : Expression → Reader) (ts : List Lexeme) → ((op : BinaryOperator) → operator_of ts ≡ Some op → m ≤ tighter op → tighter op < c + m → ⊥) → run_parser ed 250 (followed m c h l next a) ts ≡ run_parser ed 250 (next a) ts
ends_at ed zero m h l a next ts never = refl
ends_at ed (suc c) m h l a next ts never =
    level_ends ed m h l a (λ r. followed (suc m) c h l next r) ts (λ op p i. never op p (omega (arith, i)) (omega (arith, i)))
    ∙ ends_at ed c (suc m) h l a next ts (λ op p le lt. never op p (omega (arith, le)) (omega (arith, lt)))

-- the operator of a level from one on and below another is due, or none of them follows

pub operator_first : (m n : ℕ) (ts : List Lexeme) (op : BinaryOperator) → operator_at m n ts ≡ Some op → First (Kind (kind_at ts)) ts
operator_first m n [] op e = cc (e)
operator_first m n (t ∷ ts) op e = refl

pub operator_within : (m n : ℕ) (ts : List Lexeme) (op : BinaryOperator) → operator_at m n ts ≡ Some op → (m ≤ tighter op) × (tighter op < n)
operator_within m n [] op q = cc (q)
operator_within m n (t ∷ ts) op q =
    let f = levels_some m n (binary_of t.kind) op q in
    (f.1, f.2)

pub operator_due : (ed : Edition) → (m n j k : ℕ) (h : Bool) (l : ℕ) (a : Expression) (next : Expression → Reader) (ts : List Lexeme) (op : BinaryOperator) → operator_at m n ts ≡ Some op → j ≡ tighter op → k ≡ height a →
    run_parser ed 250 (followed m (n - m) h l next a) ts ≡ run_parser ed 250 (token (kind_at ts) (l + k) another (λ _. expr j h (l + 1) an_operand (λ r. followed j (n - j) h l next (binary (place_of a) op a r)))) ts
operator_due ed m n j k h l a next [] op q s u = cc (q)
operator_due ed m n j k h l a next (t ∷ ts) op q s u =
    let f = levels_some m n (binary_of t.kind) op q in
    let c = n - j - 1 in
    let le : m ≤ j = omega (arith, f.1, s) in
    let all : n - m + m ≡ j + suc c = omega (arith, f.1, f.2, s) in
    let over : suc c ≡ n - j = omega (arith, f.2, s) in
    due_at ed (n - m) m j c h l a next t ts op f.0 (sym s) le all
    ∙ ap (λ i. run_parser ed 250 (token t.kind (l + height a) another (λ _. expr j h (l + 1) an_operand (λ r. followed j i h l next (binary (place_of a) op a r)))) (t ∷ ts)) over
    ∙ ap (λ i. run_parser ed 250 (token t.kind (l + i) another (λ _. expr j h (l + 1) an_operand (λ r. followed j (n - j) h l next (binary (place_of a) op a r)))) (t ∷ ts)) (sym u)

none_at : (m n : ℕ) (ts : List Lexeme) → operator_at m n ts ≡ None → (op : BinaryOperator) → operator_of ts ≡ Some op → m ≤ tighter op → tighter op < n → ⊥
none_at m n [] q op e = cc (e)
none_at m n (t ∷ ts) q op e = levels_none m n (binary_of t.kind) q op e

pub operators_end : (ed : Edition) → (m n : ℕ) (h : Bool) (l : ℕ) (a : Expression) (next : Expression → Reader) (ts : List Lexeme) → m ≤ n → operator_at m n ts ≡ None → run_parser ed 250 (followed m (n - m) h l next a) ts ≡ run_parser ed 250 (next a) ts
operators_end ed m n h l a next ts le q = ends_at ed (n - m) m h l a next ts (λ op p ge lt. none_at m n ts q op p ge (omega (arith, lt, le)))
