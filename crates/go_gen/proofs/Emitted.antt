-- What is put before a code, piece by piece, is the code of the whole expression.
use Rattle.std.proofs.Common.{◌≡◌, ℕ, ◌+◌, ◌-◌, ◌<◌, Bool, true, false, List, [], ◌∷◌, ◌++◌, length, drop, get_or, refl, sym, ap, ◌∙◌, Vec, Box, Global, append_assoc, length-append, arith}
use Rattle.std.proofs.lemmas.List.{drop_more}
use Rattle.go_types.specs.Types.{Type'}
use Rattle.go_types.specs.Relations.{underlying}
use Rattle.go_types.specs.Sizes.{cells}
use Rattle.go_types.specs.Views.{go_type}
use Rattle.go_code.specs.declared.cell.Cell.TheVariants.{Bool as Truth}
use Rattle.go_code.specs.declared.instr.Instr.{Instr}
use Rattle.go_code.specs.declared.instr.Instr.TheVariants.{Frame as In_frame, Part as On_part, Jump as Go_to, Calls as By_call}
use Rattle.go_code.specs.declared.instr.FrameInstr.TheVariants.{Push}
use Rattle.go_code.specs.declared.instr.PartInstr.TheVariants.{Part}
use Rattle.go_code.specs.declared.instr.JumpInstr.TheVariants.{Jump}
use Rattle.go_code.specs.declared.instr.JumpInstr.TheVariants as jumps
use Rattle.go_code.specs.declared.instr.CallInstr.TheVariants.{Call as To_function}
use Rattle.go_symbol.specs.Symbols as symbols
use Rattle.go_meaning.specs.Choices.{binary_operators}
use Rattle.go_typed.specs.Trees as trees
use Rattle.go_typed.specs.declared.expression.Operator.{Operator}
use Rattle.go_typed.specs.declared.expression.TypedExpr.{TypedExpr}
use Rattle.go_typed.specs.declared.expression.TypedPart.{TypedPart}
use Rattle.go_typed.specs.declared.expression.TypedExprKind.{TypedExprKind, Field, Index, Binary, Both, Either, Literal, Call}
use Rattle.go_typed.specs.Views.{as_expr, as_exprs, parts_in}
use Rattle.go_typed.proofs.Rows.{field_seen, index_seen, binary_seen, both_seen, either_seen, type_seen}
use Rattle.go_gen.specs.Translation.{Places, offset, expr_temps, exprs_temps, parts_temps, zero_code, index_code, operators_code, load, store, decided_code, expr_code, exprs_code, parts_code}
use Rattle.go_gen.proofs.ByKind.{literal_kind, call_kind}

abbrev Code : Type 0
Code = List (Instr symbols.Symbol)

-- the items from the one before on
pub row_back : {A : Type 0} (xs : List A) (i : ℕ) (x : A) → x ≡ get_or xs (i - 1) x → i - 1 < length xs → 0 < i → drop (i - 1) xs ≡ x ∷ drop i xs
row_back xs i x is lt some =
    let e : i - 1 + 1 ≡ i = omega arith in
    drop_more xs (i - 1) x lt ∙ ap (λ y. y ∷ drop (i - 1 + 1) xs) (sym is) ∙ ap (λ n. x ∷ drop n xs) e

module _ (p : Places symbols.Symbol) (k : ℕ) (e : TypedExpr) where
  pub field_emitted : (box : Box TypedExpr Global) (n : ℕ) (o1 o2 : TypedExpr) (old mid new : Code) → e.kind ≡ Field box n → o1 ≡ box.value → o2 ≡ box.value → mid ≡ On_part (Part (cells (go_type o1.of)) (offset (underlying (go_type o1.of)) n) (cells (go_type e.of))) ∷ old → new ≡ expr_code p k (as_expr o2) ++ mid → new ≡ expr_code p k (as_expr e) ++ old
  field_emitted box n o1 o2 old mid new is e1 e2 m h =
      let x = box.value in
      let part : Type' → Instr symbols.Symbol = λ u. On_part (Part (cells u) (offset (underlying u) n) (cells (go_type e.of))) in
      h ∙ ap (λ y. expr_code p k (as_expr y) ++ mid) e2
      ∙ ap (λ l. expr_code p k (as_expr x) ++ l) (m ∙ ap (λ (y : TypedExpr). part (go_type y.of) ∷ old) e1 ∙ ap (λ u. part u ∷ old) (sym (type_seen x)))
      ∙ sym (append_assoc (expr_code p k (as_expr x)) (part (trees.expr_type (as_expr x)) ∷ []) old)
      ∙ ap (λ y. expr_code p k y ++ old) (sym (ap (λ (k : TypedExprKind). as_expr (record { of = e.of; kind = k })) is ∙ field_seen e.of box n x refl))

  -- two operands, and what is done with their values
  two_emitted : (a b : TypedExpr) (a1 a2 b1 : TypedExpr) (n behind : ℕ) (last : Code) (old c1 c2 new : Code) → a1 ≡ a → a2 ≡ a → b1 ≡ b → n ≡ expr_temps (as_expr a1) → behind ≡ k + n → c1 ≡ last ++ old → c2 ≡ expr_code p behind (as_expr b1) ++ c1 → new ≡ expr_code p k (as_expr a2) ++ c2 → new ≡ (expr_code p k (as_expr a) ++ expr_code p (k + expr_temps (as_expr a)) (as_expr b) ++ last) ++ old
  two_emitted a b a1 a2 b1 n behind last old c1 c2 new e1 e2 f1 t s m1 m2 h =
      let at : behind ≡ k + expr_temps (as_expr a) = s ∙ ap (λ x. k + x) (t ∙ ap (λ x. expr_temps (as_expr x)) e1) in
      let first : Code = expr_code p k (as_expr a) in
      let second : Code = expr_code p (k + expr_temps (as_expr a)) (as_expr b) in
      let inner : c2 ≡ second ++ (last ++ old) =
      m2 ∙ ap (λ x. expr_code p behind (as_expr x) ++ c1) f1 ∙ ap (λ x. expr_code p x (as_expr b) ++ c1) at ∙ ap (λ l. second ++ l) m1 in
      let shape : first ++ (second ++ (last ++ old)) ≡ (first ++ second ++ last) ++ old = simp append_assoc in
      h ∙ ap (λ x. expr_code p k (as_expr x) ++ c2) e2 ∙ ap (λ l. first ++ l) inner ∙ shape

  pub index_emitted : (x y : Box TypedExpr Global) (a1 a2 a3 b1 : TypedExpr) (n behind : ℕ) (u : Type') (old c1 c2 new : Code) → e.kind ≡ Index x y → a1 ≡ x.value → a2 ≡ x.value → a3 ≡ x.value → b1 ≡ y.value → n ≡ expr_temps (as_expr a1) → behind ≡ k + n → u ≡ underlying (go_type a2.of) → c1 ≡ index_code u ++ old → c2 ≡ expr_code p behind (as_expr b1) ++ c1 → new ≡ expr_code p k (as_expr a3) ++ c2 → new ≡ expr_code p k (as_expr e) ++ old
  index_emitted x y a1 a2 a3 b1 n behind u old c1 c2 new is e1 e2 e3 f1 t s v m1 m2 h =
      let w : u ≡ underlying (trees.expr_type (as_expr x.value)) = v ∙ ap (λ (z : TypedExpr). underlying (go_type z.of)) e2 ∙ ap underlying (sym (type_seen x.value)) in
      two_emitted x.value y.value a1 a3 b1 n behind (index_code (underlying (trees.expr_type (as_expr x.value)))) old c1 c2 new e1 e3 f1 t s (m1 ∙ ap (λ z. index_code z ++ old) w) m2 h
      ∙ ap (λ z. expr_code p k z ++ old) (sym (ap (λ (k : TypedExprKind). as_expr (record { of = e.of; kind = k })) is ∙ index_seen e.of x y x.value y.value refl refl))

  pub binary_emitted : (op : Operator) (x y : Box TypedExpr Global) (a1 a2 a3 b1 : TypedExpr) (n behind : ℕ) (old c1 c2 new : Code) → e.kind ≡ Binary op x y → a1 ≡ x.value → a2 ≡ x.value → a3 ≡ x.value → b1 ≡ y.value → n ≡ expr_temps (as_expr a1) → behind ≡ k + n → c1 ≡ operators_code (binary_operators (underlying (go_type a2.of)) op) ++ old → c2 ≡ expr_code p behind (as_expr b1) ++ c1 → new ≡ expr_code p k (as_expr a3) ++ c2 → new ≡ expr_code p k (as_expr e) ++ old
  binary_emitted op x y a1 a2 a3 b1 n behind old c1 c2 new is e1 e2 e3 f1 t s m1 m2 h =
      let w : underlying (go_type a2.of) ≡ underlying (trees.expr_type (as_expr x.value)) = ap (λ (z : TypedExpr). underlying (go_type z.of)) e2 ∙ ap underlying (sym (type_seen x.value)) in
      two_emitted x.value y.value a1 a3 b1 n behind (operators_code (binary_operators (underlying (trees.expr_type (as_expr x.value))) op)) old c1 c2 new e1 e3 f1 t s (m1 ∙ ap (λ z. operators_code (binary_operators z op) ++ old) w) m2 h
      ∙ ap (λ z. expr_code p k z ++ old) (sym (ap (λ (k : TypedExprKind). as_expr (record { of = e.of; kind = k })) is ∙ binary_seen e.of op x y x.value y.value refl refl))

  -- a right side that may be passed
  decided_emitted : (jump : ℕ → Instr symbols.Symbol) (answer : Bool) (a b a1 a2 b1 : TypedExpr) (n behind end far : ℕ) (old c1 c2 c3 new : Code) → a1 ≡ a → a2 ≡ a → b1 ≡ b → n ≡ expr_temps (as_expr a1) → behind ≡ k + n → c1 ≡ Go_to (Jump 1) ∷ In_frame (Push (Truth answer)) ∷ old → end ≡ length c1 → c2 ≡ expr_code p behind (as_expr b1) ++ c1 → far ≡ length c2 → c3 ≡ jump (far - end + 1) ∷ c2 → new ≡ expr_code p k (as_expr a2) ++ c3 → new ≡ decided_code jump answer (expr_code p k (as_expr a)) (expr_code p (k + expr_temps (as_expr a)) (as_expr b)) ++ old
  decided_emitted jump answer a b a1 a2 b1 n behind end far old c1 c2 c3 new e1 e2 f1 t s m1 l1 m2 l2 m3 h =
      let at : behind ≡ k + expr_temps (as_expr a) = s ∙ ap (λ x. k + x) (t ∙ ap (λ x. expr_temps (as_expr x)) e1) in
      let first : Code = expr_code p k (as_expr a) in
      let second : Code = expr_code p (k + expr_temps (as_expr a)) (as_expr b) in
      let shape : first ++ (jump (length second + 1) ∷ (second ++ (Go_to (Jump 1) ∷ In_frame (Push (Truth answer)) ∷ old))) ≡ decided_code jump answer first second ++ old = simp append_assoc in
      let g2 : c2 ≡ second ++ c1 = m2 ∙ ap (λ x. expr_code p behind (as_expr x) ++ c1) f1 ∙ ap (λ x. expr_code p x (as_expr b) ++ c1) at in
      let size : far - end + 1 ≡ length second + 1 = omega (arith, l1, l2, ap length g2, length-append second c1) in
      h ∙ ap (λ x. expr_code p k (as_expr x) ++ c3) e2
      ∙ ap (λ l. first ++ l) (m3 ∙ ap (λ x. jump x ∷ c2) size ∙ ap (λ l. jump (length second + 1) ∷ l) (g2 ∙ ap (λ l. second ++ l) m1))
      ∙ shape

  pub both_emitted : (x y : Box TypedExpr Global) (a1 a2 b1 : TypedExpr) (n behind end far : ℕ) (old c1 c2 c3 new : Code) → e.kind ≡ Both x y → a1 ≡ x.value → a2 ≡ x.value → b1 ≡ y.value → n ≡ expr_temps (as_expr a1) → behind ≡ k + n → c1 ≡ Go_to (Jump 1) ∷ In_frame (Push (Truth false)) ∷ old → end ≡ length c1 → c2 ≡ expr_code p behind (as_expr b1) ++ c1 → far ≡ length c2 → c3 ≡ Go_to (jumps.JumpIfNot (far - end + 1)) ∷ c2 → new ≡ expr_code p k (as_expr a2) ++ c3 → new ≡ expr_code p k (as_expr e) ++ old
  both_emitted x y a1 a2 b1 n behind end far old c1 c2 c3 new is e1 e2 f1 t s m1 l1 m2 l2 m3 h =
      decided_emitted (λ n. Go_to (jumps.JumpIfNot n)) false x.value y.value a1 a2 b1 n behind end far old c1 c2 c3 new e1 e2 f1 t s m1 l1 m2 l2 m3 h
      ∙ ap (λ z. expr_code p k z ++ old) (sym (ap (λ (k : TypedExprKind). as_expr (record { of = e.of; kind = k })) is ∙ both_seen e.of x y x.value y.value refl refl))

  pub either_emitted : (x y : Box TypedExpr Global) (a1 a2 b1 : TypedExpr) (n behind end far : ℕ) (old c1 c2 c3 new : Code) → e.kind ≡ Either x y → a1 ≡ x.value → a2 ≡ x.value → b1 ≡ y.value → n ≡ expr_temps (as_expr a1) → behind ≡ k + n → c1 ≡ Go_to (Jump 1) ∷ In_frame (Push (Truth true)) ∷ old → end ≡ length c1 → c2 ≡ expr_code p behind (as_expr b1) ++ c1 → far ≡ length c2 → c3 ≡ Go_to (jumps.JumpIf (far - end + 1)) ∷ c2 → new ≡ expr_code p k (as_expr a2) ++ c3 → new ≡ expr_code p k (as_expr e) ++ old
  either_emitted x y a1 a2 b1 n behind end far old c1 c2 c3 new is e1 e2 f1 t s m1 l1 m2 l2 m3 h =
      decided_emitted (λ n. Go_to (jumps.JumpIf n)) true x.value y.value a1 a2 b1 n behind end far old c1 c2 c3 new e1 e2 f1 t s m1 l1 m2 l2 m3 h
      ∙ ap (λ z. expr_code p k z ++ old) (sym (ap (λ (k : TypedExprKind). as_expr (record { of = e.of; kind = k })) is ∙ either_seen e.of x y x.value y.value refl refl))

  pub literal_emitted : (ps : Vec TypedPart Global) (items : List TypedPart) (n behind : ℕ) (u : Type') (i1 i3 : Instr symbols.Symbol) (old c1 c2 c3 new : Code) → e.kind ≡ Literal ps → items ≡ ps.items → n ≡ cells (go_type e.of) → behind ≡ k + n → u ≡ underlying (go_type e.of) → i1 ≡ load k n → c1 ≡ i1 ∷ old → c2 ≡ parts_code p u k behind (parts_in items) ++ c1 → i3 ≡ store k n → c3 ≡ i3 ∷ c2 → new ≡ zero_code (go_type e.of) ++ c3 → new ≡ expr_code p k (as_expr e) ++ old
  literal_emitted ps items n behind u i1 i3 old c1 c2 c3 new is at t s v j1 m1 m2 j3 m3 h =
      let ty = go_type e.of in
      let row : Code = parts_code p (underlying ty) k (k + cells ty) (parts_in ps.items) in
      let zero : Code = zero_code ty in
      let shape : zero ++ (store k (cells ty) ∷ (row ++ (load k (cells ty) ∷ old))) ≡ expr_code p k (trees.literal ty (parts_in ps.items)) ++ old = simp append_assoc in
      let b : behind ≡ k + cells ty = s ∙ ap (λ x. k + x) t in
      let g1 : c1 ≡ load k (cells ty) ∷ old = m1 ∙ ap (λ i. i ∷ old) (j1 ∙ ap (load k) t) in
      let g2 : c2 ≡ row ++ load k (cells ty) ∷ old =
      m2 ∙ ap (λ x. parts_code p x k behind (parts_in items) ++ c1) v ∙ ap (λ x. parts_code p (underlying ty) k x (parts_in items) ++ c1) b
      ∙ ap (λ x. parts_code p (underlying ty) k (k + cells ty) (parts_in x) ++ c1) at ∙ ap (λ l. row ++ l) g1 in
      h ∙ ap (λ l. zero ++ l) (m3 ∙ ap (λ i. i ∷ c2) (j3 ∙ ap (store k) t) ∙ ap (λ l. store k (cells ty) ∷ l) g2) ∙ shape
      ∙ ap (λ z. expr_code p k z ++ old) (sym (literal_kind e ps is))

  pub call_emitted : (s : trees.Symbol) (es : Vec TypedExpr Global) (items : List TypedExpr) (i : Instr symbols.Symbol) (old c1 new : Code) → e.kind ≡ Call s es → items ≡ es.items → i ≡ By_call (To_function (p.functions s)) → c1 ≡ i ∷ old → new ≡ exprs_code p k (as_exprs items) ++ c1 → new ≡ expr_code p k (as_expr e) ++ old
  call_emitted s es items i old c1 new is at j m h =
      h ∙ ap (λ l. exprs_code p k (as_exprs l) ++ c1) at ∙ ap (λ l. exprs_code p k (as_exprs es.items) ++ l) (m ∙ ap (λ x. x ∷ old) j)
      ∙ sym (append_assoc (exprs_code p k (as_exprs es.items)) (By_call (To_function (p.functions s)) ∷ []) old)
      ∙ ap (λ z. expr_code p k z ++ old) (sym (call_kind e s es is))

module _ (p : Places symbols.Symbol) (k : ℕ) where
  -- one more expression, before those that are there
  pub exprs_step : (es : List TypedExpr) (i : ℕ) (x : TypedExpr) (b0 b1 n : ℕ) (old c0 c1 : Code) → drop (i - 1) es ≡ x ∷ drop i es → n ≡ expr_temps (as_expr x) → b1 + n ≡ b0 → c0 ≡ exprs_code p b0 (as_exprs (drop i es)) ++ old → c1 ≡ expr_code p b1 (as_expr x) ++ c0 → c1 ≡ exprs_code p b1 (as_exprs (drop (i - 1) es)) ++ old
  exprs_step es i x b0 b1 n old c0 c1 is t s m h =
      let at : b0 ≡ b1 + expr_temps (as_expr x) = sym s ∙ ap (λ y. b1 + y) t in
      h ∙ ap (λ l. expr_code p b1 (as_expr x) ++ l) (m ∙ ap (λ y. exprs_code p y (as_exprs (drop i es)) ++ old) at)
      ∙ sym (append_assoc (expr_code p b1 (as_expr x)) (exprs_code p (b1 + expr_temps (as_expr x)) (as_exprs (drop i es))) old)
      ∙ ap (λ l. exprs_code p b1 (as_exprs l) ++ old) (sym is)

  pub exprs_left : (es : List TypedExpr) (i : ℕ) (x : TypedExpr) (b0 b1 n total : ℕ) → drop (i - 1) es ≡ x ∷ drop i es → n ≡ expr_temps (as_expr x) → b1 + n ≡ b0 → b0 + exprs_temps (as_exprs (drop i es)) ≡ total → b1 + exprs_temps (as_exprs (drop (i - 1) es)) ≡ total
  exprs_left es i x b0 b1 n total is t s h =
      let more : exprs_temps (as_exprs (drop (i - 1) es)) ≡ expr_temps (as_expr x) + exprs_temps (as_exprs (drop i es)) = ap (λ l. exprs_temps (as_exprs l)) is in
      omega (arith, more, t, s, h)

  -- one more part of a literal
  pub parts_step : (u : Type') (at : ℕ) (ps : List TypedPart) (i : ℕ) (x : TypedPart) (b0 b1 n m first count : ℕ) (j : Instr symbols.Symbol) (old c0 c1 c2 : Code) → drop (i - 1) ps ≡ x ∷ drop i ps → n ≡ expr_temps (as_expr x.value) → b1 + n ≡ b0 → m ≡ offset u x.number → first ≡ at + m → count ≡ cells (go_type x.value.of) → j ≡ store first count → c0 ≡ parts_code p u at b0 (parts_in (drop i ps)) ++ old → c1 ≡ j ∷ c0 → c2 ≡ expr_code p b1 (as_expr x.value) ++ c1 → c2 ≡ parts_code p u at b1 (parts_in (drop (i - 1) ps)) ++ old
  parts_step u at ps i x b0 b1 n m first count j old c0 c1 c2 is t s o f q r m0 m1 h =
      let b : b0 ≡ b1 + expr_temps (as_expr x.value) = sym s ∙ ap (λ y. b1 + y) t in
      let to = at + offset u x.number in
      let row = parts_code p u at (b1 + expr_temps (as_expr x.value)) (parts_in (drop i ps)) in
      let instr : j ≡ store to (cells (trees.expr_type (as_expr x.value))) =
      r ∙ ap (λ y. store y count) (f ∙ ap (λ y. at + y) o) ∙ ap (store to) (q ∙ ap cells (sym (type_seen x.value))) in
      h ∙ ap (λ l. expr_code p b1 (as_expr x.value) ++ l) (m1 ∙ ap (λ y. y ∷ c0) instr ∙ ap (λ l. store to (cells (trees.expr_type (as_expr x.value))) ∷ l) (m0 ∙ ap (λ y. parts_code p u at y (parts_in (drop i ps)) ++ old) b))
      ∙ sym (append_assoc (expr_code p b1 (as_expr x.value)) (store to (cells (trees.expr_type (as_expr x.value))) ∷ row) old)
      ∙ ap (λ l. parts_code p u at b1 (parts_in l) ++ old) (sym is)

  pub parts_left : (ps : List TypedPart) (i : ℕ) (x : TypedPart) (b0 b1 n total : ℕ) → drop (i - 1) ps ≡ x ∷ drop i ps → n ≡ expr_temps (as_expr x.value) → b1 + n ≡ b0 → b0 + parts_temps (parts_in (drop i ps)) ≡ total → b1 + parts_temps (parts_in (drop (i - 1) ps)) ≡ total
  parts_left ps i x b0 b1 n total is t s h =
      let more : parts_temps (parts_in (drop (i - 1) ps)) ≡ expr_temps (as_expr x.value) + parts_temps (parts_in (drop i ps)) = ap (λ l. parts_temps (parts_in l)) is in
      omega (arith, more, t, s, h)
