-- What is put before a code, piece by piece, is the code of a form of slices.
use Rattle.std.proofs.Common.{◌≡◌, ℕ, suc, ◌+◌, List, [], ◌∷◌, ◌++◌, length, Box, Vec, Global, refl, sym, ap, ◌∙◌, append_assoc, arith}
use Rattle.go_types.specs.Types.{Type'}
use Rattle.go_types.specs.Relations.{underlying}
use Rattle.go_types.specs.Views.{go_type}
use Rattle.go_code.specs.declared.instr.Instr.{Instr}
use Rattle.go_code.specs.declared.instr.Instr.TheVariants.{Row as On_rows}
use Rattle.go_code.specs.declared.instr.RowInstr.TheVariants.{Make, Append}
use Rattle.go_symbol.specs.Symbols as symbols
use Rattle.go_meaning.specs.Choices.{length_operators, cut_operators, element_type}
use Rattle.go_typed.specs.Trees as trees
use Rattle.go_typed.specs.declared.expression.TypedExpr.{TypedExpr}
use Rattle.go_typed.specs.declared.expression.TypedExprKind.{Tail, Cut, MakeWithin, Elements, Append as Appending}
use Rattle.go_typed.specs.Views.{as_expr, as_exprs}
use Rattle.go_typed.proofs.Rows.{type_seen}
use Rattle.go_gen.proofs.ByKind.{tail_kind, cut_kind, make_within_kind, elements_kind, append_kind}
use Rattle.go_gen.specs.Translation.{Places, element_cells, expr_temps, zero_code, operators_code, load, store, or_type, exprs_count, expr_code, exprs_code}

abbrev Code : Type 0
Code = List (Instr symbols.Symbol)

-- as many as the code's row has
pub count_seen : (es : List TypedExpr) → exprs_count (as_exprs es) ≡ length es
count_seen [] = refl
count_seen (e ∷ es) = ap suc (count_seen es)

module _ (p : Places symbols.Symbol) (k : ℕ) (t : Type') (e : TypedExpr) where
  -- what the operand's type is underneath
  under : underlying (trees.expr_type (as_expr e)) ≡ underlying (go_type e.of)
  under = ap underlying (type_seen e)

  pub length_emitted : (u : Type') (old mid new : Code) → u ≡ underlying (go_type e.of) → mid ≡ operators_code (length_operators u) ++ old → new ≡ expr_code p k (as_expr e) ++ mid → new ≡ expr_code p k (trees.length t (as_expr e)) ++ old
  length_emitted u old mid new v m h =
      let w : Type' = underlying (trees.expr_type (as_expr e)) in
      let same : u ≡ w = v ∙ sym under in
      h ∙ ap (λ l. expr_code p k (as_expr e) ++ l) (m ∙ ap (λ x. operators_code (length_operators x) ++ old) same)
      ∙ sym (append_assoc (expr_code p k (as_expr e)) (operators_code (length_operators w)) old)

  pub tail_emitted : (low : TypedExpr) (n temp behind : ℕ) (u : Type') (i : Instr symbols.Symbol) (old c1 c2 c3 c4 c5 new : Code) → n ≡ expr_temps (as_expr e) → temp ≡ k + n → behind ≡ temp + 1 → u ≡ underlying (go_type e.of) → c1 ≡ operators_code (cut_operators u) ++ old → c2 ≡ operators_code (length_operators u) ++ c1 → i ≡ load temp 1 → c3 ≡ i ∷ c2 → c4 ≡ expr_code p behind (as_expr low) ++ c3 → c5 ≡ store temp 1 ∷ load temp 1 ∷ c4 → new ≡ expr_code p k (as_expr e) ++ c5 → new ≡ expr_code p k (trees.cut t (as_expr e) (as_expr low) trees.absent) ++ old
  tail_emitted low n temp behind u i old c1 c2 c3 c4 c5 new t1 t2 t3 v m1 m2 j m3 m4 m5 h =
      let at : ℕ = k + expr_temps (as_expr e) in
      let w : Type' = underlying (trees.expr_type (as_expr e)) in
      let same : u ≡ w = v ∙ sym under in
      let here : temp ≡ at = t2 ∙ ap (λ x. k + x) t1 in
      let last : Code = operators_code (length_operators w) ++ (operators_code (cut_operators w) ++ old) in
      let g2 : c2 ≡ last = m2 ∙ ap (λ x. operators_code (length_operators x) ++ c1) same ∙ ap (λ l. operators_code (length_operators w) ++ l) (m1 ∙ ap (λ x. operators_code (cut_operators x) ++ old) same) in
      let g3 : c3 ≡ load at 1 ∷ last = m3 ∙ ap (λ x. x ∷ c2) (j ∙ ap (λ x. load x 1) here) ∙ ap (λ l. load at 1 ∷ l) g2 in
      let g4 : c4 ≡ expr_code p (at + 1) (as_expr low) ++ (load at 1 ∷ last) = m4 ∙ ap (λ x. expr_code p x (as_expr low) ++ c3) (t3 ∙ ap (λ x. x + 1) here) ∙ ap (λ l. expr_code p (at + 1) (as_expr low) ++ l) g3 in
      let g5 : c5 ≡ store at 1 ∷ load at 1 ∷ (expr_code p (at + 1) (as_expr low) ++ (load at 1 ∷ last)) = m5 ∙ ap (λ x. store x 1 ∷ load x 1 ∷ c4) here ∙ ap (λ l. store at 1 ∷ load at 1 ∷ l) g4 in
      let shape : expr_code p k (as_expr e) ++ (store at 1 ∷ load at 1 ∷ (expr_code p (at + 1) (as_expr low) ++ (load at 1 ∷ last))) ≡ expr_code p k (trees.cut t (as_expr e) (as_expr low) trees.absent) ++ old = simp append_assoc in
      h ∙ ap (λ l. expr_code p k (as_expr e) ++ l) g5 ∙ shape

  pub cut_emitted : (low high : TypedExpr) (n m temp behind last : ℕ) (u : Type') (old c1 c2 c3 c4 new : Code) → n ≡ expr_temps (as_expr e) → temp ≡ k + n → behind ≡ temp + 1 → m ≡ expr_temps (as_expr low) → last ≡ behind + m → u ≡ underlying (go_type e.of) → c1 ≡ operators_code (cut_operators u) ++ old → c2 ≡ expr_code p last (as_expr high) ++ c1 → c3 ≡ expr_code p behind (as_expr low) ++ c2 → c4 ≡ store temp 1 ∷ load temp 1 ∷ c3 → new ≡ expr_code p k (as_expr e) ++ c4 → new ≡ expr_code p k (trees.cut t (as_expr e) (as_expr low) (trees.present (as_expr high))) ++ old
  cut_emitted low high n m temp behind last u old c1 c2 c3 c4 new t1 t2 t3 t4 t5 v m1 m2 m3 m4 h =
      let at : ℕ = k + expr_temps (as_expr e) in
      let w : Type' = underlying (trees.expr_type (as_expr e)) in
      let same : u ≡ w = v ∙ sym under in
      let here : temp ≡ at = t2 ∙ ap (λ x. k + x) t1 in
      let next : behind ≡ at + 1 = t3 ∙ ap (λ x. x + 1) here in
      let far : ℕ = at + 1 + expr_temps (as_expr low) in
      let there : last ≡ far = t5 ∙ ap (λ x. x + m) next ∙ ap (λ x. at + 1 + x) t4 in
      let cuts : Code = operators_code (cut_operators w) ++ old in
      let g2 : c2 ≡ expr_code p far (as_expr high) ++ cuts = m2 ∙ ap (λ x. expr_code p x (as_expr high) ++ c1) there ∙ ap (λ l. expr_code p far (as_expr high) ++ l) (m1 ∙ ap (λ x. operators_code (cut_operators x) ++ old) same) in
      let g3 : c3 ≡ expr_code p (at + 1) (as_expr low) ++ (expr_code p far (as_expr high) ++ cuts) = m3 ∙ ap (λ x. expr_code p x (as_expr low) ++ c2) next ∙ ap (λ l. expr_code p (at + 1) (as_expr low) ++ l) g2 in
      let g4 : c4 ≡ store at 1 ∷ load at 1 ∷ (expr_code p (at + 1) (as_expr low) ++ (expr_code p far (as_expr high) ++ cuts)) = m4 ∙ ap (λ x. store x 1 ∷ load x 1 ∷ c3) here ∙ ap (λ l. store at 1 ∷ load at 1 ∷ l) g3 in
      let shape : expr_code p k (as_expr e) ++ (store at 1 ∷ load at 1 ∷ (expr_code p (at + 1) (as_expr low) ++ (expr_code p far (as_expr high) ++ cuts))) ≡ expr_code p k (trees.cut t (as_expr e) (as_expr low) (trees.present (as_expr high))) ++ old = simp append_assoc in
      h ∙ ap (λ l. expr_code p k (as_expr e) ++ l) g4 ∙ shape

  pub make_within_emitted : (room : TypedExpr) (n temp behind : ℕ) (u : Type') (old c1 c2 c3 c4 new : Code) → n ≡ expr_temps (as_expr e) → temp ≡ k + n → behind ≡ temp + 1 → u ≡ or_type t (element_type (underlying t)) → c1 ≡ On_rows (Make (element_cells (underlying t))) ∷ old → c2 ≡ expr_code p behind (as_expr room) ++ c1 → c3 ≡ store temp 1 ∷ load temp 1 ∷ c2 → c4 ≡ expr_code p k (as_expr e) ++ c3 → new ≡ zero_code u ++ c4 → new ≡ expr_code p k (trees.make t (as_expr e) (trees.present (as_expr room))) ++ old
  make_within_emitted room n temp behind u old c1 c2 c3 c4 new t1 t2 t3 v m1 m2 m3 m4 h =
      let at : ℕ = k + expr_temps (as_expr e) in
      let here : temp ≡ at = t2 ∙ ap (λ x. k + x) t1 in
      let next : behind ≡ at + 1 = t3 ∙ ap (λ x. x + 1) here in
      let of : Type' = or_type t (element_type (underlying t)) in
      let last : Code = On_rows (Make (element_cells (underlying t))) ∷ old in
      let g2 : c2 ≡ expr_code p (at + 1) (as_expr room) ++ last = m2 ∙ ap (λ x. expr_code p x (as_expr room) ++ c1) next ∙ ap (λ l. expr_code p (at + 1) (as_expr room) ++ l) m1 in
      let g3 : c3 ≡ store at 1 ∷ load at 1 ∷ (expr_code p (at + 1) (as_expr room) ++ last) = m3 ∙ ap (λ x. store x 1 ∷ load x 1 ∷ c2) here ∙ ap (λ l. store at 1 ∷ load at 1 ∷ l) g2 in
      let shape : zero_code of ++ (expr_code p k (as_expr e) ++ (store at 1 ∷ load at 1 ∷ (expr_code p (at + 1) (as_expr room) ++ last))) ≡ expr_code p k (trees.make t (as_expr e) (trees.present (as_expr room))) ++ old = simp append_assoc in
      h ∙ ap (λ (x : Type'). zero_code x ++ c4) v ∙ ap (λ l. zero_code of ++ l) (m4 ∙ ap (λ l. expr_code p k (as_expr e) ++ l) g3) ∙ shape

  pub append_emitted : (es : List TypedExpr) (n behind : ℕ) (old c1 c2 new : Code) → n ≡ expr_temps (as_expr e) → behind ≡ k + n → c1 ≡ On_rows (Append (element_cells (underlying t)) (length es)) ∷ old → c2 ≡ exprs_code p behind (as_exprs es) ++ c1 → new ≡ expr_code p k (as_expr e) ++ c2 → new ≡ expr_code p k (trees.append t (trees.present (as_expr e)) (as_exprs es)) ++ old
  append_emitted es n behind old c1 c2 new t1 t2 m1 m2 h =
      let at : ℕ = k + expr_temps (as_expr e) in
      let next : behind ≡ at = t2 ∙ ap (λ x. k + x) t1 in
      let last : ℕ → Code = λ x. On_rows (Append (element_cells (underlying t)) x) ∷ old in
      let g1 : c1 ≡ last (exprs_count (as_exprs es)) = m1 ∙ ap last (sym (count_seen es)) in
      let g2 : c2 ≡ exprs_code p at (as_exprs es) ++ last (exprs_count (as_exprs es)) = m2 ∙ ap (λ x. exprs_code p x (as_exprs es) ++ c1) next ∙ ap (λ l. exprs_code p at (as_exprs es) ++ l) g1 in
      let shape : expr_code p k (as_expr e) ++ (exprs_code p at (as_exprs es) ++ last (exprs_count (as_exprs es))) ≡ expr_code p k (trees.append t (trees.present (as_expr e)) (as_exprs es)) ++ old = simp append_assoc in
      h ∙ ap (λ l. expr_code p k (as_expr e) ++ l) g2 ∙ shape

pub elements_emitted : (p : Places symbols.Symbol) (k : ℕ) (t : Type') (es : List TypedExpr) (old c1 c2 new : Code) → c1 ≡ On_rows (Append (element_cells (underlying t)) (length es)) ∷ old → c2 ≡ exprs_code p k (as_exprs es) ++ c1 → new ≡ zero_code t ++ c2 → new ≡ expr_code p k (trees.append t trees.absent (as_exprs es)) ++ old
elements_emitted p k t es old c1 c2 new m1 m2 h =
    let next : k ≡ k + 0 = omega arith in
    let last : ℕ → Code = λ x. On_rows (Append (element_cells (underlying t)) x) ∷ old in
    let g1 : c1 ≡ last (exprs_count (as_exprs es)) = m1 ∙ ap last (sym (count_seen es)) in
    let g2 : c2 ≡ exprs_code p (k + 0) (as_exprs es) ++ last (exprs_count (as_exprs es)) = m2 ∙ ap (λ x. exprs_code p x (as_exprs es) ++ c1) next ∙ ap (λ l. exprs_code p (k + 0) (as_exprs es) ++ l) g1 in
    let shape : zero_code t ++ (exprs_code p (k + 0) (as_exprs es) ++ last (exprs_count (as_exprs es))) ≡ expr_code p k (trees.append t trees.absent (as_exprs es)) ++ old = simp append_assoc in
    h ∙ ap (λ l. zero_code t ++ l) g2 ∙ shape

-- the same of what the kinds of expressions have
module _ (p : Places symbols.Symbol) (k : ℕ) (e : TypedExpr) where
  pub elements_form : (es : Vec TypedExpr Global) (xs : List TypedExpr) (old new : Code) → e.kind ≡ Elements es → xs ≡ es.items → new ≡ expr_code p k (trees.append (go_type e.of) trees.absent (as_exprs xs)) ++ old → new ≡ expr_code p k (as_expr e) ++ old
  elements_form es xs old new is row h =
      h ∙ ap (λ l. expr_code p k (trees.append (go_type e.of) trees.absent (as_exprs l)) ++ old) row ∙ ap (λ x. expr_code p k x ++ old) (sym (elements_kind e es is))

  pub tail_form : (x y : Box TypedExpr Global) (a1 a2 a3 b1 : TypedExpr) (n temp behind : ℕ) (u : Type') (old c1 c2 c3 new : Code) → e.kind ≡ Tail x y → a1 ≡ x.value → a2 ≡ x.value → a3 ≡ x.value → b1 ≡ y.value → n ≡ expr_temps (as_expr a1) → temp ≡ k + n → behind ≡ temp + 1 → u ≡ underlying (go_type a2.of) → c1 ≡ load temp 1 ∷ (operators_code (length_operators u) ++ (operators_code (cut_operators u) ++ old)) → c2 ≡ expr_code p behind (as_expr b1) ++ c1 → c3 ≡ store temp 1 ∷ load temp 1 ∷ c2 → new ≡ expr_code p k (as_expr a3) ++ c3 → new ≡ expr_code p k (as_expr e) ++ old
  tail_form x y a1 a2 a3 b1 n temp behind u old c1 c2 c3 new is e1 e2 e3 f1 t1 t2 t3 v m1 m2 m3 h =
      let cuts : Code = operators_code (cut_operators u) ++ old in
      let lengths : Code = operators_code (length_operators u) ++ cuts in
      tail_emitted p k (go_type e.of) x.value y.value n temp behind u (load temp 1) old cuts lengths c1 c2 c3 new
      (t1 ∙ ap (λ z. expr_temps (as_expr z)) e1) t2 t3 (v ∙ ap (λ (z : TypedExpr). underlying (go_type z.of)) e2) refl refl refl m1
      (m2 ∙ ap (λ z. expr_code p behind (as_expr z) ++ c1) f1) m3 (h ∙ ap (λ z. expr_code p k (as_expr z) ++ c3) e3)
      ∙ ap (λ z. expr_code p k z ++ old) (sym (tail_kind e x y is))

  pub cut_form : (x y w : Box TypedExpr Global) (a1 a2 a3 b1 b2 d1 : TypedExpr) (n m temp behind last : ℕ) (u : Type') (old c1 c2 c3 c4 new : Code) → e.kind ≡ Cut x y w → a1 ≡ x.value → a2 ≡ x.value → a3 ≡ x.value → b1 ≡ y.value → b2 ≡ y.value → d1 ≡ w.value → n ≡ expr_temps (as_expr a1) → temp ≡ k + n → behind ≡ temp + 1 → m ≡ expr_temps (as_expr b1) → last ≡ behind + m → u ≡ underlying (go_type a2.of) → c1 ≡ operators_code (cut_operators u) ++ old → c2 ≡ expr_code p last (as_expr d1) ++ c1 → c3 ≡ expr_code p behind (as_expr b2) ++ c2 → c4 ≡ store temp 1 ∷ load temp 1 ∷ c3 → new ≡ expr_code p k (as_expr a3) ++ c4 → new ≡ expr_code p k (as_expr e) ++ old
  cut_form x y w a1 a2 a3 b1 b2 d1 n m temp behind last u old c1 c2 c3 c4 new is e1 e2 e3 f1 f2 g1 t1 t2 t3 t4 t5 v m1 m2 m3 m4 h =
      cut_emitted p k (go_type e.of) x.value y.value w.value n m temp behind last u old c1 c2 c3 c4 new
      (t1 ∙ ap (λ z. expr_temps (as_expr z)) e1) t2 t3 (t4 ∙ ap (λ z. expr_temps (as_expr z)) f1) t5 (v ∙ ap (λ (z : TypedExpr). underlying (go_type z.of)) e2) m1
      (m2 ∙ ap (λ z. expr_code p last (as_expr z) ++ c1) g1) (m3 ∙ ap (λ z. expr_code p behind (as_expr z) ++ c2) f2) m4 (h ∙ ap (λ z. expr_code p k (as_expr z) ++ c4) e3)
      ∙ ap (λ z. expr_code p k z ++ old) (sym (cut_kind e x y w is))

  pub make_within_form : (x y : Box TypedExpr Global) (a1 a2 b1 : TypedExpr) (n temp behind : ℕ) (old c1 c2 c3 c4 new : Code) → e.kind ≡ MakeWithin x y → a1 ≡ x.value → a2 ≡ x.value → b1 ≡ y.value → n ≡ expr_temps (as_expr a1) → temp ≡ k + n → behind ≡ temp + 1 → c1 ≡ On_rows (Make (element_cells (underlying (go_type e.of)))) ∷ old → c2 ≡ expr_code p behind (as_expr b1) ++ c1 → c3 ≡ store temp 1 ∷ load temp 1 ∷ c2 → c4 ≡ expr_code p k (as_expr a2) ++ c3 → new ≡ zero_code (or_type (go_type e.of) (element_type (underlying (go_type e.of)))) ++ c4 → new ≡ expr_code p k (as_expr e) ++ old
  make_within_form x y a1 a2 b1 n temp behind old c1 c2 c3 c4 new is e1 e2 f1 t1 t2 t3 m1 m2 m3 m4 h =
      make_within_emitted p k (go_type e.of) x.value y.value n temp behind (or_type (go_type e.of) (element_type (underlying (go_type e.of)))) old c1 c2 c3 c4 new
      (t1 ∙ ap (λ z. expr_temps (as_expr z)) e1) t2 t3 refl m1 (m2 ∙ ap (λ z. expr_code p behind (as_expr z) ++ c1) f1) m3 (m4 ∙ ap (λ z. expr_code p k (as_expr z) ++ c3) e2) h
      ∙ ap (λ z. expr_code p k z ++ old) (sym (make_within_kind e x y is))

  pub append_form : (x : Box TypedExpr Global) (es : Vec TypedExpr Global) (a1 a2 : TypedExpr) (xs ys : List TypedExpr) (n behind : ℕ) (old c1 c2 new : Code) → e.kind ≡ Appending x es → a1 ≡ x.value → a2 ≡ x.value → xs ≡ es.items → ys ≡ es.items → n ≡ expr_temps (as_expr a1) → behind ≡ k + n → c1 ≡ On_rows (Append (element_cells (underlying (go_type e.of))) (length xs)) ∷ old → c2 ≡ exprs_code p behind (as_exprs ys) ++ c1 → new ≡ expr_code p k (as_expr a2) ++ c2 → new ≡ expr_code p k (as_expr e) ++ old
  append_form x es a1 a2 xs ys n behind old c1 c2 new is e1 e2 r1 r2 t1 t2 m1 m2 h =
      append_emitted p k (go_type e.of) x.value es.items n behind old c1 c2 new
      (t1 ∙ ap (λ z. expr_temps (as_expr z)) e1) t2 (m1 ∙ ap (λ (l : List TypedExpr). On_rows (Append (element_cells (underlying (go_type e.of))) (length l)) ∷ old) r1)
      (m2 ∙ ap (λ l. exprs_code p behind (as_exprs l) ++ c1) r2) (h ∙ ap (λ z. expr_code p k (as_expr z) ++ c2) e2)
      ∙ ap (λ z. expr_code p k z ++ old) (sym (append_kind e x es is))
