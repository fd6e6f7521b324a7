-- Statements with rows, put before a code piece by piece.
use Rattle.std.proofs.Common.{◌≡◌, ℕ, ◌+◌, ◌-◌, List, [], ◌∷◌, ◌++◌, length, drop, map, reverse, Option, Vec, Global, suc, refl, sym, ap, ◌∙◌, append_assoc, length-append, arith}
use Rattle.std.proofs.lemmas.List.{reverse-append}
use Rattle.std.specs.Option.{option_map}
use Rattle.go_types.specs.declared.types.GoType.{GoType}
use Rattle.go_types.specs.Types.{Type'}
use Rattle.go_types.specs.Sizes.{cells}
use Rattle.go_types.specs.Views.{go_type}
use Rattle.go_code.specs.declared.instr.Instr.{Instr}
use Rattle.go_code.specs.declared.instr.Instr.TheVariants.{Jump as Go_to}
use Rattle.go_code.specs.declared.instr.JumpInstr.TheVariants.{Jump, JumpIfNot, LoopIf}
use Rattle.go_symbol.specs.Symbols as symbols
use Rattle.go_typed.specs.Trees as trees
use Rattle.go_typed.specs.declared.expression.TypedExpr.{TypedExpr}
use Rattle.go_typed.specs.declared.statement.TypedClause.{TypedClause}
use Rattle.go_typed.specs.declared.statement.TypedStmt.{TypedStmt}
use Rattle.go_typed.specs.declared.statement.TypedStmt as stmts
use Rattle.go_typed.specs.Views.{as_expr, as_stmt, stmts_in, clauses_in}
use Rattle.go_typed.proofs.Rows.{type_seen}
use Rattle.go_typed.proofs.StatementRows.{if_seen, for_seen, range_seen, switch_seen, block_seen}
use Rattle.go_gen.specs.Loops.{Closes}
use Rattle.go_gen.specs.Translation.{Places, expr_temps, cases_temps, stmts_temps, stmt_temps, store, expr_code, if_code, loop_code, condition_code, begin_code, counted_code, count_code, within_code, tests_code, default_place, concat_code, leave_code, bodies_temps, stmt_code, stmts_code, bodies_code}

abbrev Code : Type 0
Code = List (Instr symbols.Symbol)

loop_shape : (body post tc old : Code) → Go_to (Jump (length body + length post)) ∷ ((body ++ post) ++ (tc ++ Go_to (LoopIf (length body + length post + length tc + 1)) ∷ old)) ≡ loop_code body post tc ++ old
loop_shape body post tc old = simp append_assoc

clause_shape : (front leave rest old : Code) → front ++ (leave ++ (rest ++ old)) ≡ ((front ++ leave) ++ rest) ++ old
clause_shape front leave rest old = simp append_assoc

module _ (p : Places symbols.Symbol) (k : ℕ) (s : TypedStmt) (b c : ℕ) where
  pub if_emitted : (e : TypedExpr) (u v : Vec TypedStmt Global) (us us2 vs : List TypedStmt) (n first end n2 second len2 passed middle over over_b over_c len3 d3 far : ℕ) (old c1 c2 c3 c4 new : Code) → s ≡ stmts.If e u v → us ≡ u.items → us2 ≡ u.items → vs ≡ v.items → n ≡ expr_temps (as_expr e) → first ≡ k + n → end ≡ length old → n2 ≡ stmts_temps (stmts_in us) → second ≡ first + n2 → c1 ≡ stmts_code p second (stmts_in vs) b c ++ old → len2 ≡ length c1 → passed + end ≡ len2 → c2 ≡ Go_to (Jump passed) ∷ c1 → middle ≡ length c2 → over ≡ passed + 1 → over_b ≡ over + b → over_c ≡ over + c → c3 ≡ stmts_code p first (stmts_in us2) over_b over_c ++ c2 → len3 ≡ length c3 → d3 + middle ≡ len3 → far ≡ d3 + 1 → c4 ≡ Go_to (JumpIfNot far) ∷ c3 → new ≡ expr_code p k (as_expr e) ++ c4 → new ≡ stmt_code p k (as_stmt s) b c ++ old
  if_emitted e u v us us2 vs n first end n2 second len2 passed middle over over_b over_c len3 d3 far old c1 c2 c3 c4 new is a1 a2 a3 h1 h2 l0 h3 h4 m1 l1 l2 m2 l3 h5 h6 h7 m3 l4 l5 h8 m4 h =
      let f : first ≡ k + expr_temps (as_expr e) = h2 ∙ ap (λ y. k + y) h1 in
      let at : ℕ = k + expr_temps (as_expr e) in
      let two : Code = stmts_code p (at + stmts_temps (stmts_in u.items)) (stmts_in v.items) b c in
      let one : Code = stmts_code p at (stmts_in u.items) (length two + 1 + b) (length two + 1 + c) in
      let g : second ≡ at + stmts_temps (stmts_in u.items) = h4 ∙ ap (λ y. y + n2) f ∙ ap (λ y. at + y) (h3 ∙ ap (λ l. stmts_temps (stmts_in l)) a1) in
      let e1 : c1 ≡ two ++ old = m1 ∙ ap (λ y. stmts_code p y (stmts_in vs) b c ++ old) g ∙ ap (λ l. stmts_code p (at + stmts_temps (stmts_in u.items)) (stmts_in l) b c ++ old) a3 in
      let k1 : passed ≡ length two = omega (arith, l0, l1, l2, ap length e1, length-append two old) in
      let e2 : c2 ≡ Go_to (Jump (length two)) ∷ (two ++ old) = m2 ∙ ap (λ y. Go_to (Jump y) ∷ c1) k1 ∙ ap (λ l. Go_to (Jump (length two)) ∷ l) e1 in
      let kb : over_b ≡ length two + 1 + b = h6 ∙ ap (λ y. y + b) (h5 ∙ ap (λ y. y + 1) k1) in
      let kc : over_c ≡ length two + 1 + c = h7 ∙ ap (λ y. y + c) (h5 ∙ ap (λ y. y + 1) k1) in
      let e3 : c3 ≡ one ++ c2 =
      m3 ∙ ap (λ y. stmts_code p y (stmts_in us2) over_b over_c ++ c2) f ∙ ap (λ l. stmts_code p at (stmts_in l) over_b over_c ++ c2) a2
      ∙ ap (λ y. stmts_code p at (stmts_in u.items) y over_c ++ c2) kb ∙ ap (λ y. stmts_code p at (stmts_in u.items) (length two + 1 + b) y ++ c2) kc in
      let k3 : far ≡ length one + 1 = omega (arith, h8, l3, l4, l5, ap length e3, length-append one c2) in
      let test : Code = expr_code p k (as_expr e) in
      let shape : test ++ (Go_to (JumpIfNot (length one + 1)) ∷ (one ++ (Go_to (Jump (length two)) ∷ (two ++ old)))) ≡ if_code test one two ++ old = simp append_assoc in
      h ∙ ap (λ l. test ++ l) (m4 ∙ ap (λ y. Go_to (JumpIfNot y) ∷ c3) k3 ∙ ap (λ l. Go_to (JumpIfNot (length one + 1)) ∷ l) (e3 ∙ ap (λ l. one ++ l) e2))
      ∙ shape ∙ ap (λ y. stmt_code p k y b c ++ old) (sym (ap as_stmt is ∙ if_seen e u v))

  pub for_emitted : (o : Option TypedExpr) (u v : Vec TypedStmt Global) (us us2 vs vs2 : List TypedStmt) (n1 behind n2 last end test over over_b over_c len3 turn : ℕ) (x : Instr symbols.Symbol) (old c1 c2 c3 c4 new : Code) → s ≡ stmts.For o u v → us ≡ u.items → us2 ≡ u.items → vs ≡ v.items → vs2 ≡ v.items → n1 ≡ stmts_temps (stmts_in vs) → behind ≡ k + n1 → n2 ≡ stmts_temps (stmts_in us) → last ≡ behind + n2 → end ≡ length old → c1 ≡ x ∷ old → c2 ≡ condition_code p last (option_map as_expr o) ++ c1 → test ≡ length c2 → over + end ≡ test → over_b ≡ over + b → over_c ≡ over + c → c3 ≡ stmts_code p behind (stmts_in us2) over_b over_c ++ c2 → len3 ≡ length c3 → turn + end ≡ len3 → c4 ≡ stmts_code p k (stmts_in vs2) turn 0 ++ c3 → Closes c4 end test new → new ≡ stmt_code p k (as_stmt s) b c ++ old
  for_emitted o u v us us2 vs vs2 n1 behind n2 last end test over over_b over_c len3 turn x old c1 c2 c3 c4 new is a1 a2 a3 a4 h1 h2 h3 h4 l0 m1 m2 l1 l2 h5 h6 m3 l3 l4 m4 close =
      let at : ℕ = k + stmts_temps (stmts_in v.items) in
      let at2 : ℕ = at + stmts_temps (stmts_in u.items) in
      let f : behind ≡ at = h2 ∙ ap (λ y. k + y) (h1 ∙ ap (λ l. stmts_temps (stmts_in l)) a3) in
      let g : last ≡ at2 = h4 ∙ ap (λ y. y + n2) f ∙ ap (λ y. at + y) (h3 ∙ ap (λ l. stmts_temps (stmts_in l)) a1) in
      let tc : Code = condition_code p at2 (option_map as_expr o) in
      let post : Code = stmts_code p at (stmts_in u.items) (length tc + 1 + b) (length tc + 1 + c) in
      let body : Code = stmts_code p k (stmts_in v.items) (length post + length tc + 1) 0 in
      let e2 : c2 ≡ tc ++ x ∷ old = m2 ∙ ap (λ y. condition_code p y (option_map as_expr o) ++ c1) g ∙ ap (λ l. tc ++ l) m1 in
      let size2 : length c2 ≡ length tc + (1 + length old) = omega (arith, ap length e2, length-append tc (x ∷ old)) in
      let k1 : over ≡ length tc + 1 = omega (arith, l0, l1, l2, size2) in
      let e3 : c3 ≡ post ++ c2 =
      m3 ∙ ap (λ y. stmts_code p y (stmts_in us2) over_b over_c ++ c2) f ∙ ap (λ l. stmts_code p at (stmts_in l) over_b over_c ++ c2) a2
      ∙ ap (λ y. stmts_code p at (stmts_in u.items) y over_c ++ c2) (h5 ∙ ap (λ y. y + b) k1) ∙ ap (λ y. stmts_code p at (stmts_in u.items) (length tc + 1 + b) y ++ c2) (h6 ∙ ap (λ y. y + c) k1) in
      let k2 : turn ≡ length post + length tc + 1 = omega (arith, l0, l3, l4, size2, ap length e3, length-append post c2) in
      let e4 : c4 ≡ body ++ c3 = m4 ∙ ap (λ l. stmts_code p k (stmts_in l) turn 0 ++ c3) a4 ∙ ap (λ y. stmts_code p k (stmts_in v.items) y 0 ++ c3) k2 in
      let whole : c4 ≡ (body ++ post) ++ (tc ++ x ∷ old) = e4 ∙ ap (λ l. body ++ l) (e3 ∙ ap (λ l. post ++ l) e2) ∙ sym (append_assoc body post (tc ++ x ∷ old)) in
      let size : length (body ++ post) ≡ length body + length post = length-append body post in
      close (body ++ post) tc old x whole (sym l0) (omega (arith, l0, l1, size2))
      ∙ ap (λ y. Go_to (Jump y) ∷ ((body ++ post) ++ (tc ++ Go_to (LoopIf (y + length tc + 1)) ∷ old))) size
      ∙ loop_shape body post tc old ∙ ap (λ y. stmt_code p k y b c ++ old) (sym (ap as_stmt is ∙ for_seen o u v))

  pub range_emitted : (o : Option ℕ) (t : GoType) (e : TypedExpr) (v : Vec TypedStmt Global) (vs : List TypedStmt) (n at end test len3 turn at2 : ℕ) (x : Instr symbols.Symbol) (old c1 c2 c3 c4 c5 c6 c7 new : Code) → s ≡ stmts.Range o t e v → vs ≡ v.items → n ≡ expr_temps (as_expr e) → at ≡ k + n → end ≡ length old → c1 ≡ x ∷ old → c2 ≡ within_code at ++ c1 → test ≡ length c2 → c3 ≡ count_code at (go_type t) ++ c2 → len3 ≡ length c3 → turn + end ≡ len3 → at2 ≡ at + 2 → c4 ≡ stmts_code p at2 (stmts_in vs) turn 0 ++ c3 → c5 ≡ counted_code p at o ++ c4 → Closes c5 end test c6 → c7 ≡ begin_code at ++ c6 → new ≡ expr_code p k (as_expr e) ++ c7 → new ≡ stmt_code p k (as_stmt s) b c ++ old
  range_emitted o t e v vs n at end test len3 turn at2 x old c1 c2 c3 c4 c5 c6 c7 new is a1 h1 h2 l0 m1 m2 l1 m3 l2 l3 h3 m4 m5 close m7 h =
      let first : ℕ = k + expr_temps (as_expr e) in
      let f : at ≡ first = h2 ∙ ap (λ y. k + y) h1 in
      let tc : Code = within_code at in
      let next : Code = count_code at (go_type t) in
      let body : Code = stmts_code p (at + 2) (stmts_in v.items) (length next + length tc + 1) 0 in
      let inside : Code = counted_code p at o ++ body in
      let e2 : c2 ≡ tc ++ x ∷ old = m2 ∙ ap (λ l. tc ++ l) m1 in
      let size2 : length c2 ≡ length tc + (1 + length old) = omega (arith, ap length e2, length-append tc (x ∷ old)) in
      let k2 : turn ≡ length next + length tc + 1 = omega (arith, l0, l2, l3, size2, ap length m3, length-append next c2) in
      let e4 : c4 ≡ body ++ c3 =
      m4 ∙ ap (λ y. stmts_code p y (stmts_in vs) turn 0 ++ c3) h3 ∙ ap (λ l. stmts_code p (at + 2) (stmts_in l) turn 0 ++ c3) a1 ∙ ap (λ y. stmts_code p (at + 2) (stmts_in v.items) y 0 ++ c3) k2 in
      let shape5 : counted_code p at o ++ (body ++ (next ++ (tc ++ x ∷ old))) ≡ (inside ++ next) ++ (tc ++ x ∷ old) = simp append_assoc in
      let whole : c5 ≡ (inside ++ next) ++ (tc ++ x ∷ old) = m5 ∙ ap (λ l. counted_code p at o ++ l) (e4 ∙ ap (λ l. body ++ l) (m3 ∙ ap (λ l. next ++ l) e2)) ∙ shape5 in
      let size : length (inside ++ next) ≡ length inside + length next = length-append inside next in
      let e6 : c6 ≡ loop_code inside next tc ++ old =
      close (inside ++ next) tc old x whole (sym l0) (omega (arith, l0, l1, size2))
      ∙ ap (λ y. Go_to (Jump y) ∷ ((inside ++ next) ++ (tc ++ Go_to (LoopIf (y + length tc + 1)) ∷ old))) size ∙ loop_shape inside next tc old in
      let code : ℕ → Code = λ y.
      expr_code p k (as_expr e) ++ begin_code y
      ++ loop_code (counted_code p y o ++ stmts_code p (y + 2) (stmts_in v.items) (length (count_code {R = symbols.Symbol} y (go_type t)) + length (within_code {R = symbols.Symbol} y) + 1) 0) (count_code y (go_type t)) (within_code y) in
      let shape7 : expr_code p k (as_expr e) ++ (begin_code at ++ (loop_code inside next tc ++ old)) ≡ code at ++ old = simp append_assoc in
      h ∙ ap (λ l. expr_code p k (as_expr e) ++ l) (m7 ∙ ap (λ l. begin_code at ++ l) e6) ∙ shape7 ∙ ap (λ y. code y ++ old) f
      ∙ ap (λ y. stmt_code p k y b c ++ old) (sym (ap as_stmt is ∙ range_seen o t e v))

  pub switch_emitted : (e : TypedExpr) (v : Vec TypedClause Global) (us vs ws xs : List TypedClause) (sizes sizes2 : List ℕ) (n at count first n3 bodies end len1 other place : ℕ) (j : Instr symbols.Symbol) (sz : List ℕ) (old c1 c2 c3 c4 new : Code) → s ≡ stmts.Switch e v → us ≡ v.items → vs ≡ v.items → ws ≡ v.items → xs ≡ v.items → n ≡ expr_temps (as_expr e) → at ≡ k + n → count ≡ cells (go_type e.of) → first ≡ at + count → n3 ≡ cases_temps (clauses_in us) → bodies ≡ first + n3 → end ≡ length old → sz ≡ map length (bodies_code p bodies (clauses_in vs) c) → c1 ≡ concat_code (bodies_code p bodies (clauses_in vs) c) ++ old → len1 ≡ length c1 → other + end ≡ len1 → sizes ≡ sz → place ≡ default_place (clauses_in ws) sizes 0 other → c2 ≡ Go_to (Jump place) ∷ c1 → sizes2 ≡ sz → c3 ≡ tests_code p at (go_type e.of) first (clauses_in xs) sizes2 0 ++ c2 → j ≡ store at count → c4 ≡ j ∷ c3 → new ≡ expr_code p k (as_expr e) ++ c4 → new ≡ stmt_code p k (as_stmt s) b c ++ old
  switch_emitted e v us vs ws xs sizes sizes2 n at count first n3 bodies end len1 other place j sz old c1 c2 c3 c4 new is a1 a2 a3 a4 h1 h2 h3 h4 h5 h6 l0 z m1 l1 l2 z1 h7 m2 z2 m3 hj m4 h =
      let at0 : ℕ = k + expr_temps (as_expr e) in
      let t : Type' = trees.expr_type (as_expr e) in
      let ty : go_type e.of ≡ t = sym (type_seen e) in
      let first0 : ℕ = at0 + cells t in
      let bodies0 : ℕ = first0 + cases_temps (clauses_in v.items) in
      let f1 : at ≡ at0 = h2 ∙ ap (λ y. k + y) h1 in
      let f2 : count ≡ cells t = h3 ∙ ap cells ty in
      let f3 : first ≡ first0 = h4 ∙ ap (λ y. y + count) f1 ∙ ap (λ y. at0 + y) f2 in
      let f4 : bodies ≡ bodies0 = h6 ∙ ap (λ y. y + n3) f3 ∙ ap (λ y. first0 + y) (h5 ∙ ap (λ l. cases_temps (clauses_in l)) a1) in
      let codes : List Code = bodies_code p bodies0 (clauses_in v.items) c in
      let g : bodies_code p bodies (clauses_in vs) c ≡ codes = ap (λ y. bodies_code p y (clauses_in vs) c) f4 ∙ ap (λ l. bodies_code p bodies0 (clauses_in l) c) a2 in
      let e1 : c1 ≡ concat_code codes ++ old = m1 ∙ ap (λ y. concat_code y ++ old) g in
      let sized : sz ≡ map length codes = z ∙ ap (λ y. map length y) g in
      let k1 : other ≡ length (concat_code codes) = omega (arith, l0, l1, l2, ap length e1, length-append (concat_code codes) old) in
      let far : place ≡ default_place (clauses_in v.items) (map length codes) 0 (length (concat_code codes)) =
      h7 ∙ ap (λ l. default_place (clauses_in l) sizes 0 other) a3 ∙ ap (λ y. default_place (clauses_in v.items) y 0 other) (z1 ∙ sized) ∙ ap (default_place (clauses_in v.items) (map length codes) 0) k1 in
      let tests : Code = tests_code p at0 t first0 (clauses_in v.items) (map length codes) 0 in
      let jump : Instr symbols.Symbol = Go_to (Jump (default_place (clauses_in v.items) (map length codes) 0 (length (concat_code codes)))) in
      let e2 : c2 ≡ jump ∷ (concat_code codes ++ old) = m2 ∙ ap (λ y. Go_to (Jump y) ∷ c1) far ∙ ap (λ l. jump ∷ l) e1 in
      let e3 : c3 ≡ tests ++ c2 =
      m3 ∙ ap (λ y. tests_code p y (go_type e.of) first (clauses_in xs) sizes2 0 ++ c2) f1 ∙ ap (λ y. tests_code p at0 y first (clauses_in xs) sizes2 0 ++ c2) ty
      ∙ ap (λ y. tests_code p at0 t y (clauses_in xs) sizes2 0 ++ c2) f3 ∙ ap (λ l. tests_code p at0 t first0 (clauses_in l) sizes2 0 ++ c2) a4
      ∙ ap (λ y. tests_code p at0 t first0 (clauses_in v.items) y 0 ++ c2) (z2 ∙ sized) in
      let shape : expr_code p k (as_expr e) ++ (store at0 (cells t) ∷ (tests ++ (jump ∷ (concat_code codes ++ old)))) ≡ stmt_code p k (trees.switch_statement (as_expr e) (clauses_in v.items)) b c ++ old = simp append_assoc in
      h ∙ ap (λ l. expr_code p k (as_expr e) ++ l) (m4 ∙ ap (λ y. y ∷ c3) (hj ∙ ap (λ y. store y count) f1 ∙ ap (store at0) f2) ∙ ap (λ l. store at0 (cells t) ∷ l) (e3 ∙ ap (λ l. tests ++ l) e2))
      ∙ shape ∙ ap (λ y. stmt_code p k y b c ++ old) (sym (ap as_stmt is ∙ switch_seen e v))

  -- these two look at nothing round them but where the next turn is

  pub range_same : (o : Option ℕ) (t : GoType) (e : TypedExpr) (v : Vec TypedStmt Global) (old new : Code) → s ≡ stmts.Range o t e v → new ≡ stmt_code p k (as_stmt s) 0 0 ++ old → new ≡ stmt_code p k (as_stmt s) b c ++ old
  range_same o t e v old new is h =
      let seen = ap as_stmt is ∙ range_seen o t e v in
      h ∙ ap (λ y. stmt_code p k y 0 0 ++ old) seen ∙ ap (λ y. stmt_code p k y b c ++ old) (sym seen)

  pub switch_same : (e : TypedExpr) (v : Vec TypedClause Global) (old new : Code) → s ≡ stmts.Switch e v → new ≡ stmt_code p k (as_stmt s) 0 c ++ old → new ≡ stmt_code p k (as_stmt s) b c ++ old
  switch_same e v old new is h =
      let seen = ap as_stmt is ∙ switch_seen e v in
      h ∙ ap (λ y. stmt_code p k y 0 c ++ old) seen ∙ ap (λ y. stmt_code p k y b c ++ old) (sym seen)

  pub block_emitted : (v : Vec TypedStmt Global) (vs : List TypedStmt) (old new : Code) → s ≡ stmts.Block v → vs ≡ v.items → new ≡ stmts_code p k (stmts_in vs) b c ++ old → new ≡ stmt_code p k (as_stmt s) b c ++ old
  block_emitted v vs old new is a h =
      h ∙ ap (λ l. stmts_code p k (stmts_in l) b c ++ old) a ∙ ap (λ y. stmt_code p k y b c ++ old) (sym (ap as_stmt is ∙ block_seen v))

module _ (p : Places symbols.Symbol) where
  -- as many codes as clauses
  pub bodies_count : (c k : ℕ) (cs : List TypedClause) → length (map length (bodies_code p k (clauses_in cs) c)) ≡ length cs
  bodies_count c k [] = refl
  bodies_count c k (x ∷ cs) = ap suc (bodies_count c (k + stmts_temps (stmts_in x.body.items)) cs)

  pub stmts_step : (b c : ℕ) (ss : List TypedStmt) (i : ℕ) (x : TypedStmt) (b0 b1 n end len d db dc : ℕ) (old c0 c1 : Code) → drop (i - 1) ss ≡ x ∷ drop i ss → n ≡ stmt_temps (as_stmt x) → b1 + n ≡ b0 → c0 ≡ stmts_code p b0 (stmts_in (drop i ss)) b c ++ old → end ≡ length old → len ≡ length c0 → d + end ≡ len → db ≡ d + b → dc ≡ d + c → c1 ≡ stmt_code p b1 (as_stmt x) db dc ++ c0 → c1 ≡ stmts_code p b1 (stmts_in (drop (i - 1) ss)) b c ++ old
  stmts_step b c ss i x b0 b1 n end len d db dc old c0 c1 is tm s m0 l0 l1 l2 h1 h2 m1 =
      let at : b0 ≡ b1 + stmt_temps (as_stmt x) = sym s ∙ ap (λ y. b1 + y) tm in
      let rest : Code = stmts_code p (b1 + stmt_temps (as_stmt x)) (stmts_in (drop i ss)) b c in
      let g0 : c0 ≡ rest ++ old = m0 ∙ ap (λ y. stmts_code p y (stmts_in (drop i ss)) b c ++ old) at in
      let k1 : d ≡ length rest = omega (arith, l0, l1, l2, ap length g0, length-append rest old) in
      m1 ∙ ap (λ y. stmt_code p b1 (as_stmt x) y dc ++ c0) (h1 ∙ ap (λ y. y + b) k1) ∙ ap (λ y. stmt_code p b1 (as_stmt x) (length rest + b) y ++ c0) (h2 ∙ ap (λ y. y + c) k1)
      ∙ ap (λ l. stmt_code p b1 (as_stmt x) (length rest + b) (length rest + c) ++ l) g0
      ∙ sym (append_assoc (stmt_code p b1 (as_stmt x) (length rest + b) (length rest + c)) rest old)
      ∙ ap (λ l. stmts_code p b1 (stmts_in l) b c ++ old) (sym is)

  pub stmts_left : (ss : List TypedStmt) (i : ℕ) (x : TypedStmt) (b0 b1 n total : ℕ) → drop (i - 1) ss ≡ x ∷ drop i ss → n ≡ stmt_temps (as_stmt x) → b1 + n ≡ b0 → b0 + stmts_temps (stmts_in (drop i ss)) ≡ total → b1 + stmts_temps (stmts_in (drop (i - 1) ss)) ≡ total
  stmts_left ss i x b0 b1 n total is t s h =
      let more : stmts_temps (stmts_in (drop (i - 1) ss)) ≡ stmt_temps (as_stmt x) + stmts_temps (stmts_in (drop i ss)) = ap (λ l. stmts_temps (stmts_in l)) is in
      omega (arith, more, t, s, h)

  -- the last clause of those that are there, and its size
  module _ (c : ℕ) (cs : List TypedClause) (i : ℕ) (x : TypedClause) (body body2 : List TypedStmt) (b0 b1 n end len0 d len1 after after_c len2 q size : ℕ) (old c0 c1 c2 : Code) (is : drop (i - 1) cs ≡ x ∷ drop i cs) (a1 : body ≡ x.body.items) (a2 : body2 ≡ x.body.items) (tm : n ≡ stmts_temps (stmts_in body)) (s : b1 + n ≡ b0) (m0 : c0 ≡ concat_code (bodies_code p b0 (clauses_in (drop i cs)) c) ++ old) (l0 : end ≡ length old) (l1 : len0 ≡ length c0) (l2 : d + end ≡ len0) (m1 : c1 ≡ leave_code x.falls d ++ c0) (l3 : len1 ≡ length c1) (l4 : after + end ≡ len1) (h1 : after_c ≡ after + c) (m2 : c2 ≡ stmts_code p b1 (stmts_in body2) after after_c ++ c1) (l5 : len2 ≡ length c2) (l6 : q + end ≡ len2) (l7 : size + d ≡ q) where
    abbrev rest : List Code
    rest = bodies_code p (b1 + stmts_temps (stmts_in x.body.items)) (clauses_in (drop i cs)) c

    abbrev leave : Code
    leave = leave_code x.falls (length (concat_code rest))

    abbrev front : Code
    front = stmts_code p b1 (stmts_in x.body.items) (length leave + length (concat_code rest)) (length leave + length (concat_code rest) + c)

    pub same_place : b0 ≡ b1 + stmts_temps (stmts_in x.body.items)
    same_place = sym s ∙ ap (λ y. b1 + y) (tm ∙ ap (λ l. stmts_temps (stmts_in l)) a1)

    same_rest : bodies_code p b0 (clauses_in (drop i cs)) c ≡ rest
    same_rest = ap (λ y. bodies_code p y (clauses_in (drop i cs)) c) same_place

    passed_is : d ≡ length (concat_code rest)
    passed_is =
        let g0 : c0 ≡ concat_code rest ++ old = m0 ∙ ap (λ y. concat_code y ++ old) same_rest in
        omega (arith, l0, l1, l2, ap length g0, length-append (concat_code rest) old)

    leave_is : c1 ≡ leave ++ (concat_code rest ++ old)
    leave_is = m1 ∙ ap (λ y. leave_code x.falls y ++ c0) passed_is ∙ ap (λ l. leave ++ l) (m0 ∙ ap (λ y. concat_code y ++ old) same_rest)

    after_is : after ≡ length leave + length (concat_code rest)
    after_is = omega (arith, l0, l3, l4, ap length leave_is, length-append leave (concat_code rest ++ old), length-append (concat_code rest) old)

    front_is : c2 ≡ front ++ (leave ++ (concat_code rest ++ old))
    front_is =
        m2 ∙ ap (λ l. stmts_code p b1 (stmts_in l) after after_c ++ c1) a2 ∙ ap (λ y. stmts_code p b1 (stmts_in x.body.items) y after_c ++ c1) after_is
        ∙ ap (λ y. stmts_code p b1 (stmts_in x.body.items) (length leave + length (concat_code rest)) y ++ c1) (h1 ∙ ap (λ y. y + c) after_is) ∙ ap (λ l. front ++ l) leave_is

    pub bodies_step : c2 ≡ concat_code (bodies_code p b1 (clauses_in (drop (i - 1) cs)) c) ++ old
    bodies_step =
        front_is ∙ clause_shape front leave (concat_code rest) old ∙ ap (λ l. concat_code (bodies_code p b1 (clauses_in l) c) ++ old) (sym is)

    pub bodies_left : (total : ℕ) → b0 + bodies_temps (clauses_in (drop i cs)) ≡ total → b1 + bodies_temps (clauses_in (drop (i - 1) cs)) ≡ total
    bodies_left total h =
        let more : bodies_temps (clauses_in (drop (i - 1) cs)) ≡ stmts_temps (stmts_in x.body.items) + bodies_temps (clauses_in (drop i cs)) = ap (λ l. bodies_temps (clauses_in l)) is in
        omega (arith, more, same_place, h)

    pub sizes_step : (sizes sizes2 : List ℕ) → reverse sizes ≡ map length (bodies_code p b0 (clauses_in (drop i cs)) c) → sizes2 ≡ sizes ++ size ∷ [] → reverse sizes2 ≡ map length (bodies_code p b1 (clauses_in (drop (i - 1) cs)) c)
    sizes_step sizes sizes2 m h =
        let long : size ≡ length (front ++ leave) =
        omega (arith, l0, l5, l6, l7, passed_is, length-append front leave, ap length front_is, length-append front (leave ++ (concat_code rest ++ old)), length-append leave (concat_code rest ++ old), length-append (concat_code rest) old) in
        ap reverse h ∙ reverse-append sizes (size ∷ []) ∙ ap (λ y. y ∷ reverse sizes) long ∙ ap (λ l. length (front ++ leave) ∷ l) (m ∙ ap (λ y. map length y) same_rest)
        ∙ ap (λ l. map length (bodies_code p b1 (clauses_in l) c)) (sym is)
