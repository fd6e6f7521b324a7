-- Blocks: what is taken for them is what the grammar says, both ways.
use Rattle.std.proofs.Common.{◌≡◌, ℕ, ◌+◌, ◌≤◌, List, ◌∷◌, refl, sym, ap, ◌∙◌, subst, arith}
use Rattle.go_text.specs.declared.edition.Edition.{Edition}
use Rattle.go_ast.specs.Trees.{Block, block, File, pack_statements}
use Rattle.go_ast.specs.Heights.{block_height}
use Rattle.go_ast.specs.Grammar.{Lexeme, Token, opening_brace, IsBlock}
use Rattle.go_ast.specs.Machine.{Reader, open_block, read_block}
use Rattle.go_ast.proofs.Means.{Means, Good}
use Rattle.go_ast.proofs.Base.{first_is}
use Rattle.go_ast.proofs.Values.{stmts_of, pack_stmts_of, stmts_fit, fit_stmts}
use Rattle.go_ast.proofs.Packs.{stmts_from, stmts_to}

module _ (ed : Edition) (B : ℕ) where
  pub open_block_back : (l : ℕ) (next : Block → Reader) (o : Lexeme) (us vs : List Lexeme) (f : File) → Token opening_brace o us vs → l ≤ B →
      Means ed B (open_block l next o) vs f →
      (b : Block) × (ws : List Lexeme) × IsBlock ed b us ws × (l + block_height b ≤ B + 1) × Means ed B (next b) ws f
  open_block_back l next o us vs f opens le m = (
    block o.place (pack_statements m.0) m.1.place,
    m.3,
    (o, m.1, vs, m.2, opens, refl, stmts_from ed (l + 1) m.0 vs m.2 m.4, m.6, refl),
    omega (arith, stmts_fit ed B (l + 1) m.0 (omega (arith, le)) m.5),
    m.7,
  )

  pub block_back : (l : ℕ) (next : Block → Reader) (us : List Lexeme) (f : File) → Means ed B (read_block l next) us f →
      (b : Block) × (ws : List Lexeme) × IsBlock ed b us ws × (l + block_height b ≤ B + 1) × Means ed B (next b) ws f
  block_back l next us f m = open_block_back l next m.0 us m.1 f m.2 m.3 m.4

  pub block_forth : (l : ℕ) (next : Block → Reader) (b : Block) (us ws : List Lexeme) (f : File) → IsBlock ed b us ws → l + block_height b ≤ B + 1 →
      Means ed B (next b) ws f →
      Means ed B (read_block l next) us f
  block_forth l next (block p ss q) us ws f d le m =
      let all : block p ss q ≡ block d.0.place (pack_statements (stmts_of ss)) d.1.place =
      ap (λ x. block x ss q) d.5 ∙ ap (λ x. block d.0.place x q) (sym (pack_stmts_of ss)) ∙ ap (λ x. block d.0.place (pack_statements (stmts_of ss)) x) d.8 in (
        d.0,
        d.2,
        d.4,
        omega (arith, le),
        (stmts_of ss, d.1, d.3, ws, stmts_to ed (l + 1) ss d.2 d.3 d.6, fit_stmts ed B (l + 1) ss (omega (arith, le)), d.7, subst (λ x. Means ed B (next x) ws f) all m),
      )

  -- the same, where the brace was taken
  pub open_block_forth : (l : ℕ) (next : Block → Reader) (b : Block) (t : Lexeme) (us ws : List Lexeme) (f : File) → IsBlock ed b (t ∷ us) ws →
      l + block_height b ≤ B + 1 →
      Means ed B (next b) ws f → (t.kind ≡ opening_brace) × (l ≤ B) × Means ed B (open_block l next t) us f
  open_block_forth l next b t us ws f d le m =
      let r = block_forth l next b (t ∷ us) ws f d le m in
      let h = first_is opening_brace t r.0 us r.1 r.2 in
      (h.2, r.3, subst (λ x. Means ed B (open_block l next x) us f) (sym h.0) (subst (λ xs. Means ed B (open_block l next r.0) xs f) (sym h.1) r.4))

  pub open_block_good : (l : ℕ) (next : Block → Reader) (o : Lexeme) → l ≤ B → ((b : Block) → l + block_height b ≤ B + 1 → Good ed B (next b)) →
      Good ed B (open_block l next o)
  open_block_good l next o le good =
      (tt, (omega (arith, le), tt, λ ss c fit. good (block o.place (pack_statements ss) c.place) (omega (arith, stmts_fit ed B (l + 1) ss (omega (arith, le)) fit))))

  pub block_good : (l : ℕ) (next : Block → Reader) → l ≤ B → ((b : Block) → l + block_height b ≤ B + 1 → Good ed B (next b)) → Good ed B (read_block l next)
  block_good l next le good = (le, λ o e q. open_block_good l next o le good)
