-- By the grammar functions declare no types.
use Rattle.std.proofs.Common.{ℕ, Bool, true, List, [], ◌∷◌, sym, subst, inl, inr}
use Rattle.go_text.specs.declared.edition.Edition.{Edition}
use Rattle.go_ast.specs.Parse.{IsParse, Derived}
use Rattle.go_ast.specs.Tokens.{lexemes}
use Rattle.go_ast.specs.Grammar.{Lexeme, IsStmt, IsBlock, IsIf, IsElse, AreStmts, AreClauses, IsFunction, AreTopLevels, IsFile, is_last}
use Rattle.go_ast.specs.Trees.{Statement, empty, declaration, simple, return, break, continue, fallthrough, block_statement, if_statement, for_statement, range_statement, switch_statement, Block, block, If, conditional, Else, no_else, else_block, else_if, StatementList, no_stmts, some_stmts, Cases, no_clauses, clause, FunctionDecl, TopLevel, declared, function, File}
use Rattle.go_package_laws.specs.Locals.{AreLocal, IsLocalIn, IsLocalBlock, IsLocalIf, IsLocalElse, AreLocalClauses}

-- functions among declarations declare no types
abbrev pub AllLocal : List TopLevel → Type 0
AllLocal [] = Unit {0}
AllLocal (declared d ∷ ts) = AllLocal ts
AllLocal (function f ∷ ts) = IsLocalBlock f.body × AllLocal ts

module _ (ed : Edition) where
  mutual
    local_in : (s : Statement) (us ws : List Lexeme) → IsStmt ed s us ws → IsLocalIn s
    local_in (empty p) us ws h = tt
    local_in (declaration p d) us ws (is, place, none) = none
    local_in (simple p s) us ws h = tt
    local_in (return p es) us ws h = tt
    local_in (break p) us ws h = tt
    local_in (continue p) us ws h = tt
    local_in (fallthrough p) us ws h = tt
    local_in (block_statement b) us ws h = local_block b us ws h
    local_in (if_statement i) us ws h = local_if i us ws h
    local_in (for_statement p i c n b) us ws (t, vs, xs, for, place, head, body) = local_block b xs ws body
    local_in (range_statement p n e b) us ws (t, r, vs, xs, ys, zs, for, place, name, range, of, body) = local_block b zs ws body
    local_in (switch_statement p i t cs) us ws (k, o, c, vs, xs, ys, zs, last, is, place, start, tag, opens, clauses, closes) = local_clauses cs zs last clauses

    local_block : (b : Block) (us ws : List Lexeme) → IsBlock ed b us ws → IsLocalBlock b
    local_block (block p ss q) us ws (o, c, vs, xs, opens, place, stmts, closes, end) = local_stmts true ss vs xs stmts

    local_if : (i : If) (us ws : List Lexeme) → IsIf ed i us ws → IsLocalIf i
    local_if (conditional p i e b r) us ws (t, vs, xs, ys, zs, is, place, start, of, body, other) = (local_block b ys zs body, local_else r zs ws other)

    local_else : (r : Else) (us ws : List Lexeme) → IsElse ed r us ws → IsLocalElse r
    local_else no_else us ws h = tt
    local_else (else_block b) us ws (t, vs, is, body) = local_block b vs ws body
    local_else (else_if i) us ws (t, vs, is, other) = local_if i vs ws other

    local_stmts : (closed : Bool) (ss : StatementList) (us ws : List Lexeme) → AreStmts ed closed ss us ws → AreLocal ss
    local_stmts closed no_stmts us ws h = tt
    local_stmts closed (some_stmts s ss) us ws (vs, is, behind) = (
      local_in s us vs is,
      elim behind [
        | inl h ↦ local_stmts closed ss h.1 ws h.3
        | inr h ↦ subst AreLocal (sym (h.0).0) tt
      ],
    )

    local_clauses : (cs : Cases) (us ws : List Lexeme) → AreClauses ed cs us ws → AreLocalClauses cs
    local_clauses no_clauses us ws h = tt
    local_clauses (clause p es ss cs) us ws (t, vs, xs, ys, values, colon, stmts, rest) = (local_stmts (is_last cs) ss xs ys stmts, local_clauses cs ys ws rest)

  local_function : (f : FunctionDecl) (us ws : List Lexeme) → IsFunction ed f us ws → IsLocalBlock f.body
  local_function f us ws (k, t, o, c, vs, xs, ys, zs, end, behind, is, place, named, name, opens, parameters, closes, results, body) = local_block f.body behind ws body

  local_tops : (ts : List TopLevel) (us ws : List Lexeme) → AreTopLevels ed ts us ws → AllLocal ts
  local_tops [] us ws h = tt
  local_tops (declared d ∷ ts) us ws (t, vs, xs, is, semicolon, rest) = local_tops ts xs ws rest
  local_tops (function f ∷ ts) us ws (t, vs, xs, is, semicolon, rest) = (local_function f us vs is, local_tops ts xs ws rest)

  local_file : (f : File) (ts : List Lexeme) → IsFile ed f ts → AllLocal f.declarations
  local_file f ts (k, t, s, vs, xs, ys, zs, iss, is, name, full, named, semicolon, imports, all, tops) = local_tops f.declarations zs [] tops

pub parsed_local : (ed : Edition) (text : List ℕ) (f : File) → IsParse ed text (Derived f) → AllLocal f.declarations
unfolding IsParse
parsed_local ed text f (ts, lexes, derives) = local_file ed f (lexemes text ts) derives.derived
