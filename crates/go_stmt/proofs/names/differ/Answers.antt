use Rattle.std.proofs.Common.{◌≡◌, ℕ, ◌+◌, ◌<◌, ◌≤◌, true, false, List, [], ◌∷◌, ◌++◌, length, drop, get_or, sym, ap, ◌∙◌, subst, arith}
use Rattle.std.proofs.lemmas.List.{drop_all}
use Rattle.go_ast.specs.Trees.{Name}
use Rattle.go_scope.proofs.Indexes.{Differing, differing_all}
use Rattle.go_stmt.specs.Views.{own_texts}
use Rattle.go_stmt.proofs.Naming.{is_in, texts_begin, texts_more, texts_not, differ_by_texts}
use Rattle.go_stmt.proofs.Sequences.{left}
use Rattle.go_stmt.proofs.names.differ.Goals as goal

begins : (ns : List Name) (i : ℕ) (n : Name) → i < length ns → n ≡ get_or ns i n → own_texts (drop i ns) ≡ own_texts (n ∷ []) ++ own_texts (drop (i + 1) ns)
begins ns i n within is = ap own_texts (left ns i n within is) ∙ texts_begin n (drop (i + 1) ns)

pub returns-then-branch : goal.returns-then-branch
returns-then-branch c =
    let ns = c.args.names.now in
    let i = c.loop-name.name-index in
    let n = c.name-item.result in
    let within : i < length ns = omega arith in
    let known : is_in c.loop-name.before n ≡ true = sym c.in_ok-add_name.ensures.known ∙ c.if-branch.true in
    texts_not c.loop-name.before (own_texts (drop i ns)) (own_texts (drop (i + 1) ns)) (own_texts ns) n c.loop-name.invariant (begins ns i n within c.name-item.is) known ∙ differ_by_texts ns

pub loop-name-preserved : goal.loop-name-preserved
loop-name-preserved c =
    let ns = c.args.names.now in
    let i = c.loop-name.name-index in
    let n = c.name-item.result in
    let within : i < length ns = omega arith in
    let new : is_in c.loop-name.before n ≡ false = sym c.in_ok-add_name.ensures.known ∙ c.if-branch.false in
    let grown : c.add_name.new.names ≡ c.loop-name.before ++ own_texts (n ∷ []) = c.in_ok-add_name.ensures.added in
    subst (λ (l : List (List ℕ)). Differing l (own_texts (drop (i + 1) ns)) (own_texts ns)) (sym grown)
    (texts_more c.loop-name.before (own_texts (drop i ns)) (own_texts (drop (i + 1) ns)) (own_texts ns) n c.loop-name.invariant (begins ns i n within c.name-item.is) new)

pub returns : goal.returns
returns c =
    let ns = c.args.names.now in
    let i = c.loop-name.name-index in
    let done : length ns ≤ i = omega (arith, c.loop-name-test.false) in
    differing_all c.loop-name.before (own_texts ns) (subst (λ (l : List Name). Differing c.loop-name.before (own_texts l) (own_texts ns)) (drop_all i ns done) c.loop-name.invariant) ∙ differ_by_texts ns
