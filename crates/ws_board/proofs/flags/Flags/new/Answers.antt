use Rattle.std.proofs.Common.{rules, ◌≡◌, ◌-◌, ◌+◌, ◌*◌, ◌||◌, ℕ, false, length, get_or, replicate, drop, sym, ap, ◌∙◌, arith}
use Rattle.std.proofs.lemmas.List.{drop-replicate, length-replicate}
use Rattle.ws_board.proofs.Trees.{no_flag}
use Rattle.ws_board.proofs.flags.Flags.new.Goals as goal

pub returns : goal.returns
returns c =
    let all = c.in-Some-checked_add.all in
    let items : c.in_ok-tree.tree.items ≡ replicate all false = search rules in
    let count : all - c.in-Some.inner ≡ c.args.count = omega arith in
    ap (drop c.in-Some.inner) items ∙ drop-replicate c.in-Some.inner all false ∙ ap (λ n. replicate n false) count

pub invariant_of-result : goal.invariant_of-result
invariant_of-result c =
    let all = c.in-Some-checked_add.all in
    let inner = c.in-Some.inner in
    let tree = c.in_ok-tree.tree.items in
    let items : tree ≡ replicate all false = search rules in
    let len : length tree ≡ all = ap length items ∙ length-replicate all false in
    let sum : all ≡ inner + c.args.count = omega arith in
    let none : (i : ℕ) → get_or tree i false ≡ false = λ i. ap (λ l. get_or l i false) items ∙ no_flag all i in
    record {
      height = c.in-Some.ensures.0.0;
      power = c.in-Some.ensures.0.1;
      nodes = omega (arith, len, sum);
      flags = omega (arith, len, sum, c.in-Some.ensures.1);
      each = λ node some lt. none node ∙ sym (ap (λ b. b || get_or tree (2 * node + 1) false) (none (2 * node)) ∙ none (2 * node + 1));
    }
