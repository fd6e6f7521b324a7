use Rattle.std.proofs.Common.{◌<◌, ◌+◌, [], Bor, List, ℕ, map, drop, length, get_or, refl, ap, arith}
use Rattle.std.specs.Prelude.{bytes_eq}
use Rattle.std.specs.List.{list_any}
use Rattle.go_objects.proofs.Firsts.{not_false, not_true}
use Rattle.go_objects.proofs.Signatures.{next_of, differing_more, differing_not}
use Rattle.go_objects.proofs.signature.differ.Goals as goal

pub returns-then-not-branch : goal.returns-then-not-branch
returns-then-not-branch c =
    let names = c.args.names.now in
    let keys = c.loop-name.seen.keys in
    let k = c.loop-name.name-index in
    let none : Bor (List ℕ) = record { ref_ptr = (0, 0); now = [] } in
    let key = get_or names k none in
    let inside : k < length names = omega (arith, c.loop-name-test.true) in
    let left = ap (map (λ (n : Bor (List ℕ)). n.now)) (next_of names k key none inside refl) in
    differing_not keys key (map (λ n. n.now) (drop k names)) (map (λ n. n.now) (drop (k + 1) names)) (map (λ n. n.now) names) c.loop-name.invariant left
    (not_true c.in_ok-insert.field-0 (list_any (λ (y : Bor (List ℕ)). bytes_eq key.now y.now) keys) c.in_ok-insert.ensures.added c.if-not-branch.true)

pub loop-name-preserved : goal.loop-name-preserved
loop-name-preserved c =
    let names = c.args.names.now in
    let keys = c.loop-name.seen.keys in
    let k = c.loop-name.name-index in
    let none : Bor (List ℕ) = record { ref_ptr = (0, 0); now = [] } in
    let key = get_or names k none in
    let inside : k < length names = omega (arith, c.loop-name-test.true) in
    let left = ap (map (λ (n : Bor (List ℕ)). n.now)) (next_of names k key none inside refl) in
    differing_more keys c.insert.new.self.keys key (map (λ n. n.now) (drop k names)) (map (λ n. n.now) (drop (k + 1) names)) (map (λ n. n.now) names) c.loop-name.invariant left
    (not_false c.in_ok-insert.field-0 (list_any (λ (y : Bor (List ℕ)). bytes_eq key.now y.now) keys) c.in_ok-insert.ensures.added c.if-not-branch.false) c.in_ok-insert.ensures.keys
