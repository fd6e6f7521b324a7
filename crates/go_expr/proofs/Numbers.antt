-- What is found among numbered items, on the way through them.
use Rattle.std.proofs.Common.{◌≡◌, ℕ, suc, ◌+◌, ◌<◌, Bool, true, false, cond, Option, Some, List, length, map, drop, get_or, sym, ap, ◌∙◌, add-one}
use Rattle.std.specs.List.{find}
use Rattle.go_expr.specs.Rules.{numbered}
use Rattle.go_expr.proofs.Lists.{left}

pub find_later : {A B : Type 0} (test : ℕ × B → Bool) (view : A → B) (xs : List A) (i : ℕ) (x : A) (whole : Option (ℕ × B)) → i < length xs → x ≡ get_or xs i x → test (i, view x) ≡ false →
    find test (numbered i (map view (drop i xs))) ≡ whole → find test (numbered (i + 1) (map view (drop (i + 1) xs))) ≡ whole
find_later test view xs i x whole within is out so_far =
    ap (λ n. find test (numbered n (map view (drop (i + 1) xs)))) (add-one i)
    ∙ sym (ap (λ b. cond b (Some (i, view x)) (find test (numbered (suc i) (map view (drop (i + 1) xs))))) out)
    ∙ sym (ap (λ l. find test (numbered i (map view l))) (left xs i x within is)) ∙ so_far

pub find_here : {A B : Type 0} (test : ℕ × B → Bool) (view : A → B) (xs : List A) (i : ℕ) (x : A) (whole : Option (ℕ × B)) → i < length xs → x ≡ get_or xs i x → test (i, view x) ≡ true →
    find test (numbered i (map view (drop i xs))) ≡ whole → whole ≡ Some (i, view x)
find_here test view xs i x whole within is found so_far =
    sym so_far ∙ ap (λ l. find test (numbered i (map view l))) (left xs i x within is)
    ∙ ap (λ b. cond b (Some (i, view x)) (find test (numbered (suc i) (map view (drop (i + 1) xs))))) found
