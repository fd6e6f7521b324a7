-- Lists that are read item by item.
use Rattle.std.proofs.Common.{◌≡◌, ◌∙◌, ℕ, suc, ◌+◌, ◌-◌, ◌<◌, ◌≤◌, List, [], ◌∷◌, ◌++◌, sym, ap, append_assoc, append-nil, arith}
use Rattle.go_packed.specs.Tokens.{PackedToken}
use Rattle.go_packed.specs.Reading.{Read, read_many, as_part}

-- one more item was read
pub one_more : {A : Type 0} (read : List PackedToken → Read A) (count done : ℕ) (items new : List A) (before after : List PackedToken) (x : A) (all : Read (List A)) → done < count
    → all ≡ as_part (λ xs. items ++ xs) (read_many read (count - done) before) → read before ≡ (x, after) → new ≡ items ++ x ∷ []
    → all ≡ as_part (λ xs. new ++ xs) (read_many read (count - (done + 1)) after)
one_more {A = A} read count done items new before after x all left was is more =
    let size : count - done ≡ suc (count - (done + 1)) = omega arith in
    let put : Read A → Read (List A) = λ r. (items ++ (r.0 ∷ (read_many read (count - (done + 1)) r.1).0), (read_many read (count - (done + 1)) r.1).1) in
    let with : List A → Read (List A) = λ xs. (xs, (read_many read (count - (done + 1)) after).1) in
    was
    ∙ ap (λ n. as_part (λ xs. items ++ xs) (read_many read n before)) size
    ∙ ap put is
    ∙ ap with (sym (append_assoc items (x ∷ []) (read_many read (count - (done + 1)) after).0))
    ∙ ap (λ l. as_part (λ xs. l ++ xs) (read_many read (count - (done + 1)) after)) (sym more)

-- none is left to read
pub none_left : {A : Type 0} (read : List PackedToken → Read A) (count done : ℕ) (items : List A) (left : List PackedToken) (all : Read (List A)) → count ≤ done
    → all ≡ as_part (λ xs. items ++ xs) (read_many read (count - done) left) → all ≡ (items, left)
none_left {A = A} read count done items left all passed was =
    let with : List A → Read (List A) = λ xs. (xs, left) in
    was ∙ rw (let e : count - done ≡ 0 = omega arith in e) (ap with (append-nil items))
