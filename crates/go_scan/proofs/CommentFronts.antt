-- Comments at the front of a text.
use Rattle.std.proofs.Common.{◌≡◌, ℕ, ◌+◌, ◌<◌, ◌≤◌, zero, suc, Bool, true, false, cond, ◌||◌, ◌&&◌, nat_eq, List, [], ◌∷◌, ◌++◌, length, take, drop, Some, refl, sym, ap, ◌∙◌, subst, arith, one-add, append_assoc, length-append, eqb-true}
use Rattle.std.specs.List.{list_all, prefix_len}
use Rattle.std.proofs.lemmas.Bool.Decides.{nat_tests}
use Rattle.go_scan.specs.declared.shape.Shape.TheVariants.{LineComment, BlockComment, OpenComment}
use Rattle.go_scan.specs.Comments.{is_in_line, holds_close}
use Rattle.go_scan.specs.Fronts.{before_close, block_shape}
use Rattle.go_scan.proofs.Runs.{run_le, run_all, Good, Fits}

-- line comments
pub line_good : (bs : List ℕ) → Good (47 ∷ 47 ∷ bs) (Some (LineComment, prefix_len is_in_line bs + 2))
line_good bs =
    let n : ℕ = prefix_len is_in_line bs in
    let all = run_all is_in_line bs in
    let size : n + 2 ≡ suc (suc n) = omega arith in
    ((take n bs, ap (λ k. take k (47 ∷ 47 ∷ bs)) size, all.0), omega arith, omega (arith, all.1))

pub line_fits : (tail rest : List ℕ) → list_all is_in_line tail ≡ true → Fits LineComment (length (47 ∷ 47 ∷ tail)) (Some (LineComment, prefix_len is_in_line (tail ++ rest) + 2))
line_fits tail rest e = (omega (arith, run_le is_in_line tail rest e), λ _. refl)

-- the star that came right before, if one did
abbrev star_first : Bool → List ℕ → List ℕ
star_first true xs = 42 ∷ xs
star_first false xs = xs

first_star : (b : ℕ) (xs : List ℕ) → b ∷ xs ≡ cond (nat_eq b 42) (42 ∷ xs) (b ∷ xs)
first_star b xs = by_test (nat_eq b 42) refl
  where
    by_test : (c : Bool) → nat_eq b 42 ≡ c → b ∷ xs ≡ cond c (42 ∷ xs) (b ∷ xs)
    by_test true e = ap (λ x. x ∷ xs) (eqb-true b 42 e)
    by_test false e = refl

-- a byte that is no star is passed over
pass_over : (b : ℕ) (xs : List ℕ) → holds_close (star_first (nat_eq b 42) xs) ≡ holds_close (b ∷ xs)
pass_over b xs = by_test (nat_eq b 42) refl xs
  where
    by_test : (c : Bool) → nat_eq b 42 ≡ c → (xs : List ℕ) → holds_close (star_first c xs) ≡ holds_close (b ∷ xs)
    by_test true e xs = ap (λ x. holds_close (x ∷ xs)) (sym (eqb-true b 42 e))
    by_test false e [] = refl
    by_test false e (c ∷ cs) = ap (λ x. (x && nat_eq c 47) || holds_close (c ∷ cs)) (sym e)

-- what stands before the close holds none
before_none : (star : Bool) (xs : List ℕ) → holds_close (star_first star (take (before_close star xs) xs)) ≡ false
before_none true [] = refl
before_none false [] = refl
before_none false (b ∷ bs) =
    ap (λ k. holds_close (take k (b ∷ bs))) (one-add (before_close (nat_eq b 42) bs))
    ∙ sym (pass_over b (take (before_close (nat_eq b 42) bs) bs)) ∙ before_none (nat_eq b 42) bs
before_none true (b ∷ bs) = by_test (nat_eq b 47) refl (before_none (nat_eq b 42) bs)
  where
    by_test : (c : Bool) → nat_eq b 47 ≡ c → holds_close (star_first (nat_eq b 42) (take (before_close (nat_eq b 42) bs) bs)) ≡ false → holds_close (42 ∷ take (cond c 0 (1 + before_close (nat_eq b 42) bs)) (b ∷ bs)) ≡ false
    by_test true e ih = refl
    by_test false e ih =
        ap (λ k. holds_close (42 ∷ take k (b ∷ bs))) (one-add (before_close (nat_eq b 42) bs))
        ∙ ap (λ x. x || holds_close (b ∷ take (before_close (nat_eq b 42) bs) bs)) e
        ∙ sym (pass_over b (take (before_close (nat_eq b 42) bs) bs)) ∙ ih

before_le : (star : Bool) (xs : List ℕ) → before_close star xs ≤ length xs
before_le true [] = omega arith
before_le false [] = omega arith
before_le false (b ∷ bs) = omega (arith, before_le (nat_eq b 42) bs)
before_le true (b ∷ bs) = by_test (nat_eq b 47) (before_le (nat_eq b 42) bs)
  where
    by_test : (c : Bool) → before_close (nat_eq b 42) bs ≤ length bs → cond c 0 (1 + before_close (nat_eq b 42) bs) ≤ length (b ∷ bs)
    by_test true ih = omega arith
    by_test false ih = omega (arith, ih)

-- where it ends before the text does, a star and the slash stand there
abbrev Closed : Bool → List ℕ → ℕ → Type 0
Closed star xs n = (tail : List ℕ) × (others : List ℕ) × (star_first star (take n xs) ≡ tail ++ 42 ∷ []) × (drop n xs ≡ 47 ∷ others)

closed_more : (star : Bool) (b : ℕ) (bs : List ℕ) (n : ℕ) → Closed (nat_eq b 42) bs n → Closed star (b ∷ bs) (suc n)
closed_more star b bs n (tail, others, e, d) = by_test (nat_eq b 42) refl e
  where
    with_star : (star : Bool) (ys : List ℕ) → b ∷ take n bs ≡ ys ++ 42 ∷ [] → (zs : List ℕ) × (star_first star (b ∷ take n bs) ≡ zs ++ 42 ∷ [])
    with_star true ys q = (42 ∷ ys, ap (λ xs. 42 ∷ xs) q)
    with_star false ys q = (ys, q)

    done : (ys : List ℕ) → b ∷ take n bs ≡ ys ++ 42 ∷ [] → Closed star (b ∷ bs) (suc n)
    done ys q = let w = with_star star ys q in (w.0, others, w.1, d)

    by_test : (c : Bool) → nat_eq b 42 ≡ c → star_first c (take n bs) ≡ tail ++ 42 ∷ [] → Closed star (b ∷ bs) (suc n)
    by_test true t q = done tail (ap (λ x. x ∷ take n bs) (eqb-true b 42 t) ∙ q)
    by_test false t q = done (b ∷ tail) (ap (λ xs. b ∷ xs) q)

before_closed : (star : Bool) (xs : List ℕ) → before_close star xs < length xs → Closed star xs (before_close star xs)
before_closed true [] lt = absurd (omega arith)
before_closed false [] lt = absurd (omega arith)
before_closed false (b ∷ bs) lt =
    subst (Closed false (b ∷ bs)) (sym (one-add (before_close (nat_eq b 42) bs)))
    (closed_more false b bs _ (before_closed (nat_eq b 42) bs (omega arith)))
before_closed true (b ∷ bs) lt = by_test (nat_eq b 47) refl lt (λ h. before_closed (nat_eq b 42) bs h)
  where
    by_test : (c : Bool) → nat_eq b 47 ≡ c → cond c 0 (1 + before_close (nat_eq b 42) bs) < length (b ∷ bs) → (before_close (nat_eq b 42) bs < length bs → Closed (nat_eq b 42) bs (before_close (nat_eq b 42) bs)) → Closed true (b ∷ bs) (cond c 0 (1 + before_close (nat_eq b 42) bs))
    by_test true e lt ih = ([], bs, refl, ap (λ x. x ∷ bs) (eqb-true b 47 e))
    by_test false e lt ih =
        subst (Closed true (b ∷ bs)) (sym (one-add (before_close (nat_eq b 42) bs)))
        (closed_more true b bs _ (ih (omega arith)))

-- bytes that hold no close are no more
before_ge : (star : Bool) (body rest : List ℕ) → holds_close (star_first star body) ≡ false → length body ≤ before_close star (body ++ rest)
before_ge star [] rest e = omega arith
before_ge false (b ∷ bs) rest e = omega (arith, before_ge (nat_eq b 42) bs rest (pass_over b bs ∙ e))
before_ge true (b ∷ bs) rest e = by_test (nat_eq b 47) refl e (λ h. before_ge (nat_eq b 42) bs rest h)
  where
    right : (x y : Bool) → (x || y) ≡ false → y ≡ false
    right true y q = cc
    right false y q = q

    by_test : (c : Bool) → nat_eq b 47 ≡ c → (nat_eq b 47 || holds_close (b ∷ bs)) ≡ false → (holds_close (star_first (nat_eq b 42) bs) ≡ false → length bs ≤ before_close (nat_eq b 42) (bs ++ rest)) → length (b ∷ bs) ≤ cond c 0 (1 + before_close (nat_eq b 42) (bs ++ rest))
    by_test true t q ih = let both : true ≡ false = sym (ap (λ x. x || holds_close (b ∷ bs)) t) ∙ q in cc
    by_test false t q ih = omega (arith, ih (pass_over b bs ∙ right (nat_eq b 47) (holds_close (b ∷ bs)) q))

-- and a star and a slash behind them end there
before_at : (star : Bool) (body rest : List ℕ) → holds_close (star_first star (body ++ 42 ∷ [])) ≡ false → before_close star (body ++ 42 ∷ 47 ∷ rest) ≡ length body + 1
before_at true [] rest e = refl
before_at false [] rest e = refl
before_at false (b ∷ bs) rest e = omega (arith, before_at (nat_eq b 42) bs rest (pass_over b (bs ++ 42 ∷ []) ∙ e))
before_at true (b ∷ bs) rest e = by_test (nat_eq b 47) refl e (λ h. before_at (nat_eq b 42) bs rest h)
  where
    right : (x y : Bool) → (x || y) ≡ false → y ≡ false
    right true y q = cc
    right false y q = q

    by_test : (c : Bool) → nat_eq b 47 ≡ c → (nat_eq b 47 || holds_close (b ∷ bs ++ 42 ∷ [])) ≡ false → (holds_close (star_first (nat_eq b 42) (bs ++ 42 ∷ [])) ≡ false → before_close (nat_eq b 42) (bs ++ 42 ∷ 47 ∷ rest) ≡ length bs + 1) → cond c 0 (1 + before_close (nat_eq b 42) (bs ++ 42 ∷ 47 ∷ rest)) ≡ length (b ∷ bs) + 1
    by_test true t q ih = let both : true ≡ false = sym (ap (λ x. x || holds_close (b ∷ bs ++ 42 ∷ [])) t) ∙ q in cc
    by_test false t q ih = omega (arith, ih (pass_over b (bs ++ 42 ∷ []) ∙ right (nat_eq b 47) (holds_close (b ∷ bs ++ 42 ∷ [])) q))

take_all : (xs : List ℕ) → take (length xs) xs ≡ xs
take_all [] = refl
take_all (x ∷ xs) = ap (λ ys. x ∷ ys) (take_all xs)

-- the bytes up to the first of the others
take_one : (n : ℕ) (xs others : List ℕ) (b : ℕ) → drop n xs ≡ b ∷ others → take (suc n) xs ≡ take n xs ++ b ∷ []
take_one zero [] others b e = cc
take_one zero (x ∷ xs) others b e = let same : x ≡ b = cc in ap (λ y. y ∷ []) same
take_one (suc n) [] others b e = cc
take_one (suc n) (x ∷ xs) others b e = ap (λ ys. x ∷ ys) (take_one n xs others b e)

pub block_good : (bs : List ℕ) → Good (47 ∷ 42 ∷ bs) (Some (block_shape (before_close false bs) bs))
block_good bs = by_test (nat_eq (before_close false bs) (length bs)) refl
  where
    by_test : (c : Bool) → nat_eq (before_close false bs) (length bs) ≡ c → Good (47 ∷ 42 ∷ bs) (Some (cond c (OpenComment, before_close false bs + 2) (BlockComment, before_close false bs + 3)))
    by_test true e =
        let all : before_close false bs ≡ length bs = eqb-true (before_close false bs) (length bs) e in
        let size : before_close false bs + 2 ≡ suc (suc (before_close false bs)) = omega arith in
        ((take (before_close false bs) bs, ap (λ k. take k (47 ∷ 42 ∷ bs)) size, before_none false bs), omega arith, omega arith)
    by_test false e =
        let lt : before_close false bs < length bs = grind (arith, nat_tests, before_le false bs) in
        let w = before_closed false bs lt in
        let size : before_close false bs + 3 ≡ suc (suc (suc (before_close false bs))) = omega arith in
        let more : take (suc (before_close false bs)) bs ≡ take (before_close false bs) bs ++ 47 ∷ [] = take_one (before_close false bs) bs w.1 47 w.3 in
        let whole : take (before_close false bs + 3) (47 ∷ 42 ∷ bs) ≡ 47 ∷ 42 ∷ w.0 ++ 42 ∷ 47 ∷ [] =
        ap (λ k. take k (47 ∷ 42 ∷ bs)) size ∙ ap (λ ys. 47 ∷ 42 ∷ ys) (more ∙ ap (λ ys. ys ++ 47 ∷ []) w.2 ∙ append_assoc w.0 (42 ∷ []) (47 ∷ [])) in
        ((w.0, whole, ap holds_close (sym w.2) ∙ before_none false bs), omega arith, omega arith)

pub block_fits : (tail rest : List ℕ) → holds_close (tail ++ 42 ∷ []) ≡ false → Fits BlockComment (length tail + 4) (Some (block_shape (before_close false (tail ++ 42 ∷ 47 ∷ rest)) (tail ++ 42 ∷ 47 ∷ rest)))
block_fits tail rest e =
    let at = before_at false tail rest e in
    let size = length-append tail (42 ∷ 47 ∷ rest) in
    let other : nat_eq (before_close false (tail ++ 42 ∷ 47 ∷ rest)) (length (tail ++ 42 ∷ 47 ∷ rest)) ≡ false = grind (arith, nat_tests, at, size) in
    subst (λ c. Fits BlockComment (length tail + 4) (Some (cond c (OpenComment, before_close false (tail ++ 42 ∷ 47 ∷ rest) + 2) (BlockComment, before_close false (tail ++ 42 ∷ 47 ∷ rest) + 3)))) (sym other)
    (omega (arith, at), λ _. refl)

pub open_fits : (tail rest : List ℕ) → holds_close tail ≡ false → Fits OpenComment (length tail + 2) (Some (block_shape (before_close false (tail ++ rest)) (tail ++ rest)))
open_fits tail rest e = by_test (nat_eq (before_close false (tail ++ rest)) (length (tail ++ rest)))
  where
    ge : length tail ≤ before_close false (tail ++ rest)
    ge = before_ge false tail rest e

    by_test : (c : Bool) → Fits OpenComment (length tail + 2) (Some (cond c (OpenComment, before_close false (tail ++ rest) + 2) (BlockComment, before_close false (tail ++ rest) + 3)))
    by_test true = (omega (arith, ge), λ _. refl)
    by_test false = (omega (arith, ge), λ q. absurd (omega (arith, ge, q)))
