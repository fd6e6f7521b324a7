-- Runs of bytes, and steps over a text.
use Rattle.std.proofs.Common.{◌≡◌, ℕ, ◌+◌, ◌≤◌, zero, suc, Bool, true, false, cond, ◌&&◌, List, [], ◌∷◌, ◌++◌, length, take, drop, Option, Some, None, refl, sym, ap, ◌∙◌, subst, arith, one-add, length-drop}
use Rattle.std.specs.List.{list_all, prefix_len}
use Rattle.std.proofs.Math.Seq.{take-append_seam}
use Rattle.std.proofs.lemmas.List.{drop-drop}
use Rattle.go_scan.specs.declared.shape.Shape.{Shape}
use Rattle.go_scan.specs.Lex.{Spells}
use Rattle.go_scan.specs.Fronts.{strides}

pub and_left : (a b : Bool) → (a && b) ≡ true → a ≡ true
and_left true b e = refl
and_left false b e = cc

pub and_right : (a b : Bool) → (a && b) ≡ true → b ≡ true
and_right true b e = e
and_right false b e = cc

pub and_both : (a b : Bool) → a ≡ true → b ≡ true → (a && b) ≡ true
and_both a b e f = ap (λ x. x && b) e ∙ f

-- bytes that pass are no more than the longest run of them
pub run_le : (p : ℕ → Bool) (body rest : List ℕ) → list_all p body ≡ true → length body ≤ prefix_len p (body ++ rest)
run_le p [] rest a = omega arith
run_le p (b ∷ bs) rest a =
    let ih = run_le p bs rest (and_right (p b) (list_all p bs) a) in
    let e = ap (λ x. cond x (1 + prefix_len p (bs ++ rest)) 0) (and_left (p b) (list_all p bs) a) in
    omega (arith, ih, e)

-- and the longest run passes
pub run_all : (p : ℕ → Bool) (bs : List ℕ) → (list_all p (take (prefix_len p bs) bs) ≡ true) × (prefix_len p bs ≤ length bs)
run_all p [] = (refl, omega arith)
run_all p (b ∷ bs) = by_test (p b) refl (run_all p bs)
  where
    by_test : (c : Bool) → p b ≡ c → (list_all p (take (prefix_len p bs) bs) ≡ true) × (prefix_len p bs ≤ length bs) → (list_all p (take (cond c (1 + prefix_len p bs) 0) (b ∷ bs)) ≡ true) × (cond c (1 + prefix_len p bs) 0 ≤ length (b ∷ bs))
    by_test false e h = (refl, omega arith)
    by_test true e h = (ap (λ k. list_all p (take k (b ∷ bs))) (one-add (prefix_len p bs)) ∙ ap (λ x. x && list_all p (take (prefix_len p bs) bs)) e ∙ h.0, omega (arith, h.1))

pub run_some : (p : ℕ → Bool) (b : ℕ) (bs : List ℕ) → p b ≡ true → 1 ≤ prefix_len p (b ∷ bs)
run_some p b bs e = let size = ap (λ x. cond x (1 + prefix_len p bs) 0) e in omega arith

-- a run that ends at a byte that doesn't pass
pub run_stop : (p : ℕ → Bool) (body : List ℕ) (b : ℕ) (rest : List ℕ) → list_all p body ≡ true → p b ≡ false → prefix_len p (body ++ b ∷ rest) ≡ length body
run_stop p [] b rest a e = ap (λ x. cond x (1 + prefix_len p rest) 0) e
run_stop p (c ∷ cs) b rest a e =
    ap (λ x. cond x (1 + prefix_len p (cs ++ b ∷ rest)) 0) (and_left (p c) (list_all p cs) a)
    ∙ ap (λ n. 1 + n) (run_stop p cs b rest (and_right (p c) (list_all p cs) a) e) ∙ one-add (length cs)

-- steps over a text
pub strides_skip : (f : List ℕ → ℕ) (k : ℕ) (xs : List ℕ) → k ≤ length xs → strides f k xs ≡ k + strides f 0 (drop k xs)
strides_skip f zero xs le = omega arith
strides_skip f (suc k) [] le = absurd (omega arith)
strides_skip f (suc k) (b ∷ bs) le = let ih = strides_skip f k bs (omega arith) in omega (arith, ih)

pub strides_on : (f : List ℕ → ℕ) (n : ℕ) (xs : List ℕ) → f xs ≡ suc n → suc n ≤ length xs → strides f 0 xs ≡ suc n + strides f 0 (drop (suc n) xs)
strides_on f n [] e le = absurd (omega arith)
strides_on f n (b ∷ bs) e le =
    let skipped = strides_skip f n bs (omega arith) in
    let first : strides f 0 (b ∷ bs) ≡ 1 + strides f n bs = ap (λ k. elim k [ zero ↦ 0 | suc j ↦ 1 + strides f j bs ]) e in
    first ∙ omega (arith, skipped)

pub strides_stop : (f : List ℕ → ℕ) (xs : List ℕ) → f xs ≡ 0 → strides f 0 xs ≡ 0
strides_stop f [] e = refl
strides_stop f (b ∷ bs) e = ap (λ k. elim k [ zero ↦ 0 | suc j ↦ 1 + strides f j bs ]) e

pub strides_le : (f : List ℕ → ℕ) (k : ℕ) (xs : List ℕ) → strides f k xs ≤ length xs
strides_le f k [] = omega arith
strides_le f (suc k) (b ∷ bs) = omega (arith, strides_le f k bs)
strides_le f zero (b ∷ bs) = by_size (f (b ∷ bs)) (λ k. strides_le f k bs)
  where
    by_size : (n : ℕ) → ((k : ℕ) → strides f k bs ≤ length bs) → (elim n [ zero ↦ 0 | suc k ↦ 1 + strides f k bs ]) ≤ length (b ∷ bs)
    by_size zero ih = omega arith
    by_size (suc k) ih = omega (arith, ih k)

-- a step of a loop
pub strides_step : (f : List ℕ → ℕ) → ((ys : List ℕ) → f ys ≤ length ys) → (text : List ℕ) (len n : ℕ) → n ≡ f (drop len text) → (n ≡ 0 → ⊥) → len ≤ length text →
    (len + n ≤ length text) × (len + strides f 0 (drop len text) ≡ len + n + strides f 0 (drop (len + n) text))
strides_step f bound text len zero e never le = absurd (never refl)
strides_step f bound text len (suc n) e never le =
    let most : suc n ≤ length (drop len text) = subst (λ k. k ≤ length (drop len text)) (sym e) (bound (drop len text)) in
    let on = strides_on f n (drop len text) (sym e) most in
    let behind = ap (strides f 0) (drop-drop (suc n) len text) in
    (omega (arith, most, length-drop len text), omega (arith, on, behind))

-- what is found in front of a text: it is spelled so, and stands in the text
abbrev pub Good : List ℕ → Option (Shape × ℕ) → Type 0
Good text None = Unit {0}
Good text (Some p) = Spells p.0 (take p.1 text) × (1 ≤ p.1) × (p.1 ≤ length text)

pub good_if : (text : List ℕ) (c : Bool) (x y : Option (Shape × ℕ)) → (c ≡ true → Good text x) → (c ≡ false → Good text y) → Good text (cond c x y)
good_if text true x y p q = p refl
good_if text false x y p q = q refl

-- what is found where a piece of a shape is spelled: one as long at least, and that one if it is as long
abbrev pub Fits : Shape → ℕ → Option (Shape × ℕ) → Type 0
Fits s n None = ⊥
Fits s n (Some p) = (n ≤ p.1) × (p.1 ≡ n → p.0 ≡ s)

-- the front of a text that begins so
pub take_front : (xs rest text : List ℕ) (n : ℕ) → text ≡ xs ++ rest → n ≡ length xs → take n text ≡ xs
take_front xs rest text n e size = ap (λ k. take k text) size ∙ ap (λ ys. take (length xs) ys) e ∙ take-append_seam xs rest
