-- Elements of lists by their places.
use Rattle.std.proofs.Common.{◌≡◌, ◌⊎◌, ◌<◌, ◌≤◌, ◌+◌, ℕ, zero, suc, List, [], ◌∷◌, ◌++◌, take, drop, length, get_or, Some, None, refl, sym, ap, ◌∙◌, subst, inl, inr, arith, append-nil, append_assoc, Result, Ok, IfOk}
use Rattle.std.specs.List.{AllZip, Contains}
use Rattle.std.proofs.lemmas.List.{take_more}
use Rattle.std.proofs.lemmas.List.Elements.{Contains-append_left, Contains-push, Contains-push_cases}
use Rattle.std.proofs.lemmas.Slice.Zip.{all_zipped_more}
use Rattle.ws_graph.specs.Discovery.{HasNumber}
use Rattle.ws_graph.specs.declared.target.Target.{Target}

pub whole_at : {A : Type 0} (xs : List A) (i : ℕ) (x : A) → x ≡ get_or xs i x → i < length xs → xs ≡ take i xs ++ x ∷ drop (suc i) xs
whole_at [] i x e lt = absurd (omega (arith, lt))
whole_at (y ∷ ys) zero x e lt = ap (λ z. z ∷ ys) (sym e)
whole_at (y ∷ ys) (suc i) x e lt = ap (λ l. y ∷ l) (whole_at ys i x e (omega (arith, lt)))

pub take_all : {A : Type 0} (xs : List A) (i : ℕ) → length xs ≤ i → take i xs ≡ xs
take_all [] zero le = refl
take_all [] (suc i) le = refl
take_all (x ∷ xs) zero le = absurd (omega (arith, le))
take_all (x ∷ xs) (suc i) le = ap (λ l. x ∷ l) (take_all xs i (omega (arith, le)))

pub taken_next : {A : Type 0} (xs : List A) (i : ℕ) (x : A) → x ≡ get_or xs i x → i < length xs → take (i + 1) xs ≡ take i xs ++ x ∷ []
taken_next xs i x is lt = take_more xs i x lt ∙ ap (λ s. take i xs ++ s ∷ []) (sym is)

-- one more of both lists
pub zip_next : {A B : Type 0} (R : A → B → Type 0) (xs : List A) (i : ℕ) (x : A) (ys new : List B) (y : B) → x ≡ get_or xs i x → i < length xs → new ≡ ys ++ y ∷ [] → AllZip R (take i xs) ys → R x y → AllZip R (take (i + 1) xs) new
zip_next R xs i x ys new y is lt pushed z h =
    subst (AllZip R (take (i + 1) xs)) (sym pushed) (subst (λ l. AllZip R l (ys ++ y ∷ [])) (sym (taken_next xs i x is lt)) (all_zipped_more R (take i xs) ys x y z h))

-- one more target: its number is added, or it has none
abbrev pub Numbered : Target → List ℕ → List ℕ → Type 0
Numbered t old new = ((k : ℕ) × (t.number ≡ Some k) × (new ≡ old ++ k ∷ [])) ⊎ ((t.number ≡ None) × (new ≡ old))

abbrev pub NumbersAre : List Target → List ℕ → Type 0
NumbersAre ts ns = (k : ℕ) → (Contains ns k → HasNumber ts k) × (HasNumber ts k → Contains ns k)

number_more : (ts : List Target) (t : Target) (old new : List ℕ) → Numbered t old new → NumbersAre ts old → NumbersAre (ts ++ t ∷ []) new
number_more ts t old new (inl (n, is, pushed)) h k = (
  λ c. elim (Contains-push_cases old n k (subst (λ (l : List ℕ). Contains l k) pushed c)) [
    | inl o ↦ (let m = (h k).0 o in (m.0, Contains-append_left ts (t ∷ []) m.0 m.1, m.2))
    | inr e ↦ (t, Contains-push ts t, is ∙ ap Some e)
  ],
  λ (u, c, e). subst (λ (l : List ℕ). Contains l k) (sym pushed) (elim (Contains-push_cases ts t u c) [
    | inl o ↦ Contains-append_left old (n ∷ []) k ((h k).1 (u, o, e))
    | inr s ↦ (let both : Some n ≡ Some k = sym is ∙ ap (λ (x : Target). x.number) s ∙ e in let same : n ≡ k = cc in subst (λ j. Contains (old ++ n ∷ []) j) same (Contains-push old n))
  ]),
)
number_more ts t old new (inr (is, kept)) h k = (
  λ c. (let m = (h k).0 (subst (λ (l : List ℕ). Contains l k) kept c) in (m.0, Contains-append_left ts (t ∷ []) m.0 m.1, m.2)),
  λ (u, c, e). subst (λ (l : List ℕ). Contains l k) (sym kept) (elim (Contains-push_cases ts t u c) [
    | inl o ↦ (h k).1 (u, o, e)
    | inr s ↦ (let both : None ≡ Some k = sym is ∙ ap (λ (x : Target). x.number) s ∙ e in cc (both))
  ]),
)

pub number_next : (ts : List Target) (i : ℕ) (t : Target) (old new : List ℕ) → t ≡ get_or ts i t → i < length ts → Numbered t old new → NumbersAre (take i ts) old → NumbersAre (take (i + 1) ts) new
number_next ts i t old new is lt next h = subst (λ l. NumbersAre l new) (sym (taken_next ts i t is lt)) (number_more (take i ts) t old new next h)

-- ---- results that are taken one after another

abbrev pub ReadSo : {A B E : Type 0} → (A → B → Type 0) → List A → List B → List (Result B E) → Type 0
ReadSo {A} R numbers founds results = (done : List A) × (left : List A) × (numbers ≡ done ++ left) × AllZip R done founds × AllZip (λ k r. IfOk r (R k)) left results

pub one_read : {A B E : Type 0} (R : A → B → Type 0) (numbers done left : List A) (founds new : List B) (results rest : List (Result B E)) (r : Result B E) (found : B) → numbers ≡ done ++ left → results ≡ r ∷ rest → r ≡ Ok found → new ≡ founds ++ found ∷ []
    → AllZip R done founds → AllZip (λ k r. IfOk r (R k)) left results → ReadSo R numbers new rest
one_read R numbers done [] founds new results rest r found whole taken is pushed z w = absurd (subst (AllZip (λ k r. IfOk r (R k)) []) taken w)
one_read R numbers done (k ∷ left) founds new results rest r found whole taken is pushed z w =
    let both = subst (AllZip (λ k r. IfOk r (R k)) (k ∷ left)) taken w in
    let here : R k found = subst (λ o. IfOk o (R k)) is both.0 in
    (done ++ k ∷ [], left, whole ∙ sym (append_assoc done (k ∷ []) left), subst (AllZip R (done ++ k ∷ [])) (sym pushed) (all_zipped_more R done founds k found z here), both.1)

pub none_left : {A B E : Type 0} (R : A → B → Type 0) (numbers done left : List A) (founds : List B) (results : List (Result B E)) → numbers ≡ done ++ left → results ≡ [] → AllZip R done founds → AllZip (λ k r. IfOk r (R k)) left results → AllZip R numbers founds
none_left R numbers done [] founds results whole none z w = subst (λ l. AllZip R l founds) (sym (whole ∙ append-nil done)) z
none_left R numbers done (k ∷ left) founds results whole none z w = absurd (subst (AllZip (λ k r. IfOk r (R k)) (k ∷ left)) none w)
