-- Names outside of declarations that hide some.
use Rattle.std.proofs.Common.{◌≡◌, ℕ, suc, ◌+◌, ◌<◌, length, drop, get_or, add-one, Bool, true, false, not, List, [], ◌∷◌, ◌++◌, append_assoc, bytes_eq, refl, sym, ap, ◌∙◌, inl, inr, ◌&&◌, ◌||◌}
use Rattle.std.specs.List.{filter, list_any}
use Rattle.std.proofs.Math.Seq.{drop-cons}
use Rattle.std.proofs.lemmas.Bool.{cases_Bool}
use Rattle.std.proofs.lemmas.List.Elements.{filter-append}
use Rattle.std.proofs.lemmas.List.Folds.{list_any-append}
use Rattle.go_scope.specs.Names.{Used}
use Rattle.go_uses.specs.Uses.{outside}

abbrev shown : List (List ℕ) → Used → Bool
shown xs u = not (list_any (bytes_eq u.0) xs)

pub outside_none : (us : List Used) → outside [] us ≡ us
outside_none [] = refl
outside_none (u ∷ us) = ap (λ l. u ∷ l) (outside_none us)

neither : (a b : Bool) → not (a || b) ≡ (not a && not b)
neither true b = refl
neither false b = refl

all : (a b : Bool) → a ≡ true → b ≡ true → (a && b) ≡ true
all a b s t = rw (s, t) refl

none : (b : Bool) → (b && false) ≡ false
none true = refl
none false = refl

filter_twice : (f g h : Used → Bool) → ((u : Used) → h u ≡ (f u && g u)) → (us : List Used) → filter f (filter g us) ≡ filter h us
filter_twice f g h same [] = refl
filter_twice f g h same (u ∷ us) = elim (cases_Bool (g u)) [
  | inl t ↦ elim (cases_Bool (f u)) [
    | inl s ↦ (let both : h u ≡ true = same u ∙ all (f u) (g u) s t in rw (t, s, both) (ap (λ l. u ∷ l) (filter_twice f g h same us)))
    | inr s ↦ (let both : h u ≡ false = same u ∙ ap (λ b. b && g u) s in rw (t, s, both) (filter_twice f g h same us))
  ]
  | inr t ↦ (let both : h u ≡ false = same u ∙ ap (λ b. f u && b) t ∙ none (f u) in rw (t, both) (filter_twice f g h same us))
]

outside_twice : (xs ys : List (List ℕ)) (us : List Used) → outside xs (outside ys us) ≡ outside (xs ++ ys) us
outside_twice xs ys us =
    filter_twice (shown xs) (shown ys) (shown (xs ++ ys))
    (λ u. ap not (list_any-append (bytes_eq u.0) xs ys) ∙ neither (list_any (bytes_eq u.0) xs) (list_any (bytes_eq u.0) ys)) us

-- nothing is found yet, and nothing hidden
pub begins : (found : List Used) (hidden : List (List ℕ)) (whole : List Used) → found ≡ [] → hidden ≡ [] → found ++ outside hidden whole ≡ whole
begins found hidden whole none nothing = ap (λ l. l ++ outside hidden whole) none ∙ ap (λ xs. outside xs whole) nothing ∙ outside_none whole

-- those of the next form are found, and what it declares hides those of the forms behind it
pub further : (found names next : List Used) (hidden own : List (List ℕ)) (rest whole : List Used) → found ++ outside hidden (names ++ outside own rest) ≡ whole → next ≡ found ++ outside hidden names →
    next ++ outside (hidden ++ own) rest ≡ whole
further found names next hidden own rest whole so_far is =
    ap (λ l. l ++ outside (hidden ++ own) rest) is
    ∙ append_assoc found (outside hidden names) (outside (hidden ++ own) rest)
    ∙ ap (λ l. found ++ (outside hidden names ++ l)) (sym (outside_twice hidden own rest))
    ∙ ap (λ l. found ++ l) (sym (filter-append (shown hidden) names (outside own rest)))
    ∙ so_far

-- those that are left begin with the next
pub left : {A : Type 0} (xs : List A) (i : ℕ) (x : A) → i < length xs → x ≡ get_or xs i x → drop i xs ≡ x ∷ drop (i + 1) xs
left xs i x h is = drop-cons xs i x h ∙ ap (λ y. y ∷ drop (suc i) xs) (sym is) ∙ ap (λ k. x ∷ drop k xs) (sym (add-one i))
