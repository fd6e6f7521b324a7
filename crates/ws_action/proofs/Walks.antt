-- What holds of the elements that a loop saw, and of all.
use Rattle.std.proofs.Common.{◌≡◌, ◌≢◌, ℕ, ◌+◌, ◌<◌, ◌≤◌, List, [], ◌∷◌, ◌++◌, length, map, take, get_or, sym, ap, subst, ◌∙◌}
use Rattle.std.specs.List.{All}
use Rattle.std.proofs.lemmas.List.{take_more, take_all, map_more, get_or-map}
use Rattle.std.proofs.lemmas.List.Elements.{All-nil, All-cons, All-append}

-- of one more
pub one_more : {A : Type 0} (P : A → Type 0) (xs : List A) (i : ℕ) (x : A) → i < length xs → x ≡ get_or xs i x → All P (take i xs) → P x → All P (take (i + 1) xs)
one_more P xs i x h is all here =
    subst (All P) (sym (take_more xs i x h ∙ ap (λ y. take i xs ++ y ∷ []) (sym is))) (All-append P (take i xs) (x ∷ []) all (All-cons P x [] here (All-nil P)))

-- of all
pub of_all : {A : Type 0} (P : A → Type 0) (xs : List A) (i : ℕ) → length xs ≤ i → All P (take i xs) → All P xs
of_all P xs i h all = subst (All P) (take_all i xs h) all

-- ---- two lists side by side

module _ {A B C : Type 0} (f : A → C) (g : B → C) where
  -- one more is the same
  pub same_more : (xs : List A) (ys : List B) (i : ℕ) (x : A) (y : B) → i < length xs → i < length ys → x ≡ get_or xs i x → y ≡ get_or ys i y → f x ≡ g y → map f (take i xs) ≡ map g (take i ys) → map f (take (i + 1) xs) ≡ map g (take (i + 1) ys)
  same_more xs ys i x y h k at there same so_far =
      let here : f (get_or xs i x) ≡ g (get_or ys i y) = ap f (sym at) ∙ same ∙ ap g there in
      map_more f xs i x h ∙ ap (λ l. l ++ f (get_or xs i x) ∷ []) so_far ∙ ap (λ z. map g (take i ys) ++ z ∷ []) here ∙ sym (map_more g ys i y k)

  -- all are
  pub same_all : (xs : List A) (ys : List B) (i : ℕ) → length xs ≤ i → length ys ≤ i → map f (take i xs) ≡ map g (take i ys) → map f xs ≡ map g ys
  same_all xs ys i h k same = ap (map f) (sym (take_all i xs h)) ∙ same ∙ ap (map g) (take_all i ys k)

  -- two at one place aren't
  pub other_at : (xs : List A) (ys : List B) (i : ℕ) (x : A) (y : B) → i < length xs → i < length ys → x ≡ get_or xs i x → y ≡ get_or ys i y → f x ≢ g y → map f xs ≢ map g ys
  other_at xs ys i x y h k at there other e =
      other (ap f at ∙ sym (get_or-map f xs i x (f x) h) ∙ ap (λ l. get_or l i (f x)) e ∙ get_or-map g ys i y (f x) k ∙ ap g (sym there))
