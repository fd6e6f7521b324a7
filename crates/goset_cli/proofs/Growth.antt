-- How what is known grows.
use Rattle.std.proofs.Common.{◌≡◌, ℕ, zero, suc, ◌+◌, List, [], ◌∷◌, ◌++◌, take, drop, map, Option, None, Some, append_assoc, ap, subst, ◌∙◌, sym, refl, append-nil}
use Rattle.std.specs.Prelude.{◌==◌, false}
use Rattle.std.proofs.Math.Dec.{eqb-suc-zero}
use Rattle.std.proofs.Math.Seq.{take-add}
use Rattle.std.proofs.lemmas.List.{map-append}
use Rattle.goset_cli.specs.Streams.{ReadResult, Gave, GrowsBy}
use Rattle.goset_cli.specs.Reading.{concatenated}

pub grows_on : {A : Type 0} (a b c : Option (List A)) (xs ys : List A) → GrowsBy a b xs → GrowsBy b c ys → GrowsBy a c (xs ++ ys)
grows_on None b c xs ys h k = tt
grows_on (Some a) None c xs ys h k = absurd h
grows_on (Some a) (Some b) None xs ys h k = absurd k
grows_on {A = A} (Some a) (Some b) (Some c) xs ys h k = k ∙ ap (λ (s : List A). s ++ ys) h ∙ append_assoc a xs ys

pub grows_not : {A : Type 0} (a : Option (List A)) → GrowsBy a a []
grows_not None = tt
grows_not (Some a) = sym (append-nil a)

pub joined-append : (ps qs : List (List ℕ)) → concatenated (ps ++ qs) ≡ concatenated ps ++ concatenated qs
joined-append [] qs = refl
joined-append (p ∷ ps) qs = ap (λ (s : List ℕ). p ++ s) (joined-append ps qs) ∙ sym (append_assoc p (concatenated ps) (concatenated qs))

pub grows_by : {A : Type 0} (a b : Option (List A)) (xs ys : List A) → xs ≡ ys → GrowsBy a b xs → GrowsBy a b ys
grows_by {A = A} a b xs ys e h = subst (λ (s : List A). GrowsBy a b s) e h

-- bytes that follow on the first i
pub grows_more : (a b c : Option (List ℕ)) (bytes : List ℕ) (i n : ℕ) → GrowsBy a b (take i bytes) → GrowsBy b c (take n (drop i bytes)) → GrowsBy a c (take (i + n) bytes)
grows_more a b c bytes i n h k = grows_by a c (take i bytes ++ take n (drop i bytes)) (take (i + n) bytes) (sym (take-add i n bytes)) (grows_on a b c (take i bytes) (take n (drop i bytes)) h k)

-- one more piece
pub gave_on : (a b c : Option (List ReadResult)) (ps : List (List ℕ)) (p : List ℕ) → GrowsBy a b (map Gave ps) → GrowsBy b c (Gave p ∷ []) → GrowsBy a c (map Gave (ps ++ p ∷ []))
gave_on a b c ps p h k = grows_by a c (map Gave ps ++ Gave p ∷ []) (map Gave (ps ++ p ∷ [])) (sym (map-append Gave ps (p ∷ []))) (grows_on a b c (map Gave ps) (Gave p ∷ []) h k)

pub joined_on : (ps : List (List ℕ)) (p : List ℕ) → concatenated (ps ++ p ∷ []) ≡ concatenated ps ++ p
joined_on ps p = joined-append ps (p ∷ []) ∙ ap (λ (s : List ℕ). concatenated ps ++ s) (append-nil p)

pub not_zero : (n : ℕ) → (n ≡ 0 → ⊥) → (n == 0) ≡ false
not_zero zero h = absurd (h refl)
not_zero (suc n) h = eqb-suc-zero n

-- one more piece behind the bytes of those before
pub piece_on : (new old piece more bytes : List ℕ) → new ≡ old ++ piece → piece ≡ more → bytes ≡ old → new ≡ bytes ++ more
piece_on new old piece more bytes h k e = cc
