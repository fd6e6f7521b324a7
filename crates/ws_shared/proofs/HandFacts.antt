-- New workers: how many, and that they run nothing.
use Rattle.std.proofs.Common.{◌≡◌, ℕ, zero, suc, ◌+◌, [], ◌∷◌, ◌++◌, All, None, length, sym, subst, refl, arith}
use Rattle.std.proofs.lemmas.List.{length-append}
use Rattle.std.proofs.lemmas.List.Elements.{All-nil, All-push}
use Rattle.ws_shared.specs.Counts.{none_made}
use Rattle.ws_shared.specs.Workers.{WorkerState, new_workers}

pub new_hands_more : (n : ℕ) → new_workers (n + 1) ≡ new_workers n ++ record { number = n + 1; runs = None; made = none_made } ∷ []
new_hands_more n = let e : n + 1 ≡ suc n = omega arith in rw e refl

pub new_hands_length : (n : ℕ) → length (new_workers n) ≡ n
new_hands_length zero = refl
new_hands_length (suc n) = omega (arith, length-append (new_workers n) (record { number = suc n; runs = None; made = none_made } ∷ []), new_hands_length n)

pub new_hands_rest : (n : ℕ) → All (λ (h : WorkerState). h.runs ≡ None) (new_workers n)
new_hands_rest zero = All-nil (λ (h : WorkerState). h.runs ≡ None)
new_hands_rest (suc n) = All-push (λ (h : WorkerState). h.runs ≡ None) (new_workers n) (record { number = suc n; runs = None; made = none_made }) (new_hands_rest n) refl

pub new_hands_last : (n count : ℕ) → n + 1 ≡ count → new_workers n ++ record { number = count; runs = None; made = none_made } ∷ [] ≡ new_workers count
new_hands_last n count e = subst (λ (k : ℕ). new_workers n ++ record { number = k; runs = None; made = none_made } ∷ [] ≡ new_workers k) e (sym (new_hands_more n))
