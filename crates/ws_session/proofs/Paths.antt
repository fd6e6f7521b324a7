-- Paths that are the keys of logs.
use Rattle.std.proofs.Common.{◌≡◌, ◌<◌, ◌+◌, ℕ, List, [], ◌∷◌, ◌++◌, map, take, length, get_or, Option, None, Some, refl, sym, ap, ◌∙◌, subst, Vec}
use Rattle.std.specs.Prelude.{Result, Ok, Err, IfOk, IfSome}
use Rattle.std.specs.Borrow.{Bor}
use Rattle.std.specs.Global.{Global}
use Rattle.std.proofs.lemmas.List.{take_more}
use Rattle.ws_version_vector.specs.Keyed.{Log, AreKeysBetween}

-- paths that are the keys between counts
pub known_between : {E : Type 0} (logs : List Log) (mine theirs : List ℕ) (keys known : List (List ℕ)) (r : Result (Option (Vec (List ℕ) Global)) E) → AreKeysBetween logs mine theirs keys → known ≡ keys
    → IfOk r (λ paths. IfSome paths (λ ps. ps.items ≡ known)) → IfOk r (λ paths. IfSome paths (λ ps. AreKeysBetween logs mine theirs ps.items))
known_between logs mine theirs keys known (Ok None) between e h = tt
known_between logs mine theirs keys known (Ok (Some ps)) between e h = subst (λ (qs : List (List ℕ)). AreKeysBetween logs mine theirs qs) (sym (h ∙ e)) between
known_between logs mine theirs keys known (Err x) between e h = tt

now_push : (keys : List (Bor (List ℕ))) (key : Bor (List ℕ)) → map (λ k. k.now) (keys ++ key ∷ []) ≡ map (λ k. k.now) keys ++ key.now ∷ []
now_push [] key = refl
now_push (k ∷ keys) key = ap (λ l. k.now ∷ l) (now_push keys key)

-- one more of the paths that the first keys are
pub one_more : (keys : List (Bor (List ℕ))) (i : ℕ) (key : Bor (List ℕ)) (path : List ℕ) (old new : List (List ℕ)) → i < length keys → key ≡ get_or keys i key → path ≡ key.now → new ≡ old ++ path ∷ [] → old ≡ map (λ k. k.now) (take i keys)
    → new ≡ map (λ k. k.now) (take (i + 1) keys)
one_more keys i key path old new lt is named grown h =
    let more : take (i + 1) keys ≡ take i keys ++ key ∷ [] = take_more keys i key lt ∙ ap (λ (k : Bor (List ℕ)). take i keys ++ k ∷ []) (sym is) in
    grown ∙ ap (λ (l : List (List ℕ)). l ++ path ∷ []) h ∙ ap (λ (p : List ℕ). map (λ k. k.now) (take i keys) ++ p ∷ []) named
    ∙ sym (ap (λ (ks : List (Bor (List ℕ))). map (λ k. k.now) ks) more ∙ now_push (take i keys) key)
