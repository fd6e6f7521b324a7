-- Names at their numbers.
use Rattle.std.proofs.Common.{◌≡◌, ◌∙◌, ◌<◌, ℕ, List, [], ◌∷◌, ◌++◌, length, Some, refl, sym, ap, map, arith, length-append}
use Rattle.std.specs.Borrow.{Bor}
use Rattle.std.specs.List.{slice_get}
use Rattle.std.specs.Option.{option_map}
use Rattle.std.proofs.lemmas.Option.{slice_get_read, slice_get-map}
use Rattle.std.proofs.lemmas.List.{get_or_push, map-append}

abbrev pub text_in : Bor (List ℕ) → List ℕ
text_in n = n.now

-- the last one
pub last_there : (xs all : List (Bor (List ℕ))) (x : Bor (List ℕ)) (i : ℕ) → length xs ≡ i → all ≡ xs ++ x ∷ [] → slice_get (map text_in all) i ≡ Some x.now
last_there xs all x i e is =
    let within : i < length (xs ++ x ∷ []) = rw length-append (omega arith) in
    let there : slice_get (xs ++ x ∷ []) i ≡ Some x = slice_get_read (xs ++ x ∷ []) (length (xs ++ x ∷ [])) i x refl within (sym (get_or_push xs x x i e)) in
    slice_get-map text_in all i ∙ ap (λ l. option_map text_in (slice_get l i)) is ∙ ap (option_map text_in) there

-- one behind others
pub one_behind : (xs all : List (Bor (List ℕ))) (x : Bor (List ℕ)) (names : List (List ℕ)) → all ≡ xs ++ x ∷ [] → map text_in xs ≡ names → map text_in all ≡ names ++ x.now ∷ []
one_behind xs all x names is seen = ap (map text_in) is ∙ map-append text_in xs (x ∷ []) ∙ ap (λ l. l ++ x.now ∷ []) seen
