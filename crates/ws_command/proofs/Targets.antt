-- The targets of a build, two words after two words.
use Rattle.std.proofs.Common.{◌≡◌, ◌∙◌, ◌++◌, ℕ, Bool, false, List, [], ◌∷◌, Option, Some, None, length, length-append, ap, refl, sym, arith, append_assoc}
use Rattle.std.specs.Prelude.{◌&&◌, nat_lt}
use Rattle.std.specs.List.{list_all}
use Rattle.std.specs.Option.{option_map}
use Rattle.std.proofs.lemmas.Bool.Decides.{nat_tests}
use Rattle.std.proofs.lemmas.List.Folds.{list_all-append}
use Rattle.ws_command.specs.Commands.{Bad, Build, is_replica_name, if_good, pairs_of, build_of}

abbrev pub Pairs : Type 0
Pairs = List (List ℕ × List ℕ)

-- pairs before those of the words that are left
abbrev pub onto : Pairs → Option Pairs → Option Pairs
onto before rest = option_map (λ pairs. before ++ pairs) rest

abbrev pub are_named : Pairs → Bool
are_named pairs = list_all (λ pair. is_replica_name pair.0) pairs

abbrev are_good : Pairs → Bool
are_good pairs = nat_lt 0 (length pairs) && nat_lt (length pairs) 65 && are_named pairs

onto-one : (before : Pairs) (pair : List ℕ × List ℕ) (rest : Option Pairs) → onto before (option_map (λ pairs. pair ∷ pairs) rest) ≡ onto (before ++ pair ∷ []) rest
onto-one before pair None = refl
onto-one before pair (Some pairs) = ap Some (sym (append_assoc before (pair ∷ []) pairs))

-- two words more
pub taken : (words rest behind : List (List ℕ)) (before : Pairs) (name directory : List ℕ) (left : List (List ℕ))
    → pairs_of words ≡ onto before (pairs_of rest) → rest ≡ name ∷ behind → behind ≡ directory ∷ left
    → pairs_of words ≡ onto (before ++ (name, directory) ∷ []) (pairs_of left)
taken words rest behind before name directory left whole first second =
    whole ∙ (ap (λ (w : List (List ℕ)). onto before (pairs_of w)) (first ∙ ap (λ (w : List (List ℕ)). name ∷ w) second) ∙ onto-one before (name, directory) (pairs_of left))

not_good : (pairs : Pairs) → are_good pairs ≡ false → Bad ≡ build_of (Some pairs)
not_good pairs bad = sym (ap (λ (good : Bool). if_good good (Build pairs)) bad)

bad_for : (words : List (List ℕ)) (before : Pairs) (rest : Option Pairs) → pairs_of words ≡ onto before rest → ((pairs : Pairs) → are_good (before ++ pairs) ≡ false)
    → Bad ≡ build_of (pairs_of words)
bad_for words before None whole bad = sym (ap build_of whole)
bad_for words before (Some pairs) whole bad = not_good (before ++ pairs) (bad pairs) ∙ sym (ap build_of whole)

many : (before pairs : Pairs) (pair : List ℕ × List ℕ) → length before ≡ 64 → are_good ((before ++ pair ∷ []) ++ pairs) ≡ false
many before pairs pair h =
    let n = length-append (before ++ pair ∷ []) pairs in
    let m = length-append before (pair ∷ []) in
    grind (arith, nat_tests, n, m, h)

unnamed : (before pairs : Pairs) (pair : List ℕ × List ℕ) → is_replica_name pair.0 ≡ false → are_good ((before ++ pair ∷ []) ++ pairs) ≡ false
unnamed before pairs pair h =
    let n = list_all-append (λ (pair : List ℕ × List ℕ). is_replica_name pair.0) (before ++ pair ∷ []) pairs in
    let m = list_all-append (λ (pair : List ℕ × List ℕ). is_replica_name pair.0) before (pair ∷ []) in
    grind (arith, nat_tests, n, m, h)

-- a target behind 64 of them
pub too_many : (words : List (List ℕ)) (before : Pairs) (pair : List ℕ × List ℕ) (rest : Option Pairs) → pairs_of words ≡ onto (before ++ pair ∷ []) rest
    → length before ≡ 64 → Bad ≡ build_of (pairs_of words)
too_many words before pair rest whole h = bad_for words (before ++ pair ∷ []) rest whole (λ pairs. many before pairs pair h)

-- a target whose name is none
pub no_name : (words : List (List ℕ)) (before : Pairs) (pair : List ℕ × List ℕ) (rest : Option Pairs) → pairs_of words ≡ onto (before ++ pair ∷ []) rest
    → is_replica_name pair.0 ≡ false → Bad ≡ build_of (pairs_of words)
no_name words before pair rest whole h = bad_for words (before ++ pair ∷ []) rest whole (λ pairs. unnamed before pairs pair h)
