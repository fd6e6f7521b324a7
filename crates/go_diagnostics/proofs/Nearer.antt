-- The search for the nearest name.
use Rattle.std.proofs.Common.{◌≡◌, ℕ, ◌+◌, ◌<◌, ◌≤◌, List, get_or, take, length, map, Bool, true, false, Option, Some, None, ap, ◌∙◌, sym, subst, inr, arith, option_map}
use Rattle.std.specs.Borrow.{Bor}
use Rattle.std.specs.List.{All, Contains}
use Rattle.std.proofs.Math.ListN.{get_or-map}
use Rattle.std.proofs.lemmas.List.{get_or_default, length-map, take_all}
use Rattle.std.proofs.lemmas.List.Elements.{All-map, All-more, All-weaker}
use Rattle.go_diagnostics.specs.Nearest.{IsNearest, NoneNearer, distance, is_candidate, longest, most_edits}

-- no candidate among the names has fewer edits than these
abbrev pub NoneBelow : List ℕ → ℕ → List (Bor (List ℕ)) → Type 0
NoneBelow unknown edits names = All (λ name. is_candidate unknown name.now ≡ true → edits ≤ distance unknown name.now) names

-- so many edits lead to what is found, or one more than may lie between
abbrev pub IsLeast : List ℕ → List (Bor (List ℕ)) → Option (Bor (List ℕ)) → ℕ → Type 0
IsLeast unknown names None least = least ≡ most_edits unknown + 1
IsLeast unknown names (Some name) least =
    ((k : ℕ) × (k < length names) × (get_or names k name ≡ name))
    × (is_candidate unknown name.now ≡ true) × (least ≡ distance unknown name.now) × (least ≤ most_edits unknown)

-- one more name, which has no fewer edits either
pub none_more : (unknown : List ℕ) (least edits : ℕ) (names : List (Bor (List ℕ))) (i : ℕ) (d : Bor (List ℕ)) → i < length names → edits ≤ least
    → (is_candidate unknown (get_or names i d).now ≡ true → edits ≤ distance unknown (get_or names i d).now)
    → NoneBelow unknown least (take i names) → NoneBelow unknown edits (take (i + 1) names)
none_more unknown least edits names i d lt le this none =
    let P : Bor (List ℕ) → Type 0 = λ name. is_candidate unknown name.now ≡ true → edits ≤ distance unknown name.now in
    let Q : Bor (List ℕ) → Type 0 = λ name. is_candidate unknown name.now ≡ true → least ≤ distance unknown name.now in
    All-more P names i d lt (All-weaker Q P (λ name below is. let far : least ≤ distance unknown name.now = below is in omega arith) (take i names) none) this

-- a candidate that so many edits lead to
pub none_more_at : (unknown : List ℕ) (least edits n : ℕ) (names : List (Bor (List ℕ))) (i : ℕ) (d : Bor (List ℕ)) → i < length names → edits ≤ least → edits ≤ n
    → n ≡ distance unknown (get_or names i d).now → NoneBelow unknown least (take i names) → NoneBelow unknown edits (take (i + 1) names)
none_more_at unknown least edits n names i d lt le few same none =
    none_more unknown least edits names i d lt le (λ is. subst (λ (m : ℕ). edits ≤ m) same few) none

-- a name that is no candidate
pub none_more_other : (unknown : List ℕ) (least edits : ℕ) (names : List (Bor (List ℕ))) (i : ℕ) (d : Bor (List ℕ)) (test : Bool) → i < length names → edits ≤ least
    → test ≡ is_candidate unknown (get_or names i d).now → test ≡ false → NoneBelow unknown least (take i names) → NoneBelow unknown edits (take (i + 1) names)
none_more_other unknown least edits names i d test lt le is isnt none =
    none_more unknown least edits names i d lt le (λ candidate. let bad : true ≡ false = sym candidate ∙ (sym is ∙ isnt) in absurd (cc)) none

at_most : (unknown : List ℕ) (names : List (Bor (List ℕ))) (found : Option (Bor (List ℕ))) (least : ℕ) → IsLeast unknown names found least
    → least ≤ most_edits unknown + 1
at_most unknown names None least is = omega arith
at_most unknown names (Some name) least is = let few : least ≤ most_edits unknown = is.3 in omega arith

-- the name at a place is a candidate that fewer edits lead to
pub found_at : (unknown : List ℕ) (names : List (Bor (List ℕ))) (i : ℕ) (d : Bor (List ℕ)) (before found : Option (Bor (List ℕ))) (least edits : ℕ)
    → i < length names → found ≡ Some (get_or names i d) → is_candidate unknown (get_or names i d).now ≡ true
    → edits ≡ distance unknown (get_or names i d).now → edits < least → IsLeast unknown names before least → IsLeast unknown names found edits
found_at unknown names i d before found least edits lt is candidate near fewer was =
    let bound : least ≤ most_edits unknown + 1 = at_most unknown names before least was in
    let few : edits ≤ most_edits unknown = omega arith in
    let here : IsLeast unknown names (Some (get_or names i d)) edits =
    ((i, lt, get_or_default names i (get_or names i d) d lt), candidate, near, few) in
    subst (λ (name : Option (Bor (List ℕ))). IsLeast unknown names name edits) (sym is) here

-- no other name was found
pub found_before : (unknown : List ℕ) (names : List (Bor (List ℕ))) (before found : Option (Bor (List ℕ))) (least edits : ℕ)
    → found ≡ before → edits ≡ least → IsLeast unknown names before least → IsLeast unknown names found edits
found_before unknown names before found least edits same_name same was =
    subst (λ (name : Option (Bor (List ℕ))). IsLeast unknown names name edits) (sym same_name)
    (subst (λ (n : ℕ). IsLeast unknown names before n) (sym same) was)

none_nearer : (unknown : List ℕ) (edits : ℕ) (names : List (Bor (List ℕ))) → NoneBelow unknown edits names
    → NoneNearer unknown edits (map (λ name. name.now) names)
none_nearer unknown edits names none =
    All-map (λ name. is_candidate unknown name ≡ true → edits ≤ distance unknown name) (λ (name : Bor (List ℕ)). name.now) names none

contains : (names : List (Bor (List ℕ))) (name : Bor (List ℕ)) (k : ℕ) → k < length names → get_or names k name ≡ name
    → Contains (map (λ (it : Bor (List ℕ)). it.now) names) name.now
contains names name k lt at =
    let same : length (map (λ (it : Bor (List ℕ)). it.now) names) ≡ length names = length-map names (λ (it : Bor (List ℕ)). it.now) in
    let there : k < length (map (λ (it : Bor (List ℕ)). it.now) names) = omega arith in
    (k, there, get_or-map (λ (it : Bor (List ℕ)). it.now) names k name ∙ ap (λ (it : Bor (List ℕ)). it.now) at)

-- behind the last name
pub is_nearest : (unknown : List ℕ) (names : List (Bor (List ℕ))) (found : Option (Bor (List ℕ))) (least i : ℕ) → length unknown ≤ longest → length names ≤ i
    → IsLeast unknown names found least → NoneBelow unknown least (take i names)
    → IsNearest unknown (map (λ name. name.now) names) (option_map (λ name. name.now) found)
is_nearest unknown names None least i short end is none =
    let all : NoneBelow unknown least names = subst (λ (ns : List (Bor (List ℕ))). NoneBelow unknown least ns) (take_all i names end) none in
    inr (none_nearer unknown (most_edits unknown + 1) names (subst (λ (n : ℕ). NoneBelow unknown n names) is all))
is_nearest unknown names (Some name) least i short end is none =
    let all : NoneBelow unknown least names = subst (λ (ns : List (Bor (List ℕ))). NoneBelow unknown least ns) (take_all i names end) none in
    record {
      short = short;
      one_of_them = contains names name is.0.0 is.0.1 is.0.2;
      candidate = is.1;
      near = subst (λ (n : ℕ). n ≤ most_edits unknown) is.2 is.3;
      nearest = none_nearer unknown (distance unknown name.now) names (subst (λ (n : ℕ). NoneBelow unknown n names) is.2 all);
    }
