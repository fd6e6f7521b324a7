-- A path without a slash is its last element.
use Rattle.std.proofs.Common.{◌≡◌, ℕ, Bool, true, false, List, [], ◌∷◌, refl, nat_eq, if◌then◌else◌}
use Rattle.std.specs.Prelude.{◌==◌, ◌||◌}
use Rattle.std.specs.List.{list_any}
use Rattle.std.proofs.lemmas.Bool.{eq-eqb, eqb-true}
use Rattle.go_diagnostics.specs.Unknown.{last_element}

choose : (any : Bool) (x y : List ℕ) → (any ≡ false → y ≡ x) → (if any then x else y) ≡ x
choose true x y same = refl
choose false x y same = same refl

none_behind : (first any same : Bool) (x y z : List ℕ) → (first || any) ≡ false → (same ≡ true → first ≡ true)
    → z ≡ (if any then x else (if same then y else z))
none_behind true any same x y z none is = absurd (let h : true ≡ false = none in cc)
none_behind false true same x y z none is = absurd (let h : true ≡ false = none in cc)
none_behind false false true x y z none is = absurd (let h : false ≡ true = is refl in cc)
none_behind false false false x y z none is = refl

turned : (b : ℕ) → (b == 47) ≡ true → nat_eq 47 b ≡ true
turned b is = let same : b ≡ 47 = eqb-true b 47 is in eq-eqb 47 b (cc)

no_slash : (path : List ℕ) → list_any (nat_eq 47) path ≡ false → path ≡ last_element path
no_slash [] none = refl
no_slash (b ∷ bs) none = none_behind (nat_eq 47 b) (list_any (nat_eq 47) bs) (b == 47) (last_element bs) bs (b ∷ bs) none (turned b)

-- before the first slash is found the path itself stands for its last element
pub whole : (path : List ℕ) → (if list_any (nat_eq 47) path then last_element path else path) ≡ last_element path
whole path = choose (list_any (nat_eq 47) path) (last_element path) path (no_slash path)
