-- The needs of an object, one name after another.
use Rattle.std.proofs.Common.{◌≡◌, ℕ, true, false, not, List, ◌∷◌, Some, None, map, refl}
use Rattle.std.specs.List.{filter, filter_map}
use Rattle.go_scope.specs.Names.{Used}
use Rattle.go_expr.specs.Known.{Names}
use Rattle.go_objects.specs.Objects.{DeclaredObject}
use Rattle.go_objects.specs.Table.{number_of, is_hidden}

abbrev pub needed_of : List DeclaredObject → List (List ℕ × Names) → List Used → List ℕ
needed_of os imports us = filter_map (number_of os) (filter (λ x. not (is_hidden imports x)) (map (λ (u : Used). u.0) us))

pub hidden_need : (os : List DeclaredObject) (imports : List (List ℕ × Names)) (u : Used) (us : List Used) → is_hidden imports u.0 ≡ true → needed_of os imports (u ∷ us) ≡ needed_of os imports us
hidden_need os imports u us h = rw h refl

pub no_need : (os : List DeclaredObject) (imports : List (List ℕ × Names)) (u : Used) (us : List Used) → is_hidden imports u.0 ≡ false → number_of os u.0 ≡ None → needed_of os imports (u ∷ us) ≡ needed_of os imports us
no_need os imports u us h n = rw (h, n) refl

pub one_need : (os : List DeclaredObject) (imports : List (List ℕ × Names)) (u : Used) (us : List Used) (n : ℕ) → is_hidden imports u.0 ≡ false → number_of os u.0 ≡ Some n → needed_of os imports (u ∷ us) ≡ n ∷ needed_of os imports us
one_need os imports u us n h some = rw (h, some) refl
