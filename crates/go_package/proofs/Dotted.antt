-- The names before a dot, as a list.
use Rattle.std.proofs.Common.{◌≡◌, true, false, ◌||◌, List, [], ◌∷◌, ◌++◌, ℕ, map, is_some, refl, sym, ap, ◌∙◌}
use Rattle.std.specs.Prelude.{bytes_eq, position}
use Rattle.std.specs.List.{filter, flat_map, list_any}
use Rattle.go_scope.proofs.Indexes.{is_some_position}
use Rattle.go_ast.specs.Trees.{TopLevel, File}
use Rattle.go_scope.specs.Names.{Used}
use Rattle.go_uses.specs.Uses.{in_top, is_dotted, file_refers}

any_dotted : (x : List ℕ) (us : List Used) → list_any (bytes_eq x) (map (λ u. u.0) (filter (λ u. u.1) us)) ≡ is_dotted x us
any_dotted x [] = refl
any_dotted x ((y, true) ∷ us) = ap (λ b. bytes_eq x y || b) (any_dotted x us)
any_dotted x ((y, false) ∷ us) = any_dotted x us

pub is_referred : (x : List ℕ) (names : List (List ℕ)) (f : File) → names ≡ map (λ (u : Used). u.0) (filter (λ (u : Used). u.1) (flat_map in_top f.declarations)) → is_some (position (bytes_eq x) names) ≡ file_refers x f
is_referred x names f is = is_some_position (bytes_eq x) names ∙ ap (list_any (bytes_eq x)) is ∙ any_dotted x (flat_map in_top f.declarations)

-- ---- declarations, one after another

abbrev pub dotted : List Used → List (List ℕ)
dotted us = map (λ (u : Used). u.0) (filter (λ (u : Used). u.1) us)

abbrev pub dotted_top : TopLevel → List (List ℕ)
dotted_top top = dotted (in_top top)

several : (us vs : List Used) → dotted (us ++ vs) ≡ dotted us ++ dotted vs
several [] vs = refl
several ((x, true) ∷ us) vs = ap (λ l. x ∷ l) (several us vs)
several ((x, false) ∷ us) vs = several us vs

pub dotted_tops : (tops : List TopLevel) → flat_map dotted_top tops ≡ dotted (flat_map in_top tops)
dotted_tops [] = refl
dotted_tops (top ∷ tops) = ap (λ l. dotted_top top ++ l) (dotted_tops tops) ∙ sym (several (in_top top) (flat_map in_top tops))
