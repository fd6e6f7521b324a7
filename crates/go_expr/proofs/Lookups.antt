-- What names find.
use Rattle.std.proofs.Common.{◌≡◌, Bool, true, false, cond, Option, Some, None, List, [], ◌∷◌, ◌++◌, map, refl, ap, ◌∙◌}
use Rattle.std.specs.Option.{option_map, unwrap_or}
use Rattle.std.specs.List.{list_any}
use Rattle.std.specs.Map.{lookup}
use Rattle.std.specs.Prelude.{◌||◌}

-- the first of two
abbrev or_else : {A : Type 0} → Option A → Option A → Option A
or_else None o = o
or_else (Some x) o = Some x

passed : {A : Type 0} (b : Bool) (x : A) (o r whole : Option A) → whole ≡ or_else o r → cond b (Some x) whole ≡ or_else (cond b (Some x) o) r
passed true x o r whole e = refl
passed false x o r whole e = e

lookup_both : {K X : Type 0} (test : K → Bool) (xs ys : List (K × X)) → lookup test (xs ++ ys) ≡ or_else (lookup test xs) (lookup test ys)
lookup_both test [] ys = refl
lookup_both test (p ∷ xs) ys = passed (test p.0) p.1 (lookup test xs) (lookup test ys) _ (lookup_both test xs ys)

-- what the first entries have is found
pub found_first : {K X : Type 0} (test : K → Bool) (xs ys : List (K × X)) (x : X) → lookup test xs ≡ Some x → lookup test (xs ++ ys) ≡ Some x
found_first test xs ys x e = lookup_both test xs ys ∙ ap (λ o. or_else o (lookup test ys)) e

-- what they haven't is looked for among the others
pub found_later : {K X : Type 0} (test : K → Bool) (xs ys : List (K × X)) → lookup test xs ≡ None → lookup test (xs ++ ys) ≡ lookup test ys
found_later test xs ys e = lookup_both test xs ys ∙ ap (λ o. or_else o (lookup test ys)) e

mapped : {X Y : Type 0} (b : Bool) (f : X → Y) (x : X) (o : Option X) (whole : Option Y) → whole ≡ option_map f o → cond b (Some (f x)) whole ≡ option_map f (cond b (Some x) o)
mapped true f x o whole e = refl
mapped false f x o whole e = e

-- entries that are seen as others
pub found_seen : {K L X Y : Type 0} (test : L → Bool) (g : K → L) (f : X → Y) (es : List (K × X)) → lookup test (map (λ e. (g e.0, f e.1)) es) ≡ option_map f (lookup (λ k. test (g k)) es)
found_seen test g f [] = refl
found_seen test g f (e ∷ es) = mapped (test (g e.0)) f e.1 (lookup (λ k. test (g k)) es) _ (found_seen test g f es)

-- keys that all have one value
one_value : {A : Type 0} (b any : Bool) (v : A) (whole : Option A) → whole ≡ cond any (Some v) None → cond b (Some v) whole ≡ cond (b || any) (Some v) None
one_value true any v whole e = refl
one_value false any v whole e = e

pub found_among : {K X : Type 0} (test : K → Bool) (v : X) (ks : List K) → lookup test (map (λ k. (k, v)) ks) ≡ cond (list_any test ks) (Some v) None
found_among test v [] = refl
found_among test v (k ∷ ks) = one_value (test k) (list_any test ks) v _ (found_among test v ks)

-- what a name finds, or another thing
pub found_first_or : {K X : Type 0} (test : K → Bool) (xs ys : List (K × X)) (v other : X) → lookup test xs ≡ Some v → unwrap_or (lookup test (xs ++ ys)) other ≡ v
found_first_or test xs ys v other e = ap (λ o. unwrap_or o other) (found_first test xs ys v e)

pub found_later_or : {K X : Type 0} (test : K → Bool) (xs ys : List (K × X)) (other : X) → lookup test xs ≡ None → unwrap_or (lookup test (xs ++ ys)) other ≡ unwrap_or (lookup test ys) other
found_later_or test xs ys other e = ap (λ o. unwrap_or o other) (found_later test xs ys e)

-- the names of a package, as they are seen
pub package_has : {K L X Y Z : Type 0} (test : L → Bool) (g : K → L) (f : X → Y) (h : Option Y → Z) (es : List (K × Option X)) → lookup test (map (λ (n : L × Option Y). (n.0, h n.1)) (map (λ (e : K × Option X). (g e.0, option_map f e.1)) es)) ≡ option_map h (option_map (option_map f) (lookup (λ k. test (g k)) es))
package_has {K} {L} {X} {Y} test g f h es = found_seen test (λ k. k) h (map (λ (e : K × Option X). (g e.0, option_map f e.1)) es) ∙ ap (option_map h) (found_seen test g (option_map f) es)
