-- A map from names to numbers of nodes.
use Rattle.std.proofs.Common.{◌≡◌, ℕ, true, false, cond, List, [], ◌∷◌, ◌++◌, Option, Some, Bor, Ordering, sym, ap, ◌∙◌, subst, inl, inr, ◌⊎◌}
use Rattle.std.specs.Prelude.{◌↔◌, bytes_eq}
use Rattle.std.specs.List.{Contains}
use Rattle.std.specs.Global.{Vec}
use Rattle.std.specs.BTreeMap.{BTreeMap, Updates, get, get_by, is_at}
use Rattle.std.specs.Cmp.Lexicographic.{slice_cmp}
use Rattle.std.specs.Ordering.{nat_cmp}
use Rattle.std.proofs.lemmas.Bool.{cases_Bool}
use Rattle.std.proofs.lemmas.List.Elements.{Contains-append_left, Contains-push, Contains-push_cases}
use Rattle.std.proofs.lemmas.Map.Text.{is_eq-slice_cmp}
use Rattle.std.proofs.lemmas.Slice.Eq.{bytes_eq-Decides}
use Rattle.go_init.specs.Views.{bearers, listed_numbers}

abbrev Name : Type 0
Name = Bor (List ℕ)

abbrev Map : Type 0
Map = BTreeMap (Bor (List ℕ)) (Vec ℕ)

abbrev cmp : Bor (List ℕ) → Bor (List ℕ) → Ordering
cmp a b = slice_cmp nat_cmp a.now b.now

pub same_bearers : (m : Map) (x y : Name) → x.now ≡ y.now → bearers m x ≡ bearers m y
same_bearers m x y e = ap (λ (t : List ℕ). listed_numbers (get_by (λ (k : Name). slice_cmp nat_cmp t k.now) m)) e

at_same : (k x : Name) → x.now ≡ k.now → is_at (cmp k) x ≡ true
at_same k x e = is_eq-slice_cmp k.now x.now ∙ (bytes_eq-Decides k.now x.now).1 (sym e)

at_other : (k x : Name) → (x.now ≡ k.now → ⊥) → is_at (cmp k) x ≡ false
at_other k x ne = elim (cases_Bool (bytes_eq k.now x.now)) [
  | inl t ↦ absurd (ne (sym ((bytes_eq-Decides k.now x.now).0 t)))
  | inr f ↦ is_eq-slice_cmp k.now x.now ∙ f
]

pub updated_here : (m n : Map) (k : Name) (w : Option (Vec ℕ)) → Updates cmp m n k w → (x : Name) → x.now ≡ k.now → bearers n x ≡ listed_numbers w
updated_here m n k w u x e = ap listed_numbers (u.0 x ∙ ap (λ b. cond b w (get cmp m x)) (at_same k x e))

pub updated_else : (m n : Map) (k : Name) (w : Option (Vec ℕ)) → Updates cmp m n k w → (x : Name) → (x.now ≡ k.now → ⊥) → bearers n x ≡ bearers m x
updated_else m n k w u x ne = ap listed_numbers (u.0 x ∙ ap (λ b. cond b w (get cmp m x)) (at_other k x ne))

-- a number more under a name
pub one_more : (m taken n : Map) (k : Name) (numbers : Vec ℕ) (number : ℕ) → numbers.items ≡ bearers m k ++ number ∷ [] → ((x : Name) → (x.now ≡ k.now → ⊥) → bearers taken x ≡ bearers m x)
    → Updates cmp taken n k (Some numbers) → (x : Name) (j : ℕ) → Contains (bearers n x) j ↔ (Contains (bearers m x) j ⊎ ((x.now ≡ k.now) × (j ≡ number)))
one_more m taken n k numbers number is others u x j = elim (cases_Bool (bytes_eq x.now k.now)) [
  | inl t ↦ (
      let same : x.now ≡ k.now = (bytes_eq-Decides x.now k.now).0 t in
      let all : bearers n x ≡ bearers m x ++ number ∷ [] = updated_here taken n k (Some numbers) u x same ∙ is ∙ ap (λ l. l ++ number ∷ []) (sym (same_bearers m x k same)) in (
        λ h. elim (Contains-push_cases (bearers m x) number j (subst (λ (l : List ℕ). Contains l j) all h)) [ inl old ↦ inl old | inr new ↦ inr (same, sym new) ],
        λ h. subst (λ (l : List ℕ). Contains l j) (sym all) (elim h [
          | inl old ↦ Contains-append_left (bearers m x) (number ∷ []) j old
          | inr new ↦ subst (λ i. Contains (bearers m x ++ number ∷ []) i) (sym new.1) (Contains-push (bearers m x) number)
        ]),
      ))
  | inr f ↦ (
      let ne : x.now ≡ k.now → ⊥ = λ e. (let t = (bytes_eq-Decides x.now k.now).1 e in let wrong : true ≡ false = sym t ∙ f in cc (wrong)) in
      let all : bearers n x ≡ bearers m x = updated_else taken n k (Some numbers) u x ne ∙ others x ne in (
        λ h. inl (subst (λ (l : List ℕ). Contains l j) all h),
        λ h. elim h [ inl old ↦ subst (λ (l : List ℕ). Contains l j) (sym all) old | inr new ↦ absurd (ne new.0) ],
      ))
]
