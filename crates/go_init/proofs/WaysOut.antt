-- Where each of some things has an edge to one of them or a way out, each has a way out, unless some lie on a circle.
use Rattle.std.proofs.Common.{◌≡◌, ℕ, zero, suc, ◌≤◌, List, [], ◌∷◌, ◌++◌, length, refl, sym, ap, subst, inl, inr, ◌⊎◌, arith}
use Rattle.std.proofs.lemmas.List.{length-append}
use Rattle.ws_reach.specs.Reach.{Reaches}
use Rattle.ws_reach.proofs.Closure.{IsOneOf}
use Rattle.ws_reach.proofs.Reached.{reaches_more}
use Rattle.go_init.proofs.Members.{around, one_parts}

module _ {A : Type 0} (E : A → A → Type 0) (all : List A) (Out : A → Type 0) (out : (x y : A) → E x y → Out y → Out x) (no_circle : (p q : A) → E p q → Reaches E q p → ⊥) (next : (x : A) → IsOneOf x all → ((y : A) × IsOneOf y all × E x y) ⊎ Out x) where
  -- the way so far leads to x, and the others are still to come
  record Way (visited todo : List A) (x : A) : Type 0 where
    one : IsOneOf x all
    leads : (v : A) → IsOneOf v visited → Reaches E v x
    cover : (y : A) → IsOneOf y all → (y ≡ x) ⊎ (IsOneOf y visited ⊎ IsOneOf y todo)

  further : (visited before after : List A) (x y : A) → Way visited (before ++ y ∷ after) x → IsOneOf y all → E x y → Way (x ∷ visited) (before ++ after) y
  further visited before after x y w one e = record {
    one = one;
    leads = λ v h. elim h [ inl same ↦ subst (λ z. Reaches E z y) (sym same) (y ∷ [], (e, refl)) | inr old ↦ reaches_more E v x y (w.leads v old) e ];
    cover = λ z h. elim (w.cover z h) [
      | inl same ↦ inr (inl (inl same))
      | inr r ↦ elim r [
        | inl old ↦ inr (inl (inr old))
        | inr new ↦ elim (one_parts before after y z new) [ inl same ↦ inl same | inr rest ↦ inr (inr rest) ]
      ]
    ];
  }

  fewer : (todo before after : List A) (y : A) → todo ≡ before ++ y ∷ after → suc (length (before ++ after)) ≡ length todo
  fewer todo before after y is =
      let l : length todo ≡ length (before ++ y ∷ after) = ap length is in
      omega (arith, l, length-append before (y ∷ after), length-append before after)

  -- the next is out, or else one that is new
  met : (visited todo : List A) (x : A) → Way visited todo x → Out x ⊎ ((before after : List A) × (y : A) × (suc (length (before ++ after)) ≡ length todo) × E x y × Way (x ∷ visited) (before ++ after) y)
  met visited todo x w = elim (next x w.one) [
    | inr o ↦ inl o
    | inl n ↦ elim (w.cover n.0 n.1) [
      | inl same ↦ absurd (no_circle x n.0 n.2 ([], same))
      | inr r ↦ elim r [
        | inl old ↦ absurd (no_circle x n.0 n.2 (w.leads n.0 old))
        | inr new ↦ (
            let s = around todo n.0 new in
            inr (s.0, s.1, n.0, fewer todo s.0 s.1 n.0 s.2, n.2, further visited s.0 s.1 x n.0 (subst (λ t. Way visited t x) s.2 w) n.1 n.2))
      ]
    ]
  ]

  walk : (fuel : ℕ) (visited todo : List A) (x : A) → Way visited todo x → length todo ≤ fuel → Out x
  walk zero visited todo x w few = elim (met visited todo x w) [
    | inl o ↦ o
    | inr m ↦ (let l = m.3 in absurd (omega (arith, few, l)))
  ]
  walk (suc fuel) visited todo x w few = elim (met visited todo x w) [
    | inl o ↦ o
    | inr m ↦ (let l = m.3 in out x m.2 m.4 (walk fuel (x ∷ visited) (m.0 ++ m.1) m.2 m.5 (omega (arith, few, l))))
  ]

  pub way_out : (x : A) → IsOneOf x all → Out x
  way_out x one = walk (length all) [] all x (record { one = one; leads = λ v h. absurd h; cover = λ y h. inr (inr h) }) (omega arith)
