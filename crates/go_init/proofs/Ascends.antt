-- Turns over numbers that ascend: what is left over ascends, and nothing of it is in the order.
use Rattle.std.proofs.Common.{◌≡◌, ℕ, zero, suc, Bool, true, false, not, List, [], ◌∷◌, Option, Some, None, refl, ap, subst, inl, inr, arith}
use Rattle.std.specs.Prelude.{if◌then◌else◌, option_map}
use Rattle.std.specs.List.{list_any}
use Rattle.ws_reach.proofs.Closure.{IsOneOf}
use Rattle.go_init.specs.Turns.{first_passing, turn_order}
use Rattle.go_init.proofs.First.{Ascending}
use Rattle.go_init.proofs.Members.{Apart}
use Rattle.go_init.proofs.Turns.{IsFirst, first_is, turns_are}

module _ (test : ℕ → Bool) where
  behind : (z : ℕ) (zs : List ℕ) → Ascending (z ∷ zs) → (o : Option (ℕ × List ℕ)) → ((w : ℕ) (ws : List ℕ) → o ≡ Some (w, ws) → IsFirst test zs w ws × Ascending ws) → (x : ℕ) (ys : List ℕ)
      → ◌≡◌ {A = Option (ℕ × List ℕ)} (option_map {U = ℕ × List ℕ} (λ (r : ℕ × List ℕ). (r.0, z ∷ r.1)) o) (Some (x, ys)) → Ascending ys
  behind z zs a None later x ys e = cc
  behind z zs a (Some (w, ws)) later x ys e =
      let p : ◌≡◌ {A = ℕ × List ℕ} (w, z ∷ ws) (x, ys) = cc in
      let rest : z ∷ ws ≡ ys = ap (λ (r : ℕ × List ℕ). r.1) p in
      let l = later w ws refl in
      subst Ascending rest (λ y h. a.0 y ((l.0).left y h), l.1)

  by_test : (z : ℕ) (zs : List ℕ) → Ascending (z ∷ zs) → (b : Bool) → ((w : ℕ) (ws : List ℕ) → first_passing test zs ≡ Some (w, ws) → Ascending ws) → (x : ℕ) (ys : List ℕ)
      → ◌≡◌ {A = Option (ℕ × List ℕ)} (if b then Some (z, zs) else option_map (λ (r : ℕ × List ℕ). (r.0, z ∷ r.1)) (first_passing test zs)) (Some (x, ys)) → Ascending ys
  by_test z zs a true later x ys e =
      let p : ◌≡◌ {A = ℕ × List ℕ} (z, zs) (x, ys) = cc in
      let rest : zs ≡ ys = ap (λ (r : ℕ × List ℕ). r.1) p in
      subst Ascending rest a.1
  by_test z zs a false later x ys e = behind z zs a (first_passing test zs) (λ w ws is. (first_is test zs w ws is, later w ws is)) x ys e

  others_ascend : (xs : List ℕ) (x : ℕ) (ys : List ℕ) → Ascending xs → first_passing test xs ≡ Some (x, ys) → Ascending ys
  others_ascend [] x ys a e = cc
  others_ascend (z ∷ zs) x ys a e = by_test z zs a (test z) (λ w ws is. others_ascend zs w ws a.1 is) x ys e

apart_of : (xs : List ℕ) → Ascending xs → Apart xs
apart_of [] a = tt
apart_of (x ∷ xs) a = (λ h. (let lt = a.0 x h in absurd (omega (arith, lt))), apart_of xs a.1)

module _ (waits : ℕ → ℕ → Bool) where
  abbrev free : List ℕ → ℕ → Bool
  free xs x = not (list_any (waits x) xs)

  pub record IsRest (order rest : List ℕ) : Type 0 where
    pub ascend : Ascending rest
    pub apart : (x : ℕ) → IsOneOf x order → IsOneOf x rest → ⊥

  rest_by : (n : ℕ) (xs : List ℕ) → Ascending xs → (o : Option (ℕ × List ℕ)) → first_passing (free xs) xs ≡ o → ((ys : List ℕ) → Ascending ys → IsRest (turn_order waits n ys).0 (turn_order waits n ys).1)
      → (let all : List ℕ × List ℕ = elim o [ None ↦ ([], xs) | Some r ↦ (let rest = turn_order waits n r.1 in (r.0 ∷ rest.0, rest.1)) ] in IsRest all.0 all.1)
  rest_by n xs a None e later = record { ascend = a; apart = λ x h r. h }
  rest_by n xs a (Some (x, ys)) e later =
      let f = first_is (free xs) xs x ys e in
      let l = later ys (others_ascend (free xs) xs x ys a e) in
      record {
        ascend = l.ascend;
        apart = λ z h r. elim h [
          | inl same ↦ (f.apart (apart_of xs a)).0 (subst (λ v. IsOneOf v ys) same ((turns_are waits n ys).over z r))
          | inr later ↦ l.apart z later r
        ];
      }

  pub rest_is : (n : ℕ) (xs : List ℕ) → Ascending xs → IsRest (turn_order waits n xs).0 (turn_order waits n xs).1
  rest_is zero xs a = record { ascend = a; apart = λ x h r. h }
  rest_is (suc n) xs a = rest_by n xs a (first_passing (free xs) xs) refl (rest_is n)
