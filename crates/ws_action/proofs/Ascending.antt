-- Lists that ascend: those with the same members are one.
use Rattle.std.specs.Prelude.{◌≡◌, ℕ, true, List, [], ◌∷◌, map, refl}
use Rattle.std.specs.List.{AllByRecursion, Contains}
use Rattle.std.specs.List.Sorted.{IsStrictlySortedBy}
use Rattle.std.specs.Ordering.{is_lt, ordering_reverse}
use Rattle.std.specs.declared.cmp.Ordering.{Ordering}
use Rattle.std.specs.declared.cmp.Ordering.TheVariants.{Less, Equal, Greater}
use Rattle.std.proofs.Common.{sym, ap, subst, ◌∙◌, inl, inr}
use Rattle.std.proofs.lemmas.Bool.{and_parts}
use Rattle.std.proofs.lemmas.Cmp.{nat_list_cmp_total}
use Rattle.ws_action.specs.Actions.{Named, text_cmp, ascends_from, ascends}
use Rattle.ws_action.proofs.Members.{none_in_empty, head_or_later, later, at_head}

less : (o : Ordering) → is_lt o ≡ true → o ≡ Less
less Less e = refl
less Equal e = cc (e)
less Greater e = cc (e)

abbrev Above : List ℕ → List (List ℕ) → Type 0
Above p qs = AllByRecursion (λ q. text_cmp p q ≡ Less) qs

-- what is above a path is above those below it
above : (p q : List ℕ) (rs : List (List ℕ)) → text_cmp p q ≡ Less → Above q rs → Above p rs
above p q [] l a = tt
above p q (r ∷ rs) l a = (nat_list_cmp_total.trans p q r l a.0, above p q rs l a.1)

rises_from : (p : List ℕ) (ns : List Named) → ascends_from p ns ≡ true → Above p (map (λ n. n.0) ns) × IsStrictlySortedBy text_cmp (map (λ n. n.0) ns)
unfolding IsStrictlySortedBy
rises_from p [] e = (tt, tt)
rises_from p (n ∷ ns) e =
    let both = and_parts (is_lt (text_cmp p n.0)) (ascends_from n.0 ns) e in
    let first : text_cmp p n.0 ≡ Less = less (text_cmp p n.0) both.0 in
    let rest = rises_from n.0 ns both.1 in
    ((first, above p n.0 (map (λ m. m.0) ns) first rest.0), rest)

-- the names of parts that ascend
pub rises : (ns : List Named) → ascends ns ≡ true → IsStrictlySortedBy text_cmp (map (λ n. n.0) ns)
unfolding IsStrictlySortedBy
rises [] e = tt
rises (n ∷ ns) e = rises_from n.0 ns e

among_all : (P : List ℕ → Type 0) (ps : List (List ℕ)) (p : List ℕ) → AllByRecursion P ps → Contains ps p → P p
among_all P [] p all c = absurd (none_in_empty p c)
among_all P (q ∷ qs) p all c = elim (head_or_later q qs p c) [ inl e ↦ subst P e all.0 | inr l ↦ among_all P qs p all.1 l ]

not_both : (p q : List ℕ) → text_cmp p q ≡ Less → text_cmp q p ≡ Less → ⊥
not_both p q g h = let e : Less ≡ Greater = sym g ∙ nat_list_cmp_total.antisymm p q ∙ ap ordering_reverse h in cc (e)

-- the heads are one
heads : (p q : List ℕ) (ps qs : List (List ℕ)) → Above p ps → Above q qs → Contains (q ∷ qs) p → Contains (p ∷ ps) q → p ≡ q
heads p q ps qs a b here there = elim (head_or_later q qs p here) [
  | inl e ↦ sym e
  | inr l ↦ elim (head_or_later p ps q there) [
    | inl e ↦ e
    | inr m ↦ absurd (not_both p q (among_all (λ r. text_cmp p r ≡ Less) ps q a m) (among_all (λ r. text_cmp q r ≡ Less) qs p b l))
  ]
]

-- what is in the tail is no head
in_tail : (p r : List ℕ) (ps qs : List (List ℕ)) → Above p ps → Contains ps r → Contains (p ∷ qs) r → Contains qs r
in_tail p r ps qs a c d = elim (head_or_later p qs r d) [
  | inl e ↦ (let l : text_cmp p r ≡ Less = among_all (λ s. text_cmp p s ≡ Less) ps r a c in let s : text_cmp p p ≡ Less = subst (λ s. text_cmp p s ≡ Less) (sym e) l in absurd (not_both p p s s))
  | inr l ↦ l
]

pub one_ascending : (ps qs : List (List ℕ)) → IsStrictlySortedBy text_cmp ps → IsStrictlySortedBy text_cmp qs → ((r : List ℕ) → Contains ps r → Contains qs r) → ((r : List ℕ) → Contains qs r → Contains ps r) → ps ≡ qs
unfolding IsStrictlySortedBy
one_ascending [] [] g h to from = refl
one_ascending [] (q ∷ qs) g h to from = absurd (none_in_empty q (from q (at_head qs q q refl)))
one_ascending (p ∷ ps) [] g h to from = absurd (none_in_empty p (to p (at_head ps p p refl)))
one_ascending (p ∷ ps) (q ∷ qs) g h to from =
    let e : p ≡ q = heads p q ps qs g.0 h.0 (to p (at_head ps p p refl)) (from q (at_head qs q q refl)) in
    let b : Above p qs = subst (λ r. Above r qs) (sym e) h.0 in
    let tails : ps ≡ qs = one_ascending ps qs g.1 h.1
    (λ r c. in_tail p r ps qs g.0 c (subst (λ s. Contains (s ∷ qs) r) (sym e) (to r (later p ps r c))))
    (λ r c. in_tail p r qs ps b c (from r (later q qs r c))) in
    ap (λ (s : List ℕ). s ∷ ps) e ∙ ap (λ (l : List (List ℕ)). q ∷ l) tails
