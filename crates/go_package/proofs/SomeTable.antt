-- Each package has a table. It is found in rounds: a round asks each object by what the round before it found, and an object on which walks
-- end in fewer than n edges stays the same from the n-th round on.
use Rattle.std.proofs.Common.{◌≡◌, ◌⊎◌, ℕ, zero, suc, ◌+◌, ◌<◌, ◌≤◌, Bool, true, false, List, [], ◌∷◌, Option, Some, None, map, length, refl, sym, ap, ◌∙◌, subst, inl, inr, arith}
use Rattle.std.specs.Prelude.{if◌then◌else◌}
use Rattle.std.specs.List.{slice_get}
use Rattle.std.proofs.lemmas.Bool.{cases_lt, cases_eq}
use Rattle.std.proofs.lemmas.Option.{slice_get_within}
use Rattle.ws_reach.specs.Reach.{EdgesStayWithin}
use Rattle.go_scope.specs.Order.{GroundedIn, Grounded}
use Rattle.go_expr.specs.Known.{Declared, Names, Known, Verdict}
use Rattle.go_expr.specs.Rules.{fine}
use Rattle.go_objects.specs.Objects.{DeclaredObject}
use Rattle.go_objects.specs.Table.{PackageTable, rows, object_verdict, declared_in, IsTable}
use Rattle.go_objects.proofs.Groundedness.{is_grounded}
use Rattle.go_objects.proofs.Lookups.{Named, same_object, need_edge, get_mapped, rows_stay, length_rows}
use Rattle.go_objects.proofs.Filling.{entry_by, unknown_entry}

-- ---- what is grounded

deepen : (rows : List (List ℕ)) (n m i : ℕ) → n ≤ m → GroundedIn rows n i → GroundedIn rows m i
deepen rows zero m i le g = absurd g
deepen rows (suc n) zero i le g = absurd (omega (arith, le))
deepen rows (suc n) (suc m) i le g = λ j e. deepen rows n m j (omega (arith, le)) (g j e)

-- past the rows no edge begins
decided : (rows : List (List ℕ)) → EdgesStayWithin rows → (k : ℕ) → Grounded rows k ⊎ (Grounded rows k → ⊥)
decided rows within k = elim (cases_lt k (length rows)) [
  | inl lt ↦ is_grounded rows within k lt
  | inr past ↦ inl (suc zero, λ j e. absurd (let lt = slice_get_within rows k e.0 e.1 in omega (arith, past, lt)))
]

-- one depth for all that is grounded below a number
depth : (rows : List (List ℕ)) → EdgesStayWithin rows → (l : ℕ) → (n : ℕ) × ((k : ℕ) → k < l → Grounded rows k → GroundedIn rows n k)
depth rows within zero = (0, λ k lt. absurd (omega (arith, lt)))
depth rows within (suc l) =
    let before = depth rows within l in
    elim (decided rows within l) [
      | inl g ↦ (
        before.0 + g.0,
        λ k lt h. elim (cases_eq k l) [
          | inl e ↦ subst (GroundedIn rows (before.0 + g.0)) (sym e) (deepen rows g.0 (before.0 + g.0) l (omega arith) g.1)
          | inr ne ↦ deepen rows before.0 (before.0 + g.0) k (omega arith) (before.1 k (omega (arith, lt, ne)) h)
        ],
      )
      | inr never ↦ (before.0, λ k lt h. elim (cases_eq k l) [ inl e ↦ absurd (never (subst (Grounded rows) e h)) | inr ne ↦ before.1 k (omega (arith, lt, ne)) h ])
    ]

-- ---- rounds

abbrev round : PackageTable → ℕ → Names
round p zero = map unknown_entry p.objects
round p (suc n) = map (entry_by p (round p n)) p.objects

names_mapped : (d : DeclaredObject → Option Declared) (os : List DeclaredObject) → map (λ (n : List ℕ × Option Declared). n.0) (map (λ (o : DeclaredObject). (o.name.text, d o)) os) ≡ map (λ (o : DeclaredObject). o.name.text) os
names_mapped d [] = refl
names_mapped d (o ∷ os) = ap (λ l. o.name.text ∷ l) (names_mapped d os)

round_named : (p : PackageTable) (n : ℕ) → Named p.objects (round p n)
round_named p zero = names_mapped (λ o. None) p.objects
round_named p (suc n) = names_mapped (λ o. declared_in (fine (object_verdict p (round p n) o))) p.objects

round_at : (p : PackageTable) (n k : ℕ) (o : DeclaredObject) → slice_get p.objects k ≡ Some o → (d : Option Declared) × (slice_get (round p n) k ≡ Some (o.name.text, d))
round_at p zero k o at = (None, get_mapped unknown_entry p.objects k o at)
round_at p (suc n) k o at = (declared_in (fine (object_verdict p (round p n) o)), get_mapped (entry_by p (round p n)) p.objects k o at)

mapped_past : {A B : Type 0} (f : A → B) (xs : List A) (k : ℕ) → slice_get xs k ≡ None → slice_get (map f xs) k ≡ None
mapped_past f [] k e = refl
mapped_past f (x ∷ xs) zero e = cc
mapped_past f (x ∷ xs) (suc k) e = mapped_past f xs k e

steady : (p : PackageTable) (n k : ℕ) → GroundedIn (rows p) n k → slice_get (round p n) k ≡ slice_get (round p (suc n)) k
steady p zero k g = absurd g
steady p (suc n) k g = elim (slice_get p.objects k) as (λ r. slice_get p.objects k ≡ r → slice_get (round p (suc n)) k ≡ slice_get (round p (suc (suc n))) k) [
  | None ↦ λ past. mapped_past (entry_by p (round p n)) p.objects k past ∙ sym (mapped_past (entry_by p (round p (suc n))) p.objects k past)
  | Some o ↦ λ at. (
      let same = same_object p (round p n) (round p (suc n)) (round_named p n) (round_named p (suc n)) o (λ j c. steady p n j (g j (need_edge p k j o at c))) in
      get_mapped (entry_by p (round p n)) p.objects k o at
      ∙ ap (λ (v : Verdict Known). Some (o.name.text, declared_in (fine v))) same
      ∙ sym (get_mapped (entry_by p (round p (suc n))) p.objects k o at))
] refl

-- ---- a table of those that pass a test

abbrev chosen : (ℕ → Bool) → Names → Names
chosen test [] = []
chosen test (e ∷ es) = (e.0, if test 0 then e.1 else None) ∷ chosen (λ k. test (suc k)) es

chosen_named : (test : ℕ → Bool) (es : Names) → map (λ (n : List ℕ × Option Declared). n.0) (chosen test es) ≡ map (λ (n : List ℕ × Option Declared). n.0) es
chosen_named test [] = refl
chosen_named test (e ∷ es) = ap (λ l. e.0 ∷ l) (chosen_named (λ k. test (suc k)) es)

kept : (test : ℕ → Bool) (es : Names) (k : ℕ) → test k ≡ true → slice_get (chosen test es) k ≡ slice_get es k
kept test [] k t = refl
kept test (e ∷ es) zero t = ap (λ b. Some (e.0, if b then e.1 else None)) t
kept test (e ∷ es) (suc k) t = kept (λ j. test (suc j)) es k t

dropped : (test : ℕ → Bool) (es : Names) (k : ℕ) (x : List ℕ) (d : Option Declared) → test k ≡ false → slice_get es k ≡ Some (x, d) → slice_get (chosen test es) k ≡ Some (x, None)
dropped test [] k x d f at = cc
dropped test (e ∷ es) zero x d f at = (let same : e.0 ≡ x = cc (at) in ap (λ b. Some (e.0, if b then e.1 else None)) f ∙ ap (λ y. Some (y, None)) same)
dropped test (e ∷ es) (suc k) x d f at = dropped (λ j. test (suc j)) es k x d f at

-- what is grounded passes, so its needs have what the round before it found
settled : (p : PackageTable) (test : ℕ → Bool) → ((k : ℕ) → Grounded (rows p) k → test k ≡ true) → (n k : ℕ) (o : DeclaredObject) → slice_get p.objects k ≡ Some o → GroundedIn (rows p) n k →
    slice_get (round p n) k ≡ Some (entry_by p (chosen test (round p n)) o)
settled p test pass zero k o at g = absurd g
settled p test pass (suc n) k o at g =
    let after = round p (suc n) in
    let same = same_object p (round p n) (chosen test after) (round_named p n) (chosen_named test after ∙ round_named p (suc n)) o (λ j c.
    let below = g j (need_edge p k j o at c) in
    steady p n j below ∙ sym (kept test after j (pass j (n, below)))) in
    get_mapped (entry_by p (round p n)) p.objects k o at ∙ ap (λ (v : Verdict Known). Some (o.name.text, declared_in (fine v))) same

is_left : {A B : Type 0} → A ⊎ B → Bool
is_left (inl a) = true
is_left (inr b) = false

left : {A B : Type 0} (d : A ⊎ B) → (B → ⊥) → is_left d ≡ true
unfolding is_left
left (inl a) never = refl
left (inr b) never = absurd (never b)

right : {A B : Type 0} (d : A ⊎ B) → (A → ⊥) → is_left d ≡ false
unfolding is_left
right (inl a) never = absurd (never a)
right (inr b) never = refl

pub some_table : (p : PackageTable) → (known : Names) × IsTable p known
some_table p =
    let test : ℕ → Bool = λ k. is_left (decided (rows p) (rows_stay p) k) in
    let pass : (k : ℕ) → Grounded (rows p) k → test k ≡ true = λ k g. left (decided (rows p) (rows_stay p) k) (λ never. never g) in
    let deep = depth (rows p) (rows_stay p) (length (rows p)) in
    let last = round p deep.0 in (
      chosen test last,
      record {
        named = chosen_named test last ∙ round_named p deep.0;
        grounded = λ k o at g.
            let inside : k < length (rows p) = (let lt = slice_get_within p.objects k o at in omega (arith, lt, length_rows p)) in
            kept test last k (pass k g) ∙ settled p test pass deep.0 k o at (deep.1 k inside g);
        others = λ k o at never.
            let found = round_at p deep.0 k o at in
            dropped test last k o.name.text found.0 (right (decided (rows p) (rows_stay p) k) never) found.1;
      },
    )
