-- What is kept of each id, once one changes.
use Rattle.std.proofs.Common.{◌≡◌, ℕ, Bool, true, false, List, [], ◌∷◌, ◌++◌, Option, refl, sym, ap, ◌∙◌, inl, inr, ◌⊎◌}
use Rattle.std.specs.Prelude.{if◌then◌else◌}
use Rattle.std.specs.Str.{bytes_eq}
use Rattle.std.specs.BTreeMap.{BTreeMap, Updates}
use Rattle.std.proofs.lemmas.Map.Text.{is_eq-slice_cmp}
use Rattle.std.proofs.lemmas.Slice.Eq.{bytes_eq-Decides}
use Rattle.ws_map.specs.Keyed.{bytes_cmp}
use Rattle.ws_board.specs.declared.index.Id.{Id}
use Rattle.ws_board.specs.Indexes.{id_in, jobs_of}

pub same_id_or : (id other : List ℕ) → (id ≡ other) ⊎ (id ≡ other → ⊥)
same_id_or id other = by_id (bytes_eq id other) refl
  where
    by_id : (b : Bool) → bytes_eq id other ≡ b → (id ≡ other) ⊎ (id ≡ other → ⊥)
    by_id true e = inl ((bytes_eq-Decides id other).0 e)
    by_id false e = inr (λ same. let c : true ≡ false = sym ((bytes_eq-Decides id other).1 same) ∙ e in cc)

pub of_id : {X : Type 0} (f : List ℕ → X) (id other : List ℕ) → (if bytes_eq id other then f id else f other) ≡ f other
of_id f id other = by_id (bytes_eq id other) refl
  where
    by_id : (b : Bool) → bytes_eq id other ≡ b → (if b then f id else f other) ≡ f other
    by_id true e = ap f ((bytes_eq-Decides id other).0 e)
    by_id false e = refl

pub at_id : {X : Type 0} (id other : List ℕ) (x y : X) → id ≡ other → (if bytes_eq id other then x else y) ≡ x
at_id id other x y e = ap (λ b. if b then x else y) ((bytes_eq-Decides id other).1 e)

pub off_id : {X : Type 0} (id other : List ℕ) (x y : X) → (id ≡ other → ⊥) → (if bytes_eq id other then x else y) ≡ y
off_id id other x y ne = ap (λ b. if b then x else y) (not (bytes_eq id other) refl)
  where
    not : (b : Bool) → bytes_eq id other ≡ b → b ≡ false
    not true e = absurd (ne ((bytes_eq-Decides id other).0 e))
    not false e = refl

module _ (m n : BTreeMap (List ℕ) Id) (id : List ℕ) (w : Option Id) (updates : Updates bytes_cmp m n id w) where
  pub id_after : (other : List ℕ) → id_in n.entries other ≡ (if bytes_eq id other then w else id_in m.entries other)
  id_after other = updates.0 other ∙ ap (λ b. if b then w else id_in m.entries other) (is_eq-slice_cmp id other)

  -- what is read of the one id
  pub reads_so : {X : Type 0} (f : Option Id → X) (x : X) → f w ≡ x → (other : List ℕ) → f (id_in n.entries other) ≡ (if bytes_eq id other then x else f (id_in m.entries other))
  reads_so f x is other = ap f (id_after other) ∙ by_test (bytes_eq id other)
    where
      by_test : (b : Bool) → f (if b then w else id_in m.entries other) ≡ (if b then x else f (id_in m.entries other))
      by_test true = is
      by_test false = refl

  -- what is read of it stays
  pub reads_still : {X : Type 0} (f : Option Id → X) → f w ≡ f (id_in m.entries id) → (other : List ℕ) → f (id_in n.entries other) ≡ f (id_in m.entries other)
  reads_still f is other = reads_so f (f (id_in m.entries id)) is other ∙ of_id (λ i. f (id_in m.entries i)) id other

  -- it has one job less
  pub jobs_less : (job : ℕ) → jobs_of (id_in m.entries id) ≡ jobs_of w ++ job ∷ [] → (other : List ℕ)
      → jobs_of (id_in m.entries other) ≡ (if bytes_eq id other then (jobs_of (id_in n.entries id) ++ job ∷ []) else jobs_of (id_in n.entries other))
  jobs_less job is other = by_id (same_id_or id other)
    where
      by_id : (id ≡ other) ⊎ (id ≡ other → ⊥) → jobs_of (id_in m.entries other) ≡ (if bytes_eq id other then (jobs_of (id_in n.entries id) ++ job ∷ []) else jobs_of (id_in n.entries other))
      by_id (inl e) =
          ap (λ i. jobs_of (id_in m.entries i)) (sym e) ∙ is ∙ ap (λ o. jobs_of o ++ job ∷ []) (sym updates.1)
          ∙ sym (at_id id other (jobs_of (id_in n.entries id) ++ job ∷ []) (jobs_of (id_in n.entries other)) e)
      by_id (inr ne) =
          ap jobs_of (sym (id_after other ∙ off_id id other w (id_in m.entries other) ne))
          ∙ sym (off_id id other (jobs_of (id_in n.entries id) ++ job ∷ []) (jobs_of (id_in n.entries other)) ne)
