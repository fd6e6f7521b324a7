-- A scope outside of functions is sound where what its names stand for is.
use Rattle.std.proofs.Common.{◌≡◌, ℕ, suc, true, false, Bool, List, [], ◌∷◌, ◌++◌, Option, Some, None, map, pos, refl, subst, inl, inr}
use Rattle.std.specs.Prelude.{bytes_eq}
use Rattle.std.specs.List.{slice_get, list_all}
use Rattle.std.proofs.lemmas.Bool.{cases_Bool, and_parts}
use Rattle.go_text.specs.declared.edition.Edition.{Edition}
use Rattle.go_text.specs.declared.edition.Edition.TheVariants.{One, Two}
use Rattle.go_text.specs.declared.fault.FaultKind.TheVariants.{LeftOut}
use Rattle.go_const.specs.declared.constant.Const.TheVariants.{Integer, Bool as Truth}
use Rattle.go_types.specs.declared.types.Basic.{Basic}
use Rattle.go_types.specs.declared.types.Untyped.TheVariants as kinds
use Rattle.go_types.specs.Types.{basic}
use Rattle.go_expr.specs.Known.{Declared, type', Names, Known, declared, package', Verdict, Fine, Breaks, Passed, look_up_known, named, basic_types, left_out, slice_functions, others, truth, universe}
use Rattle.go_expr.specs.Views.{iota_of}
use Rattle.go_objects.specs.Table.{PackageTable, imports_at, scope_at}
use Rattle.go_meaning_laws.specs.WellTyped.{Setting, is_typed}
use Rattle.go_package_laws.proofs.Soundness.{Table, IsSoundDeclared, AreSoundNames}
use Rattle.go_package_laws.proofs.SoundNames.{IsSoundKnown, IsSoundScope}

abbrev Entries : Type 0
Entries = List (List ℕ × Verdict Known)

module _ (w : Table) (g : Setting) (d : List ℕ) where
  abbrev IsSoundVerdict : Verdict Known → Type 0
  IsSoundVerdict (Fine k) = IsSoundKnown w g d k
  IsSoundVerdict v = Unit {0}

  abbrev AllSound : Entries → Type 0
  AllSound [] = Unit {0}
  AllSound (n ∷ ns) = IsSoundVerdict n.1 × AllSound ns

  more : (ns ms : Entries) → AllSound ns → AllSound ms → AllSound (ns ++ ms)
  more [] ms h k = k
  more (n ∷ ns) ms h k = (h.0, more ns ms h.1 k)

  found : (ns : Entries) → AllSound ns → (x : List ℕ) → IsSoundVerdict (look_up_known x ns)
  found [] h x = tt
  found ((y, v) ∷ ns) h x = elim (cases_Bool (bytes_eq x y)) [ inl is ↦ rw is h.0 | inr not_so ↦ rw not_so (found ns h.1 x) ]

  types_sound : (ts : List (List ℕ × Basic)) → list_all (λ (t : List ℕ × Basic). is_typed t.1) ts ≡ true → AllSound (map (λ t. (t.0, Fine (declared (type' (basic t.1))))) ts)
  types_sound [] h = tt
  types_sound (t ∷ ts) h =
      let both = and_parts (is_typed t.1) (list_all (λ (t : List ℕ × Basic). is_typed t.1) ts) h in
      (both.0, types_sound ts both.1)

  others_sound : (xs : List (List ℕ)) → AllSound (map (λ x. (x, Breaks LeftOut)) xs)
  others_sound [] = tt
  others_sound (x ∷ xs) = (tt, others_sound xs)

  truth_sound : (b : Bool) → IsSoundVerdict (truth b)
  truth_sound b = inl (kinds.Bool, Truth b, refl, refl)

  slices_sound : (e : Edition) → AllSound (slice_functions e)
  slices_sound One = (tt, (tt, (tt, tt)))
  slices_sound Two = (tt, (tt, (tt, tt)))

  universe_sound : (e : Edition) → AllSound (universe e)
  unfolding universe
  universe_sound e =
      let types : Entries = map (λ (t : List ℕ × Basic). (t.0, Fine (declared (type' (basic t.1))))) basic_types in
      let rest : Entries = map (λ (x : List ℕ). (x, Breaks LeftOut)) left_out in
      let front : Entries = types ++ rest in
      more (front ++ slice_functions e) others (more front (slice_functions e) (more types rest (types_sound basic_types refl) (others_sound left_out)) (slices_sound e)) (truth_sound true, (truth_sound false, (tt, (tt, tt))))

  iota_sound : (iota : Option ℕ) → AllSound (iota_of iota)
  iota_sound None = tt
  iota_sound (Some n) = (inl (kinds.Int, Integer (pos n), refl, refl), tt)

  abbrev pub AllImports : List (List ℕ × Names) → Type 0
  AllImports [] = Unit {0}
  AllImports (i ∷ is) = AreSoundNames w g d i.1 × AllImports is

  imports_sound : (is : List (List ℕ × Names)) → AllImports is → AllSound (map (λ i. (i.0, Fine (package' i.1))) is)
  imports_sound [] h = tt
  imports_sound (i ∷ is) h = (h.0, imports_sound is h.1)

  -- each entry of a table that has something
  abbrev pub TableSound : Names → Type 0
  TableSound known = (k : ℕ) (x : List ℕ) (e : Declared) → slice_get known k ≡ Some (x, Some e) → IsSoundDeclared w g d e

  names_sound : (ns : Names) → TableSound ns → AllSound (map (λ n. (n.0, named n.1)) ns)
  names_sound [] h = tt
  names_sound ((x, None) ∷ ns) h = (tt, names_sound ns (λ k y e at. h (suc k) y e at))
  names_sound ((x, Some e) ∷ ns) h = (h 0 x e refl, names_sound ns (λ k y e at. h (suc k) y e at))

  told : (v : Verdict Known) (k : Known) → v ≡ Fine k → IsSoundVerdict v → IsSoundKnown w g d k
  told (Fine j) k e h = (let same : j ≡ k = cc in subst (IsSoundKnown w g d) same h)
  told (Breaks kind) k e h = absurd cc
  told Passed k e h = absurd cc

  pub scope_sound : (p : PackageTable) (known : Names) (file : ℕ) (iota : Option ℕ) → w.plain p.path ≡ true → AllImports (imports_at p file) → TableSound known → IsSoundScope w g d (scope_at p known file iota)
  scope_sound p known file iota plain imported h = (
    plain,
    λ x k is.
        let imports : Entries = map (λ (i : List ℕ × Names). (i.0, Fine (package' i.1))) (imports_at p file) in
        let names : Entries = map (λ n. (n.0, named n.1)) known in
        let outer : Entries = iota_of iota ++ universe p.edition in
        let rest = more (iota_of iota) (universe p.edition) (iota_sound iota) (universe_sound p.edition) in
        told _ k is (found (imports ++ (names ++ outer)) (more imports (names ++ outer) (imports_sound (imports_at p file) imported) (more names outer (names_sound known h) rest)) x),
  )
