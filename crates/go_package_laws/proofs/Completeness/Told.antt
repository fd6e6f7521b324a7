-- What the names of an object find, where each object that it needs is known.
use Rattle.std.proofs.Common.{◌≡◌, ℕ, suc, true, false, List, [], ◌∷◌, ◌++◌, Option, Some, None, map, refl, sym, ap, ◌∙◌, subst, inl, inr}
use Rattle.std.specs.Prelude.{bytes_eq}
use Rattle.std.specs.List.{slice_get, Contains}
use Rattle.std.proofs.lemmas.Bool.{cases_Bool}
use Rattle.ws_reach.proofs.Reached.{contains_get, get_contains}
use Rattle.go_scope.specs.Names.{Used}
use Rattle.go_expr.specs.Known.{Declared, Names, package', Fine, look_up_known, named, universe}
use Rattle.go_expr.specs.Views.{iota_of}
use Rattle.go_objects.specs.Objects.{DeclaredObject}
use Rattle.go_objects.specs.Table.{PackageTable, number_of, imports_at, is_hidden, scope_at}
use Rattle.go_objects.proofs.Lookups.{Named}
use Rattle.go_objects.proofs.Needs.{needed_of, hidden_need, no_need, one_need}
use Rattle.go_package_laws.specs.Finds.{IsDetermined, AllImportsAreKnown}
use Rattle.go_package_laws.proofs.Completeness.Faultless.{Tells}
use Rattle.go_package_laws.proofs.Completeness.Packages.{Entries, more, found, universe_told, iota_told}

-- something is known of the object of a number
abbrev pub KnownAt : Names → ℕ → Type 0
KnownAt known k = (x : List ℕ) × (d : Declared) × (slice_get known k ≡ Some (x, Some d))

behind_imports : (is : List (List ℕ × Names)) (x : List ℕ) (rest : Entries) → AllImportsAreKnown is → (is_hidden is x ≡ false → IsDetermined (look_up_known x rest)) → IsDetermined (look_up_known x (map (λ i. (i.0, Fine (package' i.1))) is ++ rest))
behind_imports [] x rest w h = h refl
behind_imports (i ∷ is) x rest w h = elim (cases_Bool (bytes_eq x i.0)) [
  | inl t ↦ rw t w.0
  | inr f ↦ rw f (behind_imports is x rest w.1 (λ shows. h (rw f shows)))
]

abbrev pub second_of : Option (List ℕ × Option Declared) → Option Declared
second_of o = elim o [ None ↦ None | Some e ↦ e.1 ]

entry_told : (y : List ℕ) (v : Option Declared) (ks : Names) → KnownAt ((y, v) ∷ ks) 0 → IsDetermined (named v)
entry_told y None ks (x, d, at) = absurd (let no : None ≡ Some d = ap (λ o. second_of o) at in cc (no))
entry_told y (Some d) ks k = tt

in_objects : (os : List DeclaredObject) (known : Names) (x : List ℕ) (rest : Entries) → Named os known → ((n : ℕ) → number_of os x ≡ Some n → KnownAt known n) → IsDetermined (look_up_known x rest)
    → IsDetermined (look_up_known x (map (λ n. (n.0, named n.1)) known ++ rest))
in_objects [] [] x rest e h k = k
in_objects [] (y ∷ ys) x rest e h k = absurd cc
in_objects (o ∷ os) [] x rest e h k = absurd cc
in_objects (o ∷ os) ((y, v) ∷ ks) x rest e h k =
    let key : y ≡ o.name.text = cc in
    let others : Named os ks = cc in
    elim (cases_Bool (bytes_eq x o.name.text)) [
      | inl t ↦ (
          let here : bytes_eq x y ≡ true = ap (bytes_eq x) key ∙ t in
          let one : KnownAt ((y, v) ∷ ks) 0 = h 0 (rw t refl) in
          rw here (entry_told y v ks one))
      | inr f ↦ (
          let here : bytes_eq x y ≡ false = ap (bytes_eq x) key ∙ f in
          rw here (in_objects os ks x rest others (λ n at. h (suc n) (rw (f, at) refl)) k))
    ]

told_name : (p : PackageTable) (known : Names) (file : ℕ) (iota : Option ℕ) → Named p.objects known → AllImportsAreKnown (imports_at p file) → (x : List ℕ)
    → (is_hidden (imports_at p file) x ≡ false → (n : ℕ) → number_of p.objects x ≡ Some n → KnownAt known n) → IsDetermined (look_up_known x (scope_at p known file iota).names)
told_name p known file iota same whole x h =
    let rest : Entries = iota_of iota ++ universe p.edition in
    behind_imports (imports_at p file) x (map (λ n. (n.0, named n.1)) known ++ rest) whole
    (λ shows. in_objects p.objects known x rest same (h shows) (found rest (more (iota_of iota) (universe p.edition) (iota_told iota) (universe_told p.edition)) x))

-- each of some numbers is that of a known object
abbrev AllAt : Names → List ℕ → Type 0
AllAt known ns = (n : ℕ) → Contains ns n → KnownAt known n

pub tells_needs : (p : PackageTable) (known : Names) (file : ℕ) (iota : Option ℕ) → Named p.objects known → AllImportsAreKnown (imports_at p file) → (us : List Used)
    → AllAt known (needed_of p.objects (imports_at p file) us) → Tells (scope_at p known file iota) us
tells_needs p known file iota same whole [] h = tt
tells_needs p known file iota same whole (u ∷ us) h =
    let os = p.objects in
    let imports = imports_at p file in
    elim (cases_Bool (is_hidden imports u.0)) [
      | inl hides ↦ (
        told_name p known file iota same whole u.0 (λ shows n at. absurd (let no : true ≡ false = sym hides ∙ shows in cc (no))),
        tells_needs p known file iota same whole us (subst (AllAt known) (hidden_need os imports u us hides) h),
      )
      | inr shows ↦ elim (number_of os u.0) as (λ r. number_of os u.0 ≡ r → Tells (scope_at p known file iota) (u ∷ us)) [
        | None ↦ λ none. (
          told_name p known file iota same whole u.0 (λ s n at. absurd (let no : None ≡ Some n = sym none ∙ at in cc (no))),
          tells_needs p known file iota same whole us (subst (AllAt known) (no_need os imports u us shows none) h),
        )
        | Some m ↦ λ some. (
            let rest = needed_of os imports us in
            let all : AllAt known (m ∷ rest) = subst (AllAt known) (one_need os imports u us m shows some) h in (
              told_name p known file iota same whole u.0 (λ s n at. (let number : Some m ≡ Some n = sym some ∙ at in let is : m ≡ n = cc (number) in subst (KnownAt known) is (all m (get_contains (m ∷ rest) 0 m refl)))),
              tells_needs p known file iota same whole us (λ n c. all n (get_contains (m ∷ rest) (suc c.0) n (contains_get rest n c))),
            ))
      ] refl
    ]
