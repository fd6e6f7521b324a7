-- The packages that may be imported, one after another.
use Rattle.std.proofs.Common.{◌≡◌, ℕ, ◌+◌, ◌<◌, List, [], ◌∷◌, ◌++◌, Some, map, length, take, get_or, option_map, refl, sym, ap, ◌∙◌}
use Rattle.std.specs.Arc.{arc_value}
use Rattle.std.specs.List.{slice_get}
use Rattle.std.specs.declared.sync.Arc.{Arc}
use Rattle.std.proofs.lemmas.List.{take_more, map-append}
use Rattle.std.proofs.lemmas.Option.{slice_get-map, slice_get_read}
use Rattle.std.proofs.lemmas.Simd.{map-map}
use Rattle.go_expr.specs.Known.{Names}
use Rattle.go_expr.specs.Views.{names_of}
use Rattle.go_export.specs.Summaries.{Summary}
use Rattle.go_check.specs.Names.{importable_by, summary_names}
use Rattle.go_package.specs.Imports as imports
use Rattle.go_package.specs.Views.{importable_view, importables_of}
use Rattle.go_package.specs.declared.import.Importable.{Importable}
use Rattle.go_check.specs.Checked.{fmt}

some_same : {A : Type 0} (x y : A) → Some x ≡ Some y → x ≡ y
some_same x y e = cc

-- elements at one number of lists whose values are the same
alike : {A B C : Type 0} (f : A → C) (g : B → C) (xs : List A) (ys : List B) → map f xs ≡ map g ys → (k : ℕ) (x : A) (y : B) → k < length xs → k < length ys → x ≡ get_or xs k x → y ≡ get_or ys k y → f x ≡ g y
alike f g xs ys e k x y inside within is at =
    let left : slice_get (map f xs) k ≡ Some (f x) = slice_get-map f xs k ∙ ap (option_map f) (slice_get_read xs (length xs) k x refl inside is) in
    let right : slice_get (map g ys) k ≡ Some (g y) = slice_get-map g ys k ∙ ap (option_map g) (slice_get_read ys (length ys) k y refl within at) in
    some_same (f x) (g y) (sym left ∙ ap (λ l. slice_get l k) e ∙ right)

-- the names that a summary shows
pub named_at : {Z E : Type 0} (named : E → Names) (summaries : List (Arc Summary Z)) (exports : List E) → map named exports ≡ map summary_names (map arc_value summaries) →
    (k : ℕ) (e : E) (s : Arc Summary Z) → k < length exports → k < length summaries → e ≡ get_or exports k e → s ≡ get_or summaries k s → named e ≡ summary_names (arc_value s)
named_at named summaries exports same k e s inside within at is =
    alike named (λ t. summary_names (arc_value t)) exports summaries (same ∙ map-map summary_names arc_value summaries) k e s inside within at is

abbrev by : List ℕ → List ℕ → Names → imports.Importable
by path name exports = record { path = path; name = name; exports = exports }

-- the package of a summary
pub seen : (x : Importable) (s : Summary) → x.path.now ≡ s.path → x.name.now ≡ s.«package» → names_of x.exports.now ≡ summary_names s → importable_view x ≡ importable_by s
seen x s path name exports =
    ap (λ p. by p x.name.now (names_of x.exports.now)) path ∙ ap (λ n. by s.path n (names_of x.exports.now)) name ∙ ap (by s.path s.«package») exports

-- one package more
pub pushed : (done all : List Importable) (x : Importable) (shown : imports.Importable) (so_far next : List imports.Importable) →
    all ≡ done ++ x ∷ [] → importable_view x ≡ shown → importables_of done ≡ so_far → so_far ++ shown ∷ [] ≡ next → importables_of all ≡ next
pushed done all x shown so_far next grown is before then =
    ap importables_of grown ∙ map-append importable_view done (x ∷ []) ∙ ap (λ i. map importable_view done ++ i ∷ []) is ∙ ap (λ l. l ++ shown ∷ []) before ∙ then

-- and one summary
pub next_of : {Z : Type 0} (summaries : List (Arc Summary Z)) (k : ℕ) (s : Arc Summary Z) → k < length summaries → s ≡ get_or summaries k s →
    (fmt ∷ map importable_by (map arc_value (take k summaries))) ++ importable_by (arc_value s) ∷ [] ≡ fmt ∷ map importable_by (map arc_value (take (k + 1) summaries))
next_of summaries k s within is =
    sym (
    ap (λ l. fmt ∷ map importable_by (map arc_value l)) (take_more summaries k s within ∙ ap (λ t. take k summaries ++ t ∷ []) (sym is))
    ∙ ap (λ l. fmt ∷ map importable_by l) (map-append arc_value (take k summaries) (s ∷ []))
    ∙ ap (λ l. fmt ∷ l) (map-append importable_by (map arc_value (take k summaries)) (arc_value s ∷ [])))
