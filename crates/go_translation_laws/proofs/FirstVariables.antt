-- Package variables at a program's start: the machine knows their zero cells, which lie where linked code looks for them.
use Rattle.std.proofs.Common.{◌≡◌, ℕ, zero, suc, ◌+◌, true, ◌&&◌, List, [], ◌∷◌, ◌++◌, length, map, replicate, refl, sym, ap, ◌∙◌}
use Rattle.std.specs.Prelude.{if◌then◌else◌}
use Rattle.std.specs.Bool.{one_answer}
use Rattle.std.specs.List.{flat_map, list_all}
use Rattle.std.specs.Str.{bytes_eq}
use Rattle.std.proofs.lemmas.List.{map-append}
use Rattle.std.proofs.lemmas.List.Concat.{flat_map-append}
use Rattle.std.proofs.lemmas.List.Folds.{list_all-append}
use Rattle.std.proofs.lemmas.Slice.Eq.{bytes_eq-Decides}
use Rattle.go_types.specs.Types.{Type', basic, array, slice, struct, named, Fields, no_fields, field}
use Rattle.go_types.specs.Sizes.{cells}
use Rattle.go_code.specs.declared.cell.Cell.{Cell}
use Rattle.go_code.specs.Lines.{cell_fits}
use Rattle.go_code.specs.Packages.{PackageVariable}
use Rattle.go_link.specs.Links.{LinkedVariable, object_symbol as code_symbol, variables, first_cell_of}
use Rattle.go_typed.specs.Trees.{Symbol, Variable, Package}
use Rattle.go_meaning.specs.Values.{Value, pack_values, flat, flat_all, zero_of, zeros_of}
use Rattle.go_symbol.specs.Symbols.{same_symbol}
use Rattle.go_meaning.specs.Meaning.{Stored}
use Rattle.go_meaning.specs.Programs.{package_symbol, first_variables}
use Rattle.go_gen.specs.Translation.{symbol_code, translated_variable, object_of}
use Rattle.go_translation_laws.proofs.Runs.{Sized, held, global_at}
use Rattle.go_translation_laws.proofs.Zeros.{zero_fits, zero_long}

-- a package's variable, at its zero value
abbrev pub stored_first : Package → Variable → Stored
stored_first typed v = record { symbol = package_symbol typed v.name; of = v.of; value = zero_of v.of }

-- ---- the machine knows their cells

both_fit : (xs ys : List Cell) → list_all cell_fits xs ≡ true → list_all cell_fits ys ≡ true → list_all cell_fits (xs ++ ys) ≡ true
both_fit xs ys a b = list_all-append cell_fits xs ys ∙ ap (λ c. c && list_all cell_fits ys) a ∙ b

copies_fit : (n : ℕ) (v : Value) → list_all cell_fits (flat v) ≡ true → list_all cell_fits (flat_all (pack_values (replicate n v))) ≡ true
copies_fit zero v e = refl
copies_fit (suc n) v e = both_fit (flat v) (flat_all (pack_values (replicate n v))) e (copies_fit n v e)

mutual
  zero_known : (t : Type') → list_all cell_fits (flat (zero_of t)) ≡ true
  zero_known (basic b) = ap (λ c. c && true) (zero_fits b)
  zero_known (array n t) = copies_fit n (zero_of t) (zero_known t)
  zero_known (slice t) = refl
  zero_known (struct fs) = zeros_known fs
  zero_known (named path name t) = zero_known t

  zeros_known : (fs : Fields) → list_all cell_fits (flat_all (zeros_of fs)) ≡ true
  zeros_known no_fields = refl
  zeros_known (field p x t fs) = both_fit (flat (zero_of t)) (flat_all (zeros_of fs)) (zero_known t) (zeros_known fs)

held_known : (typed : Package) (vs : List Variable) → list_all cell_fits (held (map (stored_first typed) vs)) ≡ true
held_known typed [] = refl
held_known typed (v ∷ vs) = both_fit (flat (zero_of v.of)) (held (map (stored_first typed) vs)) (zero_known v.of) (held_known typed vs)

-- the variables' cells lie side by side
pub held_behind : (xs ys : List Stored) → held (xs ++ ys) ≡ held xs ++ held ys
held_behind xs ys = flat_map-append (λ stored. flat stored.value) xs ys

pub variables_known : (packages : List Package) → list_all cell_fits (held (flat_map first_variables packages)) ≡ true
variables_known [] = refl
variables_known (p ∷ packages) =
    ap (list_all cell_fits) (held_behind (first_variables p) (flat_map first_variables packages))
    ∙ both_fit (held (first_variables p)) (held (flat_map first_variables packages)) (held_known p p.variables) (variables_known packages)

-- ---- where they lie

sized_each : (typed : Package) (vs : List Variable) → Sized (map (stored_first typed) vs)
sized_each typed [] = tt
sized_each typed (v ∷ vs) = (zero_long v.of, sized_each typed vs)

both_sized : (xs ys : List Stored) → Sized xs → Sized ys → Sized (xs ++ ys)
both_sized [] ys a b = b
both_sized (x ∷ xs) ys a b = (a.0, both_sized xs ys a.1 b)

pub variables_sized : (packages : List Package) → Sized (flat_map first_variables packages)
variables_sized [] = tt
variables_sized (p ∷ packages) = both_sized (first_variables p) (flat_map first_variables packages) (sized_each p p.variables) (variables_sized packages)

-- what the linker knows of a variable
abbrev pub placed : Stored → LinkedVariable
placed x = (symbol_code x.symbol, length (flat x.value))

variables_each : (typed : Package) (vs : List Variable) → map (λ (v : PackageVariable). (code_symbol (object_of typed) v.name, length v.zero)) (map translated_variable vs) ≡ map placed (map (stored_first typed) vs)
variables_each typed [] = refl
variables_each typed (v ∷ vs) = ap (λ l. placed (stored_first typed v) ∷ l) (variables_each typed vs)

-- the linker's variables are those of the packages
pub variables_linked : (packages : List Package) → variables (map object_of packages) ≡ map placed (flat_map first_variables packages)
variables_linked [] = refl
variables_linked (p ∷ packages) =
    ap (λ l. l ++ variables (map object_of packages)) (variables_each p p.variables)
    ∙ ap (λ l. map placed (first_variables p) ++ l) (variables_linked packages)
    ∙ sym (map-append placed (first_variables p) (flat_map first_variables packages))

lie_where : (xs : List Stored) (s : Symbol) → Sized xs → first_cell_of (map placed xs) (symbol_code s) ≡ global_at xs s
lie_where [] s sized = refl
lie_where (x ∷ xs) s sized =
    ap (λ n. if same_symbol s x.symbol then 0 else n + first_cell_of (map placed xs) (symbol_code s)) sized.0
    ∙ ap (λ n. if same_symbol s x.symbol then 0 else cells x.of + n) (lie_where xs s sized.1)

-- the linker knows where they lie
pub variables_lie : (packages : List Package) (s : Symbol) → first_cell_of (variables (map object_of packages)) (symbol_code s) ≡ global_at (flat_map first_variables packages) s
variables_lie packages s = ap (λ l. first_cell_of l (symbol_code s)) (variables_linked packages) ∙ lie_where (flat_map first_variables packages) s (variables_sized packages)

-- ---- texts

pub text_other : (s t : List ℕ) → bytes_eq s t ≡ bytes_eq t s
text_other s t = one_answer (bytes_eq s t) (bytes_eq t s) (bytes_eq-Decides s t) (λ e. sym ((bytes_eq-Decides t s).0 e), λ e. (bytes_eq-Decides t s).1 (sym e))
