-- Where all objects of a package are known, its functions are.
use Rattle.std.proofs.Common.{◌≡◌, ℕ, List, [], ◌∷◌, ◌++◌, Option, Some, None, map, inl, inr}
use Rattle.std.specs.Prelude.{bytes_eq}
use Rattle.std.proofs.lemmas.Bool.{cases_Bool}
use Rattle.go_text.specs.declared.edition.Edition.{Edition}
use Rattle.go_text.specs.declared.edition.Edition.TheVariants.{One, Two}
use Rattle.go_text.specs.declared.fault.FaultKind.TheVariants.{LeftOut}
use Rattle.go_ast.specs.Trees.{FunctionDecl}
use Rattle.go_types.specs.declared.types.Basic.{Basic}
use Rattle.go_types.specs.Types.{basic}
use Rattle.go_expr.specs.Known.{Names, type', Known, declared, package', Verdict, Fine, Breaks, look_up_known, named, basic_types, left_out, slice_functions, others, universe}
use Rattle.go_expr.specs.Views.{iota_of}
use Rattle.go_objects.specs.Table.{imports_at, scope_at}
use Rattle.go_stmt.specs.Functions.{function_at}
use Rattle.go_package.specs.Faults.{Facts, own_faults, context_at, function_faults}
use Rattle.go_package_laws.specs.Finds.{IsKnown, IsDetermined, AllImportsAreKnown, AreKnown}
use Rattle.go_package_laws.specs.Locals.{IsLocalBlock}
use Rattle.go_package_laws.proofs.Completeness.Faultless.{two_none}
use Rattle.go_package_laws.proofs.Completeness.Functions.{function_known}

abbrev pub Entries : Type 0
Entries = List (List ℕ × Verdict Known)

abbrev pub AllTold : Entries → Type 0
AllTold [] = Unit {0}
AllTold (n ∷ ns) = IsDetermined n.1 × AllTold ns

pub more : (ns ms : Entries) → AllTold ns → AllTold ms → AllTold (ns ++ ms)
more [] ms h k = k
more (n ∷ ns) ms h k = (h.0, more ns ms h.1 k)

pub found : (ns : Entries) → AllTold ns → (x : List ℕ) → IsDetermined (look_up_known x ns)
found [] h x = tt
found ((y, v) ∷ ns) h x = elim (cases_Bool (bytes_eq x y)) [ inl is ↦ rw is h.0 | inr not_so ↦ rw not_so (found ns h.1 x) ]

types_told : (ts : List (List ℕ × Basic)) → AllTold (map (λ t. (t.0, Fine (declared (type' (basic t.1))))) ts)
types_told [] = tt
types_told (t ∷ ts) = (tt, types_told ts)

others_told : (xs : List (List ℕ)) → AllTold (map (λ x. (x, Breaks LeftOut)) xs)
others_told [] = tt
others_told (x ∷ xs) = (tt, others_told xs)

slices_told : (e : Edition) → AllTold (slice_functions e ++ others)
slices_told One = (tt, (tt, (tt, (tt, (tt, (tt, (tt, tt)))))))
slices_told Two = (tt, (tt, (tt, (tt, (tt, (tt, (tt, tt)))))))

pub universe_told : (e : Edition) → AllTold (universe e)
unfolding universe
universe_told e =
    let types : Entries = map (λ (t : List ℕ × Basic). (t.0, Fine (declared (type' (basic t.1))))) basic_types in
    let rest : Entries = map (λ (x : List ℕ). (x, Breaks LeftOut)) left_out in
    more (types ++ rest) (slice_functions e ++ others) (more types rest (types_told basic_types) (others_told left_out)) (slices_told e)

pub iota_told : (iota : Option ℕ) → AllTold (iota_of iota)
iota_told None = tt
iota_told (Some n) = (tt, tt)

imports_told : (is : List (List ℕ × Names)) → AllImportsAreKnown is → AllTold (map (λ i. (i.0, Fine (package' i.1))) is)
imports_told [] h = tt
imports_told (i ∷ is) h = (h.0, imports_told is h.1)

names_told : (ns : Names) → AreKnown ns → AllTold (map (λ n. (n.0, named n.1)) ns)
names_told [] h = tt
names_told ((x, None) ∷ ns) h = absurd (let k = h.0 in cc)
names_told ((x, Some d) ∷ ns) h = (tt, names_told ns h.1)

pub outside_told : (t : Facts) (file : ℕ) → AllImportsAreKnown (imports_at t.package file) → AreKnown t.known → (iota : Option ℕ) (x : List ℕ) → IsDetermined (look_up_known x (scope_at t.package t.known file iota).names)
outside_told t file whole known iota x =
    let imports = map (λ (i : List ℕ × Names). (i.0, Fine (package' i.1))) (imports_at t.package file) in
    let names = map (λ n. (n.0, named n.1)) t.known in
    let predeclared = universe t.package.edition in
    let rest = more (iota_of iota) predeclared (iota_told iota) (universe_told t.package.edition) in
    found (imports ++ (names ++ (iota_of iota ++ predeclared))) (more imports (names ++ (iota_of iota ++ predeclared)) (imports_told (imports_at t.package file) whole) (more names (iota_of iota ++ predeclared) (names_told t.known known) rest)) x

pub functions_known : (t : Facts) (file : ℕ) (f : FunctionDecl) → AllImportsAreKnown (imports_at t.package file) → AreKnown t.known → IsLocalBlock f.body → function_faults t file f ≡ [] → IsKnown (function_at (context_at t file) f).known
functions_known t file f whole known l none =
    function_known (context_at t file) f (outside_told t file whole known) l (two_none (own_faults t file f.name) (function_at (context_at t file) f).faults none).1
