-- A package is one typed package: this doesn't tell apart marks, and its table is one.
use Rattle.std.proofs.Common.{◌≡◌, ℕ, suc, Bool, List, [], ◌∷◌, Option, Some, None, refl, sym, ap, ◌∙◌}
use Rattle.std.specs.List.{flat_map}
use Rattle.go_text.specs.declared.edition.Edition.{Edition}
use Rattle.go_ast.specs.Trees.{Name, ExpressionList, some_exprs, VarSpec, variables, TopLevel, declared, File}
use Rattle.go_typed.specs.Trees as typed
use Rattle.go_expr.specs.Known.{Names}
use Rattle.go_expr.specs.Rules.{fine}
use Rattle.go_expr.specs.Verdicts.{asked_both}
use Rattle.go_stmt.specs.Rules.{variables_source}
use Rattle.go_stmt.specs.Statements.{values_known}
use Rattle.go_objects.specs.Table.{PackageTable, scope_at}
use Rattle.go_objects.proofs.Filling.{one_table}
use Rattle.go_package.specs.Faults.{written_type}
use Rattle.go_package.specs.Imports.{Importable}
use Rattle.go_package.proofs.OneFault.{two, flat_same, by}
use Rattle.go_package.specs.Typed.{constants_in, types_in, variables_in, alone, each_alone, initializations_by, spec_initializations, top_initializations, top_uses, top_functions, with_numbers, of_files, package_name, typed_package, IsTypedIn}

same_each : (p : PackageTable) (n : Names) (r q : List Bool) (names : List (List ℕ)) (file : ℕ) (ns : List Name) (vs : ExpressionList) (es : typed.Exprs) → each_alone (by p n r) names file ns vs es ≡ each_alone (by p n q) names file ns vs es
same_each p n r q names file (m ∷ ns) (some_exprs v vs) (typed.some_exprs e es) = ap (λ l. alone (by p n r) names file m v e ∷ l) (same_each p n r q names file ns vs es)
same_each p n r q names file ns vs es = refl

same_source : (p : PackageTable) (n : Names) (r q : List Bool) (names : List (List ℕ)) (file : ℕ) (spec : VarSpec) (source : Option typed.ValueSource) →
    initializations_by (by p n r) names file spec source ≡ initializations_by (by p n q) names file spec source
same_source p n r q names file spec (Some (typed.each es)) = same_each p n r q names file spec.names spec.values es
same_source p n r q names file spec source = refl

same_spec : (p : PackageTable) (n : Names) (r q : List Bool) (names : List (List ℕ)) (file : ℕ) (spec : VarSpec) → spec_initializations (by p n r) names file spec ≡ spec_initializations (by p n q) names file spec
same_spec p n r q names file spec =
    let s = scope_at p n file None in
    same_source p n r q names file spec (fine (asked_both (variables_source spec.names) (written_type s spec.type) (values_known s spec.values)))

same_top : (p : PackageTable) (n : Names) (r q : List Bool) (names : List (List ℕ)) (file : ℕ) (top : TopLevel) → top_initializations (by p n r) names file top ≡ top_initializations (by p n q) names file top
same_top p n r q names file (declared (variables at ss)) = flat_same (spec_initializations (by p n r) names file) (spec_initializations (by p n q) names file) (same_spec p n r q names file) ss
same_top p n r q names file top = refl

files_same : {A : Type 0} (f g : ℕ → TopLevel → List A) → ((k : ℕ) (x : TopLevel) → f k x ≡ g k x) → (k : ℕ) (xs : List File) → of_files f k xs ≡ of_files g k xs
files_same f g h k [] = refl
files_same f g h k (x ∷ xs) =
    two (flat_map (f k) x.declarations) (flat_map (g k) x.declarations) (of_files f (suc k) xs) (of_files g (suc k) xs)
    (flat_same (f k) (g k) (h k) x.declarations) (files_same f g h (suc k) xs)

abbrev made : Edition → PackageTable → Names → List (List ℕ) → List File → List typed.Initialization → List (List ℕ × List (List ℕ)) → List typed.Function → typed.Package
made edition p n names files is us fs = record {
  path = p.path;
  name = package_name files;
  edition = edition;
  constants = constants_in n;
  types = types_in n;
  variables = variables_in names n p.objects;
  initializations = is;
  uses = us;
  functions = with_numbers 1 fs;
}

same_typed : (edition : Edition) (p : PackageTable) (n : Names) (r q : List Bool) (names : List (List ℕ)) (files : List File) → typed_package edition (by p n r) names files ≡ typed_package edition (by p n q) names files
same_typed edition p n r q names files =
    ap (λ is. made edition p n names files is (of_files (top_uses (by p n r)) 0 files) (of_files (top_functions (by p n r)) 0 files)) (files_same (top_initializations (by p n r) names) (top_initializations (by p n q) names) (same_top p n r q names) 0 files)
    ∙ ap (λ us. made edition p n names files (of_files (top_initializations (by p n q) names) 0 files) us (of_files (top_functions (by p n r)) 0 files)) (files_same (top_uses (by p n r)) (top_uses (by p n q)) (λ k x. refl) 0 files)
    ∙ ap (made edition p n names files (of_files (top_initializations (by p n q) names) 0 files) (of_files (top_uses (by p n q)) 0 files)) (files_same (top_functions (by p n r)) (top_functions (by p n q)) (λ k x. refl) 0 files)

pub one_typed : (p : PackageTable) (files : List File) (ps : List Importable) (edition : Edition) (names : List (List ℕ)) (a b : typed.Package) → IsTypedIn edition p files ps names a → IsTypedIn edition p files ps names b → a ≡ b
one_typed p files ps edition names a b x y =
    let t = x.facts in
    let u = y.facts in
    x.is
    ∙ ap (λ z. typed_package edition (by z t.known t.recursive) names files) x.are.package_is
    ∙ ap (λ z. typed_package edition (by p z t.recursive) names files) (one_table p t.known u.known x.are.known y.are.known)
    ∙ same_typed edition p u.known t.recursive u.recursive names files
    ∙ ap (λ z. typed_package edition (by z u.known u.recursive) names files) (sym y.are.package_is)
    ∙ sym y.is
