-- Targets added import by import, file by file.
use Rattle.std.proofs.Common.{◌≡◌, ◌<◌, ◌+◌, ℕ, Bool, true, false, cond, List, [], ◌∷◌, ◌++◌, map, take, length, get_or, refl, sym, ap, ◌∙◌, subst, append_assoc, append-nil}
use Rattle.std.specs.List.{AllZip, filter}
use Rattle.std.proofs.lemmas.List.{take_more}
use Rattle.rayon.proofs.ListFacts.{AllZip-append}
use Rattle.go_ast.specs.Trees.{ImportSpec, File}
use Rattle.go_ast.specs.Views.{import_of}
use Rattle.go_ast.specs.declared.file.ImportSpec.{ImportSpec as CodeSpec}
use Rattle.go_ast.specs.Parse.{Parsed, Derived, IsParse}
use Rattle.ws_graph.specs.BuildPlan.{Import, names_directory, directory_imports, AreDirectoryImports}
use Rattle.ws_graph.specs.Discovery.{IsTarget, AddsTargets, HaveTargets}
use Rattle.ws_graph.specs.declared.target.Target.{Target}

by_test : (name : List ℕ) (b : Bool) (x : ImportSpec) (xs ys : List ImportSpec) → directory_imports name (xs ++ ys) ≡ directory_imports name xs ++ directory_imports name ys
    → map (λ (spec : ImportSpec). let i : Import = record { file = name; spec = spec } in i) (cond b (x ∷ filter names_directory (xs ++ ys)) (filter names_directory (xs ++ ys)))
    ≡ map (λ (spec : ImportSpec). let i : Import = record { file = name; spec = spec } in i) (cond b (x ∷ filter names_directory xs) (filter names_directory xs)) ++ directory_imports name ys
by_test name true x xs ys e = ap (λ l. (let i : Import = record { file = name; spec = x } in i) ∷ l) e
by_test name false x xs ys e = e

pub imports_in-append : (name : List ℕ) (xs ys : List ImportSpec) → directory_imports name (xs ++ ys) ≡ directory_imports name xs ++ directory_imports name ys
imports_in-append name [] ys = refl
imports_in-append name (x ∷ xs) ys = by_test name (names_directory x) x xs ys (imports_in-append name xs ys)

pub adds_none : (all : List (List ℕ)) (old : List Target) → AddsTargets all [] old old
adds_none all old = ([], sym (append-nil old), tt)

pub adds_through : (all : List (List ℕ)) (is js : List Import) (old mid new : List Target) → AddsTargets all is old mid → AddsTargets all js mid new → AddsTargets all (is ++ js) old new
adds_through all is js old mid new (xs, e, z) (ys, f, w) = (xs ++ ys, f ∙ ap (λ l. l ++ ys) e ∙ append_assoc old xs ys, AllZip-append (IsTarget all) is js xs ys z w)

map-append_one : (xs : List CodeSpec) (x : CodeSpec) → map import_of (xs ++ x ∷ []) ≡ map import_of xs ++ import_of x ∷ []
map-append_one [] x = refl
map-append_one (y ∷ ys) x = ap (λ l. import_of y ∷ l) (map-append_one ys x)

-- one more import of a file
pub adds_next : (all : List (List ℕ)) (name : List ℕ) (specs : List CodeSpec) (i : ℕ) (spec : CodeSpec) (old mid new : List Target) → spec ≡ get_or specs i spec → i < length specs → AddsTargets all (directory_imports name (map import_of (take i specs))) old mid
    → AddsTargets all (directory_imports name (import_of spec ∷ [])) mid new → AddsTargets all (directory_imports name (map import_of (take (i + 1) specs))) old new
adds_next all name specs i spec old mid new is lt h more =
    let front = map import_of (take i specs) in
    let whole : directory_imports name (map import_of (take (i + 1) specs)) ≡ directory_imports name front ++ directory_imports name (import_of spec ∷ []) =
    ap (λ l. directory_imports name (map import_of l)) (take_more specs i spec lt ∙ ap (λ s. take i specs ++ s ∷ []) (sym is))
    ∙ ap (directory_imports name) (map-append_one (take i specs) spec) ∙ imports_in-append name front (import_of spec ∷ []) in
    subst (λ is. AddsTargets all is old new) (sym whole) (adds_through all (directory_imports name front) (directory_imports name (import_of spec ∷ [])) old mid new h more)

imports_more : (ps : List Parsed) (p : Parsed) (is : List Import) (file : File) → AreDirectoryImports ps is → IsParse p.edition p.text (Derived file) → AreDirectoryImports (ps ++ p ∷ []) (is ++ directory_imports p.name file.imports)
imports_more [] p is file are parse = (file, [], parse, refl, ap (λ l. l ++ directory_imports p.name file.imports) are ∙ sym (append-nil (directory_imports p.name file.imports)))
imports_more (q ∷ ps) p is file are parse =
    (are.0, are.1 ++ directory_imports p.name file.imports, are.2, imports_more ps p are.1 file are.3 parse, ap (λ l. l ++ directory_imports p.name file.imports) are.4 ∙ append_assoc (directory_imports q.name are.0.imports) are.1 (directory_imports p.name file.imports))

pub have_none : (all : List (List ℕ)) (targets : List Target) → targets ≡ [] → HaveTargets all [] targets
have_none all targets e = record { imports = []; are = refl; targets_are = subst (λ ts. AllZip (IsTarget all) [] ts) (sym e) tt }

-- one more file
pub have_next : (all : List (List ℕ)) (ps : List Parsed) (i : ℕ) (p : Parsed) (old new : List Target) → p ≡ get_or ps i p → i < length ps → HaveTargets all (take i ps) old
    → ((file : File) × IsParse p.edition p.text (Derived file) × AddsTargets all (directory_imports p.name file.imports) old new) → HaveTargets all (take (i + 1) ps) new
have_next all ps i p old new is lt h (file, parse, (more, e, z)) =
    let whole : take (i + 1) ps ≡ take i ps ++ p ∷ [] = take_more ps i p lt ∙ ap (λ s. take i ps ++ s ∷ []) (sym is) in
    record {
      imports = h.imports ++ directory_imports p.name file.imports;
      are = subst (λ l. AreDirectoryImports l (h.imports ++ directory_imports p.name file.imports)) (sym whole) (imports_more (take i ps) p h.imports file h.are parse);
      targets_are = subst (λ ts. AllZip (IsTarget all) (h.imports ++ directory_imports p.name file.imports) ts) (sym e) (AllZip-append (IsTarget all) h.imports (directory_imports p.name file.imports) old more h.targets_are z);
    }
