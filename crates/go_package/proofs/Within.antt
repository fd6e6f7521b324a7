-- The first fault of a package stands in one of its files.
use Rattle.std.proofs.Common.{◌≡◌, ℕ, suc, ◌+◌, ◌<◌, Bool, true, false, List, [], ◌∷◌, ◌++◌, length, map, Option, Some, None, subst, arith}
use Rattle.std.specs.Prelude.{bytes_eq, codes, ◌&&◌, not, is_some, unwrap_or, option_map, if◌then◌else◌}
use Rattle.std.specs.List.{slice_get, flat_map}
use Rattle.go_text.specs.declared.edition.Edition.{Edition}
use Rattle.go_text.specs.declared.place.Place.{Place}
use Rattle.go_text.specs.declared.fault.FaultKind.{FaultKind}
use Rattle.go_text.specs.declared.fault.FaultKind.TheVariants.{Main}
use Rattle.go_ast.specs.Trees.{Name, TypeExpr, Expression, ExpressionList, no_exprs, some_exprs, ConstSpec, VarSpec, constants, variables, types, TopLevel, declared, function, File}
use Rattle.go_scope.specs.Specifications.{meant}
use Rattle.go_objects.specs.Objects.{DeclaredObject, constant, function', paired, begin_of, other_object, unpaired, constants_of, in_group, typed_object, valued_object, result_objects, uncounted, variables_of, type_object, objects_in, objects_from}
use Rattle.go_objects.specs.Table.{number_of}
use Rattle.go_package.specs.Faults.{Facts, Faults, object_faults}
use Rattle.go_package.specs.Imports.{Importable}
use Rattle.go_package.specs.Packages.{FileFaults, each_file, file_faults, numbered_faults, objects_faults, absent_main_faults, main_faults, reserved_names_faults, package_faults, IsFaultOf}

-- ---- lists of what stands in files of lower numbers

abbrev All : {A : Type 0} → (A → ℕ) → ℕ → List A → Type 0
All file n [] = Unit {0}
All file n (x ∷ xs) = (file x < n) × All file n xs

all_append : {A : Type 0} (file : A → ℕ) (n : ℕ) (xs ys : List A) → All file n xs → All file n ys → All file n (xs ++ ys)
all_append file n [] ys h k = k
all_append file n (x ∷ xs) ys h k = (h.0, all_append file n xs ys h.1 k)

all_mapped : {A B : Type 0} (file : B → ℕ) (n : ℕ) (f : A → B) → ((x : A) → file (f x) < n) → (xs : List A) → All file n (map f xs)
all_mapped file n f h [] = tt
all_mapped file n f h (x ∷ xs) = (h x, all_mapped file n f h xs)

all_flat : {A B : Type 0} (file : B → ℕ) (n : ℕ) (f : A → List B) → ((x : A) → All file n (f x)) → (xs : List A) → All file n (flat_map f xs)
all_flat file n f h [] = tt
all_flat file n f h (x ∷ xs) = all_append file n (f x) (flat_map f xs) (h x) (all_flat file n f h xs)

-- ---- objects

abbrev number : DeclaredObject → ℕ
number o = o.file

abbrev Objects : ℕ → List DeclaredObject → Type 0
Objects n os = All number n os

abbrev OnSome : ℕ → Option (List DeclaredObject) → Type 0
OnSome n None = Unit {0}
OnSome n (Some os) = Objects n os

or_else : (n : ℕ) (o : Option (List DeclaredObject)) (os : List DeclaredObject) → OnSome n o → Objects n os → Objects n (unwrap_or o os)
or_else n None os h k = k
or_else n (Some xs) os h k = h

one_more : (n : ℕ) (x : DeclaredObject) (o : Option (List DeclaredObject)) → x.file < n → OnSome n o → OnSome n (option_map (λ xs. x ∷ xs) o)
one_more n x None h k = tt
one_more n x (Some xs) h k = (h, k)

all_paired : (n : ℕ) (f : Name → Expression → DeclaredObject) → ((x : Name) (e : Expression) → (f x e).file < n) → (ns : List Name) (es : ExpressionList) → OnSome n (paired f ns es)
all_paired n f h [] no_exprs = tt
all_paired n f h [] (some_exprs e es) = tt
all_paired n f h (x ∷ ns) no_exprs = tt
all_paired n f h (x ∷ ns) (some_exprs e es) = one_more n (f x e) (paired f ns es) (h x e) (all_paired n f h ns es)

module _ (n k : ℕ) (lt : k < n) where
  all_unpaired : (t : Option TypeExpr) (es : ExpressionList) (ns : List Name) → Objects n (unpaired k t es ns)
  all_unpaired t es ns = all_mapped number n (other_object k ns t es) (λ x. lt) ns

  all_constants : (iota : ℕ) (s : ConstSpec) → Objects n (constants_of k iota s)
  all_constants iota s =
      or_else n _ (unpaired k s.type s.values s.names) (all_paired n (λ x e. record { file = k; begins = begin_of s.names x; name = x; form = constant s.type e iota }) (λ x e. lt) s.names s.values)
      (all_unpaired s.type s.values s.names)

  all_group : (iota : ℕ) (before : ConstSpec) (ss : List ConstSpec) → Objects n (in_group k iota before ss)
  all_group iota before [] = tt
  all_group iota before (s ∷ ss) =
      all_append number n (constants_of k iota (meant before s)) (in_group k (suc iota) (meant before s) ss) (all_constants iota (meant before s)) (all_group (suc iota) (meant before s) ss)

  all_results : (all : List Name) (at : ℕ) (e : Expression) (ns : List Name) → Objects n (result_objects k all at e ns)
  all_results all at e [] = tt
  all_results all at e (x ∷ ns) = (lt, all_results all (suc at) e ns)

  all_uncounted : (ns : List Name) (es : ExpressionList) → Objects n (uncounted k ns es)
  all_uncounted ns no_exprs = all_unpaired None no_exprs ns
  all_uncounted ns (some_exprs e no_exprs) = all_results ns 0 e ns
  all_uncounted ns (some_exprs e (some_exprs f es)) = all_unpaired None (some_exprs e (some_exprs f es)) ns

  all_variables : (s : VarSpec) → Objects n (variables_of k s)
  all_variables s = by_type s.type
    where
      by_type : (t : Option TypeExpr)
          → Objects n (elim t [ Some t ↦ map (typed_object k s.names t) s.names | None ↦ unwrap_or (paired (valued_object k s.names) s.names s.values) (uncounted k s.names s.values) ])
      by_type (Some t) = all_mapped number n (typed_object k s.names t) (λ x. lt) s.names
      by_type None = or_else n _ (uncounted k s.names s.values) (all_paired n (valued_object k s.names) (λ x e. lt) s.names s.values) (all_uncounted s.names s.values)

  all_in : (top : TopLevel) → Objects n (objects_in k top)
  all_in (declared (constants p ss)) = all_group 0 _ ss
  all_in (declared (variables p ss)) = all_flat number n (variables_of k) all_variables ss
  all_in (declared (types p ss)) = all_mapped number n (type_object k) (λ s. lt) ss
  all_in (function f) = by_name (bytes_eq f.name.text (codes "init")) (record { file = k; begins = f.name.place; name = f.name; form = function' f.parameters f.results }) lt
    where
      by_name : (b : Bool) (o : DeclaredObject) → o.file < n → Objects n (if b then [] else o ∷ [])
      by_name true o h = tt
      by_name false o h = (h, tt)

all_from : (n k : ℕ) (files : List File) → k + length files ≡ n → Objects n (objects_from k files)
all_from n k [] e = tt
all_from n k (f ∷ fs) e =
    all_append number n (flat_map (objects_in k) f.declarations) (objects_from (suc k) fs) (all_flat number n (objects_in k) (all_in n k (omega (arith, e))) f.declarations)
    (all_from n (suc k) fs (omega (arith, e)))

-- ---- faults

abbrev Found : ℕ → FileFaults → Type 0
Found n xs = All (λ (x : ℕ × (Place × FaultKind)). x.0) n xs

found_append : (n : ℕ) (xs ys : FileFaults) → Found n xs → Found n ys → Found n (xs ++ ys)
found_append n xs ys h k = all_append (λ (x : ℕ × (Place × FaultKind)). x.0) n xs ys h k

found_in : (n k : ℕ) → k < n → (xs : Faults) → Found n (map (λ x. (k, x)) xs)
found_in n k lt [] = tt
found_in n k lt (x ∷ xs) = (lt, found_in n k lt xs)

found_each : (n : ℕ) (faults : ℕ → File → Faults) (k : ℕ) (files : List File) → k + length files ≡ n → Found n (each_file faults k files)
found_each n faults k [] e = tt
found_each n faults k (f ∷ fs) e =
    found_append n (map (λ x. (k, x)) (faults k f)) (each_file faults (suc k) fs) (found_in n k (omega (arith, e)) (faults k f)) (found_each n faults (suc k) fs (omega (arith, e)))

found_constants : (n : ℕ) (t : Facts) (os : List DeclaredObject) → Objects n os → Found n (flat_map (numbered_faults t) os)
found_constants n t [] h = tt
found_constants n t (o ∷ os) h =
    found_append n (numbered_faults t o) (flat_map (numbered_faults t) os) (found_in n o.file h.0 (object_faults t o)) (found_constants n t os h.1)

found_absent : (n : ℕ) (t : Facts) (clause : Name) → 0 < n → Found n (absent_main_faults t clause)
found_absent n t clause lt = by_main (bytes_eq clause.text (codes "main") && not (is_some (number_of t.package.objects (codes "main"))))
  where
    by_main : (b : Bool) → Found n (if b then (0, (clause.place, Main)) ∷ [] else [])
    by_main true = (lt, tt)
    by_main false = tt

found_main : (t : Facts) (files : List File) → Found (length files) (main_faults t files)
found_main t [] = tt
found_main t (f ∷ fs) =
    found_append (length (f ∷ fs)) _ (absent_main_faults t f.package) (found_each (length (f ∷ fs)) (λ k file. flat_map (reserved_names_faults f.package.text) file.declarations) 0 (f ∷ fs) (omega arith))
    (found_absent (length (f ∷ fs)) t f.package (omega arith))

found_all : (ps : List Importable) (t : Facts) (files : List File) → Found (length files) (package_faults ps t files)
found_all ps t files =
    found_append (length files) (each_file (file_faults ps t) 0 files) _ (found_each (length files) (file_faults ps t) 0 files (omega arith))
    (found_append (length files) (objects_faults t files) (main_faults t files)
    (found_constants (length files) t (objects_from 0 files) (all_from (length files) 0 files (omega arith))) (found_main t files))

first_found : (n : ℕ) (xs : FileFaults) (x : ℕ × (Place × FaultKind)) → Found n xs → slice_get xs 0 ≡ Some x → x.0 < n
first_found n [] x h e = cc
first_found n (y ∷ ys) x h e =
    let same : y ≡ x = cc in
    subst (λ (z : ℕ × (Place × FaultKind)). z.0 < n) same h.0

-- the fault of a package stands in one of its files
pub fault_within : (edition : Edition) (path : List ℕ) (files : List File) (ps : List Importable) (fault : ℕ × (Place × FaultKind)) → IsFaultOf edition path files ps (Some fault) → fault.0 < length files
fault_within edition path files ps fault it = first_found (length files) (package_faults ps it.facts files) fault (found_all ps it.facts files) it.first
