-- What holds of each object that files declare: its string literals are texts, and a declaration but that of a function declares none.
use Rattle.std.proofs.Common.{◌≡◌, ℕ, zero, suc, true, false, ◌||◌, Bool, List, [], ◌∷◌, ◌++◌, Option, Some, None, map, codes, refl, subst, inl, inr}
use Rattle.std.specs.Prelude.{bytes_eq, option_map, unwrap_or}
use Rattle.std.specs.List.{slice_get, list_any, flat_map}
use Rattle.std.proofs.lemmas.Bool.{cases_Bool}
use Rattle.go_ast.specs.Trees.{Name, TypeExpr, Expression, ExpressionList, no_exprs, some_exprs, ConstSpec, VarSpec, TypeSpec, Decl, constants, variables, types, TopLevel, declared, function, File}
use Rattle.go_objects.specs.Objects.{Form, constant, function', DeclaredObject, paired, begin_of, other_object, unpaired, constants_of, in_group, typed_object, valued_object, result_objects, uncounted, variables_of, type_object, objects_in, objects_from, firsts}
use Rattle.go_package_laws.proofs.Texts.{HasTexts, HaveTexts, TypeHasTexts}
use Rattle.go_package_laws.proofs.BodyTexts.{WrittenHasTexts, ConstantsHaveTexts, VariablesHaveTexts}
use Rattle.go_package_laws.proofs.DeclaredTexts.{TypesHaveTexts, TopHasTexts, TopsHaveTexts, FilesHaveTexts}
use Rattle.go_package_laws.proofs.Forms.{FormHasTexts, IsWellNamed}

abbrev pub is_function : Form → Bool
is_function (function' ps ts) = true
is_function form = false

abbrev pub AllIn : (DeclaredObject → Type 0) → List DeclaredObject → Type 0
AllIn P [] = Unit {0}
AllIn P (o ∷ os) = P o × AllIn P os

pub all_more : (P : DeclaredObject → Type 0) (os us : List DeclaredObject) → AllIn P os → AllIn P us → AllIn P (os ++ us)
all_more P [] us h k = k
all_more P (o ∷ os) us h k = (h.0, all_more P os us h.1 k)

pub all_at : (P : DeclaredObject → Type 0) (os : List DeclaredObject) (k : ℕ) (o : DeclaredObject) → AllIn P os → slice_get os k ≡ Some o → P o
all_at P [] k o h at = absurd cc
all_at P (x ∷ os) zero o h at = (let same : x ≡ o = cc in subst P same h.0)
all_at P (x ∷ os) (suc k) o h at = all_at P os k o h.1 at

pub all_firsts : (P : DeclaredObject → Type 0) (names : List (List ℕ)) (os : List DeclaredObject) → AllIn P os → AllIn P (firsts names os)
all_firsts P names [] h = tt
all_firsts P names (o ∷ os) h = elim (cases_Bool (bytes_eq o.name.text (codes "_") || list_any (bytes_eq o.name.text) names)) [
  | inl out ↦ rw out (all_firsts P names os h.1)
  | inr new ↦ rw new (h.0, all_firsts P (names ++ o.name.text ∷ []) os h.1)
]

-- of the names that declarations have, something else may be given
module _ (Q : Name → Type 0) where
  abbrev pub AllNames : List Name → Type 0
  AllNames [] = Unit {0}
  AllNames (n ∷ ns) = Q n × AllNames ns

  abbrev pub Fits : DeclaredObject → Type 0
  Fits o = FormHasTexts o.form × (is_function o.form ≡ false) × Q o.name × IsWellNamed o

  abbrev ManyFit : Option (List DeclaredObject) → Type 0
  ManyFit None = Unit {0}
  ManyFit (Some os) = AllIn Fits os

  one_more : (o : DeclaredObject) (os : Option (List DeclaredObject)) → Fits o → ManyFit os → ManyFit (option_map (λ xs. o ∷ xs) os)
  one_more o None h k = tt
  one_more o (Some os) h k = (h, k)

  paired_fit : (f : Name → Expression → DeclaredObject) → ((n : Name) (e : Expression) → Q n → HasTexts e → Fits (f n e)) → (ns : List Name) (es : ExpressionList) → AllNames ns → HaveTexts es → ManyFit (paired f ns es)
  paired_fit f each [] no_exprs h k = tt
  paired_fit f each [] (some_exprs e es) h k = tt
  paired_fit f each (n ∷ ns) no_exprs h k = tt
  paired_fit f each (n ∷ ns) (some_exprs e es) h k = one_more (f n e) (paired f ns es) (each n e h.0 k.0) (paired_fit f each ns es h.1 k.1)

  others_fit : (file : ℕ) (all : List Name) (t : Option TypeExpr) (es : ExpressionList) (ns : List Name) → AllNames ns → AllIn Fits (map (other_object file all t es) ns)
  others_fit file all t es [] h = tt
  others_fit file all t es (n ∷ ns) h = ((tt, refl, h.0, tt), others_fit file all t es ns h.1)

  unpaired_fit : (file : ℕ) (t : Option TypeExpr) (es : ExpressionList) (ns : List Name) → AllNames ns → AllIn Fits (unpaired file t es ns)
  unpaired_fit file t es ns h = others_fit file ns t es ns h

  either_fits : (a : Option (List DeclaredObject)) (b : List DeclaredObject) → ManyFit a → AllIn Fits b → AllIn Fits (unwrap_or a b)
  either_fits None b h k = k
  either_fits (Some os) b h k = h

  constants_fit : (file iota : ℕ) (ns : List Name) (t : Option TypeExpr) (es : ExpressionList) → AllNames ns → WrittenHasTexts t → HaveTexts es → AllIn Fits (constants_of file iota (record { names = ns; type = t; values = es }))
  constants_fit file iota ns t es h a b =
      either_fits (paired (λ n e. record { file = file; begins = begin_of ns n; name = n; form = constant t e iota }) ns es) (unpaired file t es ns)
      (paired_fit (λ n e. record { file = file; begins = begin_of ns n; name = n; form = constant t e iota }) (λ n e q k. ((a, k), refl, q, tt)) ns es h b) (unpaired_fit file t es ns h)

  abbrev pub ConstantNames : List ConstSpec → Type 0
  ConstantNames [] = Unit {0}
  ConstantNames (s ∷ ss) = AllNames s.names × ConstantNames ss

  one_group : (file iota : ℕ) (before : ConstSpec) (ns : List Name) (t : Option TypeExpr) (es : ExpressionList) (ss : List ConstSpec) → WrittenHasTexts before.type → HaveTexts before.values → AllNames ns → WrittenHasTexts t → HaveTexts es
      → ((m : ConstSpec) → WrittenHasTexts m.type → HaveTexts m.values → AllIn Fits (in_group file (suc iota) m ss)) → AllIn Fits (in_group file iota before (record { names = ns; type = t; values = es } ∷ ss))
  one_group file iota before ns t no_exprs ss a b h k l rest =
      let m : ConstSpec = record { names = ns; type = before.type; values = before.values } in
      all_more Fits (constants_of file iota m) (in_group file (suc iota) m ss) (constants_fit file iota ns before.type before.values h a b) (rest m a b)
  one_group file iota before ns t (some_exprs e es) ss a b h k l rest =
      let m : ConstSpec = record { names = ns; type = t; values = some_exprs e es } in
      all_more Fits (constants_of file iota m) (in_group file (suc iota) m ss) (constants_fit file iota ns t (some_exprs e es) h k l) (rest m k l)

  group_fits : (file iota : ℕ) (before : ConstSpec) (ss : List ConstSpec) → WrittenHasTexts before.type → HaveTexts before.values → ConstantNames ss → ConstantsHaveTexts ss → AllIn Fits (in_group file iota before ss)
  group_fits file iota before [] a b h k = tt
  group_fits file iota before (s ∷ ss) a b h k =
      one_group file iota before s.names s.type s.values ss a b h.0 k.0 k.1 (λ m c d. group_fits file (suc iota) m ss c d h.1 k.2)

  typed_fit : (file : ℕ) (all : List Name) (t : TypeExpr) (ns : List Name) → AllNames ns → TypeHasTexts t → AllIn Fits (map (typed_object file all t) ns)
  typed_fit file all t [] h k = tt
  typed_fit file all t (n ∷ ns) h k = ((k, refl, h.0, tt), typed_fit file all t ns h.1 k)

  results_fit : (file : ℕ) (all : List Name) (number : ℕ) (e : Expression) (ns : List Name) → AllNames ns → HasTexts e → AllIn Fits (result_objects file all number e ns)
  results_fit file all number e [] h k = tt
  results_fit file all number e (n ∷ ns) h k = ((k, refl, h.0, tt), results_fit file all (suc number) e ns h.1 k)

  uncounted_fit : (file : ℕ) (ns : List Name) (es : ExpressionList) → AllNames ns → HaveTexts es → AllIn Fits (uncounted file ns es)
  uncounted_fit file ns no_exprs h k = unpaired_fit file None no_exprs ns h
  uncounted_fit file ns (some_exprs e no_exprs) h k = results_fit file ns 0 e ns h k.0
  uncounted_fit file ns (some_exprs e (some_exprs f es)) h k = unpaired_fit file None (some_exprs e (some_exprs f es)) ns h

  variables_fit : (file : ℕ) (ns : List Name) (t : Option TypeExpr) (es : ExpressionList) → AllNames ns → WrittenHasTexts t → HaveTexts es → AllIn Fits (variables_of file (record { names = ns; type = t; values = es }))
  variables_fit file ns (Some t) es h a b = typed_fit file ns t ns h a
  variables_fit file ns None es h a b =
      either_fits (paired (valued_object file ns) ns es) (uncounted file ns es) (paired_fit (valued_object file ns) (λ n e q k. (k, refl, q, tt)) ns es h b) (uncounted_fit file ns es h b)

  abbrev pub VariableNames : List VarSpec → Type 0
  VariableNames [] = Unit {0}
  VariableNames (s ∷ ss) = AllNames s.names × VariableNames ss

  specs_fit : (file : ℕ) (ss : List VarSpec) → VariableNames ss → VariablesHaveTexts ss → AllIn Fits (flat_map (variables_of file) ss)
  specs_fit file [] h k = tt
  specs_fit file (s ∷ ss) h k = all_more Fits (variables_of file s) (flat_map (variables_of file) ss) (variables_fit file s.names s.type s.values h.0 k.0 k.1) (specs_fit file ss h.1 k.2)

  abbrev pub TypeNames : List TypeSpec → Type 0
  TypeNames [] = Unit {0}
  TypeNames (s ∷ ss) = Q s.name × TypeNames ss

  types_fit : (file : ℕ) (ss : List TypeSpec) → TypeNames ss → TypesHaveTexts ss → AllIn Fits (map (type_object file) ss)
  types_fit file [] h k = tt
  types_fit file (s ∷ ss) h k = ((k.0, refl, h.0, k.2), types_fit file ss h.1 k.1)

  abbrev pub DeclNames : Decl → Type 0
  DeclNames (constants p ss) = ConstantNames ss
  DeclNames (variables p ss) = VariableNames ss
  DeclNames (types p ss) = TypeNames ss

  pub decl_fits : (file : ℕ) (c : Decl) → DeclNames c → TopHasTexts (declared c) → AllIn Fits (objects_in file (declared c))
  decl_fits file (constants p ss) h k = group_fits file 0 (record { names = []; type = None; values = no_exprs }) ss tt tt h k
  decl_fits file (variables p ss) h k = specs_fit file ss h k
  decl_fits file (types p ss) h k = types_fit file ss h k

-- where nothing is given of names
abbrev pub Any : Name → Type 0
Any n = Unit {0}

any_names : (ns : List Name) → AllNames Any ns
any_names [] = tt
any_names (n ∷ ns) = (tt, any_names ns)

any_constants : (ss : List ConstSpec) → ConstantNames Any ss
any_constants [] = tt
any_constants (s ∷ ss) = (any_names s.names, any_constants ss)

any_variables : (ss : List VarSpec) → VariableNames Any ss
any_variables [] = tt
any_variables (s ∷ ss) = (any_names s.names, any_variables ss)

any_types : (ss : List TypeSpec) → TypeNames Any ss
any_types [] = tt
any_types (s ∷ ss) = (tt, any_types ss)

pub decl_fits_any : (file : ℕ) (c : Decl) → TopHasTexts (declared c) → AllIn (Fits Any) (objects_in file (declared c))
decl_fits_any file (constants p ss) k = decl_fits Any file (constants p ss) (any_constants ss) k
decl_fits_any file (variables p ss) k = decl_fits Any file (variables p ss) (any_variables ss) k
decl_fits_any file (types p ss) k = decl_fits Any file (types p ss) (any_types ss) k

-- ---- all objects have texts, and words for names of types

abbrev pub HasFormTexts : DeclaredObject → Type 0
HasFormTexts o = FormHasTexts o.form × IsWellNamed o

forget : (os : List DeclaredObject) → AllIn (Fits Any) os → AllIn HasFormTexts os
forget [] h = tt
forget (o ∷ os) h = (((h.0).0, (h.0).3), forget os h.1)

top_texts : (file : ℕ) (top : TopLevel) → TopHasTexts top → AllIn HasFormTexts (objects_in file top)
top_texts file (declared c) h = forget (objects_in file (declared c)) (decl_fits_any file c h)
top_texts file (function f) h = elim (cases_Bool (bytes_eq f.name.text (codes "init"))) [
  | inl init ↦ rw init tt
  | inr named ↦ rw named (((h.0, h.1), tt), tt)
]

tops_texts : (file : ℕ) (tops : List TopLevel) → TopsHaveTexts tops → AllIn HasFormTexts (flat_map (objects_in file) tops)
tops_texts file [] h = tt
tops_texts file (top ∷ tops) h = all_more HasFormTexts (objects_in file top) (flat_map (objects_in file) tops) (top_texts file top h.0) (tops_texts file tops h.1)

pub files_texts : (number : ℕ) (files : List File) → FilesHaveTexts files → AllIn HasFormTexts (objects_from number files)
files_texts number [] h = tt
files_texts number (f ∷ fs) h =
    all_more HasFormTexts (flat_map (objects_in number) f.declarations) (objects_from (suc number) fs) (tops_texts number f.declarations h.0) (files_texts (suc number) fs h.1)
