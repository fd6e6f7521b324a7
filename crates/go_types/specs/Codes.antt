-- By what proofs tell types apart.
use Rattle.std.specs.Prelude.{◌≡◌, ℕ, ◌==◌, true, false, List, refl}
use Rattle.std.specs.Coded.{Coded, code_by, coded_ℕ, coded_list, coded_option, coded×}
use mathlib.Core.Path.{sym, ap, ◌∙◌}
use base.Stored.{Gv, gnum, gcons, gnil}
use Rattle.go_types.specs.contracts.types.Basic as basics
use Rattle.go_types.specs.Types.{Type', basic, array, slice, struct, named, Fields, no_fields, field, DeclaredType}

abbrev pub bytes_code : Coded (List ℕ)
bytes_code = coded_list coded_ℕ

abbrev mutual
  pub type_tree : Type' → Gv
  type_tree (basic b) = gcons (gnum 0) (basics.the_row.coded.code b)
  type_tree (array n t) = gcons (gnum 1) (gcons (gnum n) (type_tree t))
  type_tree (slice t) = gcons (gnum 4) (type_tree t)
  type_tree (struct fields) = gcons (gnum 2) (fields_tree fields)
  type_tree (named path name t) = gcons (gnum 3) (gcons (bytes_code.code path) (gcons (bytes_code.code name) (type_tree t)))

  pub fields_tree : Fields → Gv
  fields_tree no_fields = gnil
  fields_tree (field path name t fields) =
      gcons ((coded_option bytes_code).code path) (gcons (bytes_code.code name) (gcons (type_tree t) (fields_tree fields)))

apart : (m n : ℕ) (a b : Gv) → (m == n) ≡ false → (m == m) ≡ true → gcons (gnum m) a ≡ gcons (gnum n) b → ⊥
apart m n a b unlike alike e =
    let same : m ≡ n = cc in
    let wrong : false ≡ true = sym unlike ∙ ap (λ (k : ℕ). m == k) (sym same) ∙ alike in
    cc

mutual
  pub one_type : (s t : Type') → type_tree s ≡ type_tree t → s ≡ t
  one_type (basic b) (basic c) e = let parts : basics.the_row.coded.code b ≡ basics.the_row.coded.code c = cc in ap basic (basics.the_row.coded.inj b c parts)
  one_type (basic b) (array n t) e = absurd (apart 0 1 _ _ refl refl e)
  one_type (basic b) (slice t) e = absurd (apart 0 4 _ _ refl refl e)
  one_type (basic b) (struct f) e = absurd (apart 0 2 _ _ refl refl e)
  one_type (basic b) (named p x t) e = absurd (apart 0 3 _ _ refl refl e)
  one_type (array n t) (basic b) e = absurd (apart 1 0 _ _ refl refl e)
  one_type (array m s) (array n t) e =
      let lengths : m ≡ n = cc in
      let parts : type_tree s ≡ type_tree t = cc in
      let inside : s ≡ t = one_type s t parts in
      cc
  one_type (array n s) (slice t) e = absurd (apart 1 4 _ _ refl refl e)
  one_type (array n t) (struct f) e = absurd (apart 1 2 _ _ refl refl e)
  one_type (array n s) (named p x t) e = absurd (apart 1 3 _ _ refl refl e)
  one_type (slice t) (basic b) e = absurd (apart 4 0 _ _ refl refl e)
  one_type (slice s) (array n t) e = absurd (apart 4 1 _ _ refl refl e)
  one_type (slice s) (slice t) e = let parts : type_tree s ≡ type_tree t = cc in ap slice (one_type s t parts)
  one_type (slice t) (struct f) e = absurd (apart 4 2 _ _ refl refl e)
  one_type (slice s) (named p x t) e = absurd (apart 4 3 _ _ refl refl e)
  one_type (struct f) (basic b) e = absurd (apart 2 0 _ _ refl refl e)
  one_type (struct f) (array n t) e = absurd (apart 2 1 _ _ refl refl e)
  one_type (struct f) (slice t) e = absurd (apart 2 4 _ _ refl refl e)
  one_type (struct f) (struct g) e = let parts : fields_tree f ≡ fields_tree g = cc in ap struct (one_fields f g parts)
  one_type (struct f) (named p x t) e = absurd (apart 2 3 _ _ refl refl e)
  one_type (named p x t) (basic b) e = absurd (apart 3 0 _ _ refl refl e)
  one_type (named p x s) (array n t) e = absurd (apart 3 1 _ _ refl refl e)
  one_type (named p x s) (slice t) e = absurd (apart 3 4 _ _ refl refl e)
  one_type (named p x t) (struct f) e = absurd (apart 3 2 _ _ refl refl e)
  one_type (named p x s) (named q y t) e =
      let paths : bytes_code.code p ≡ bytes_code.code q = cc in
      let names : bytes_code.code x ≡ bytes_code.code y = cc in
      let parts : type_tree s ≡ type_tree t = cc in
      let one : p ≡ q = bytes_code.inj p q paths in
      let two : x ≡ y = bytes_code.inj x y names in
      let three : s ≡ t = one_type s t parts in
      cc

  pub one_fields : (f g : Fields) → fields_tree f ≡ fields_tree g → f ≡ g
  one_fields no_fields no_fields e = refl
  one_fields no_fields (field p x t g) e = cc
  one_fields (field p x s f) no_fields e = cc
  one_fields (field p x s f) (field q y t g) e =
      let paths : (coded_option bytes_code).code p ≡ (coded_option bytes_code).code q = cc in
      let names : bytes_code.code x ≡ bytes_code.code y = cc in
      let types : type_tree s ≡ type_tree t = cc in
      let rest : fields_tree f ≡ fields_tree g = cc in
      let one : p ≡ q = (coded_option bytes_code).inj p q paths in
      let two : x ≡ y = bytes_code.inj x y names in
      let three : s ≡ t = one_type s t types in
      let four : f ≡ g = one_fields f g rest in
      cc

abbrev pub type_code : Coded Type'
type_code = record { code = type_tree; inj = one_type }

abbrev pub fields_code : Coded Fields
fields_code = record { code = fields_tree; inj = one_fields }

abbrev pub declared_code : Coded DeclaredType
declared_code =
    code_by (List ℕ × (List ℕ × Type')) (coded× bytes_code (coded× bytes_code type_code))
    (λ d. (d.path, (d.name, d.type))) (λ p. record { path = p.0; name = p.1.0; type = p.1.1 }) (λ _. refl)
