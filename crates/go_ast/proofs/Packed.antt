-- Lists of fields and of elements, and the trees that stand for them: the same tokens, and the same heights.
use Rattle.std.proofs.Common.{◌≡◌, ℕ, ◌+◌, ◌≤◌, inl, inr, List, [], ◌∷◌, Option, refl, ap, arith}
use Rattle.go_text.specs.declared.edition.Edition.{Edition}
use Rattle.go_scan.specs.declared.token.TokenKind.{TokenKind}
use Rattle.go_ast.specs.Trees.{Name, TypeExpr, FieldDecls, no_fields, field, Elements, no_elements, element, Element, pack_fields, pack_elements}
use Rattle.go_ast.specs.Heights.{fields_height, elements_height}
use Rattle.go_ast.specs.Grammar.{Lexeme, semicolon, comma, Behind, AreItems, AreFields, AreElements}
use Rattle.go_ast.specs.Machine.{fields, elements}
use Rattle.go_ast.proofs.Means.{IsItem, FitItems}

-- behind an item, with other words for the others
pub behind_as : (separator : TokenKind) (Others Others' : List Lexeme → List Lexeme → Type 0) (Last Last' : Type 0) (us ws : List Lexeme) →
    ((vs : List Lexeme) → Others vs ws → Others' vs ws) → (Last → Last') → Behind separator Others Last us ws → Behind separator Others' Last' us ws
behind_as separator Others Others' Last Last' us ws p q h = elim h [
  | inl b ↦ inl (b.0, b.1, b.2, p b.1 b.3)
  | inr b ↦ inr (q b.0, b.1)
]

-- fields
pub unpack_fields : FieldDecls → List (List Name × TypeExpr)
unpack_fields no_fields = []
unpack_fields (field ns a fs) = (ns, a) ∷ unpack_fields fs

pub packed_fields : (fs : FieldDecls) → pack_fields (unpack_fields fs) ≡ fs
unfolding unpack_fields
packed_fields no_fields = refl
packed_fields (field ns a fs) = ap (field ns a) (packed_fields fs)

last_field : (fs : List (List Name × TypeExpr)) → fs ≡ [] → pack_fields fs ≡ no_fields
last_field fs e = ap pack_fields e

field_last : (fs : FieldDecls) → fs ≡ no_fields → unpack_fields fs ≡ []
unfolding unpack_fields
field_last fs e = ap unpack_fields e

pub fields_from : (ed : Edition) → (l : ℕ) (fs : List (List Name × TypeExpr)) (us ws : List Lexeme) → AreItems (IsItem ed (fields l)) semicolon fs us ws →
    AreFields ed (pack_fields fs) us ws
fields_from ed l [] us ws h = h
fields_from ed l (f ∷ fs) us ws h = (
  h.1.0,
  h.0,
  h.1.1,
  h.1.2,
  behind_as semicolon (AreItems (IsItem ed (fields l)) semicolon fs) (AreFields ed (pack_fields fs)) (fs ≡ []) (pack_fields fs ≡ no_fields) h.0 ws
      (λ vs x. fields_from ed l fs vs ws x) (last_field fs) h.2,
)

pub fields_to : (ed : Edition) → (l : ℕ) (fs : FieldDecls) (us ws : List Lexeme) → AreFields ed fs us ws → AreItems (IsItem ed (fields l)) semicolon (unpack_fields fs) us ws
unfolding unpack_fields
fields_to ed l no_fields us ws h = h
fields_to ed l (field ns a fs) us ws h = (
  h.1,
  (h.0, h.2, h.3),
  behind_as semicolon (AreFields ed fs) (AreItems (IsItem ed (fields l)) semicolon (unpack_fields fs)) (fs ≡ no_fields) (unpack_fields fs ≡ []) h.1 ws
      (λ vs x. fields_to ed l fs vs ws x) (field_last fs) h.4,
)

-- elements
pub unpack_elements : Elements → List (Option Name × Element)
unpack_elements no_elements = []
unpack_elements (element k e es) = (k, e) ∷ unpack_elements es

pub packed_elements : (es : Elements) → pack_elements (unpack_elements es) ≡ es
unfolding unpack_elements
packed_elements no_elements = refl
packed_elements (element k e es) = ap (element k e) (packed_elements es)

last_element : (es : List (Option Name × Element)) → es ≡ [] → pack_elements es ≡ no_elements
last_element es e = ap pack_elements e

element_last : (es : Elements) → es ≡ no_elements → unpack_elements es ≡ []
unfolding unpack_elements
element_last es e = ap unpack_elements e

pub elements_from : (ed : Edition) → (l : ℕ) (es : List (Option Name × Element)) (us ws : List Lexeme) → AreItems (IsItem ed (elements l)) comma es us ws →
    AreElements ed (pack_elements es) us ws
elements_from ed l [] us ws h = h
elements_from ed l (e ∷ es) us ws h = (
  h.1.0,
  h.0,
  h.1.1,
  h.1.2,
  behind_as comma (AreItems (IsItem ed (elements l)) comma es) (AreElements ed (pack_elements es)) (es ≡ []) (pack_elements es ≡ no_elements) h.0 ws
      (λ vs x. elements_from ed l es vs ws x) (last_element es) h.2,
)

pub elements_to : (ed : Edition) → (l : ℕ) (es : Elements) (us ws : List Lexeme) → AreElements ed es us ws → AreItems (IsItem ed (elements l)) comma (unpack_elements es) us ws
unfolding unpack_elements
elements_to ed l no_elements us ws h = h
elements_to ed l (element k e es) us ws h = (
  h.1,
  (h.0, h.2, h.3),
  behind_as comma (AreElements ed es) (AreItems (IsItem ed (elements l)) comma (unpack_elements es)) (es ≡ no_elements) (unpack_elements es ≡ []) h.1 ws
      (λ vs x. elements_to ed l es vs ws x) (element_last es) h.4,
)

-- heights
module _ (ed : Edition) (B : ℕ) where
  pub fields_fit : (l : ℕ) (fs : List (List Name × TypeExpr)) → l ≤ B + 1 → FitItems ed B (fields l) fs → l + fields_height (pack_fields fs) ≤ B + 1
  fields_fit l [] le h = omega arith
  fields_fit l (f ∷ fs) le h = omega (arith, h.0, fields_fit l fs le h.1)

  pub fit_fields : (l : ℕ) (fs : FieldDecls) → l + fields_height fs ≤ B + 1 → FitItems ed B (fields l) (unpack_fields fs)
  unfolding unpack_fields
  fit_fields l no_fields le = tt
  fit_fields l (field ns a fs) le = (omega arith, fit_fields l fs (omega arith))

  pub elements_fit : (l : ℕ) (es : List (Option Name × Element)) → l ≤ B + 1 → FitItems ed B (elements l) es → l + elements_height (pack_elements es) ≤ B + 1
  elements_fit l [] le h = omega arith
  elements_fit l (e ∷ es) le h = omega (arith, h.0, elements_fit l es le h.1)

  pub fit_elements : (l : ℕ) (es : Elements) → l + elements_height es ≤ B + 1 → FitItems ed B (elements l) (unpack_elements es)
  unfolding unpack_elements
  fit_elements l no_elements le = tt
  fit_elements l (element k e es) le = (omega arith, fit_elements l es (omega arith))
