-- What is due where the functions that read trees stand, under the names that their proofs have for it.
use Rattle.std.proofs.Common.{◌≡◌, ℕ, ◌+◌, Bool, true, false, List, [], ◌∷◌, ◌++◌, Option, Some, None, refl, sym, ap, ◌∙◌}
use Rattle.go_text.specs.declared.edition.Edition.{Edition}
use Rattle.go_text.specs.declared.place.Place.{Place}
use Rattle.go_pexpr.specs.declared.operators.Beginning.{Beginning}
use Rattle.go_pexpr.specs.declared.operators.Beginning.TheVariants as begins
use Rattle.go_ast.specs.declared.expression.UnaryOperator.{UnaryOperator}
use Rattle.go_ast.specs.Trees as trees
use Rattle.go_ast.specs.Expected.{an_operand, a_type, a_field_end, an_index_end, another, an_element_end}
use Rattle.go_ast.specs.Heights.{type_height}
use Rattle.go_ast.specs.Grammar.{Lexeme, type_place, comma, opening, closing, closing_bracket, opening_brace}
use Rattle.go_ast.specs.Machine.{Reader, token, optional, type, expr, list_start, list_end, fields, arguments, elements, behind_literal_type, literal_elements, behind_operand, behind_operand_type, run_parser}
use Rattle.go_pexpr.specs.Next.{is_slice_type}
use Rattle.go_pexpr.specs.Turns.{behind_conversion, behind_brace, behind_last, read_value, element_at, conversion_or_type}
use Rattle.go_pexpr.specs.Reads.{First, either}
use Rattle.go_pexpr.proofs.Steps.{Kind, optional_some, optional_none}

pub false_true : false ≡ true → ⊥
false_true e = cc (e)

pub other_not : {b : Beginning} (x : Beginning) → (begins.Other ≡ x → ⊥) → b ≡ begins.Other → b ≡ x → ⊥
other_not x never e f = never (sym e ∙ f)

pub either_same : {A : Type 0} (s : Reader) (o : Option A) → either (λ _. s) s o ≡ s
either_same s None = refl
either_same s (Some a) = refl

-- types of arrays and slices

abbrev pub slice_of : (trees.TypeExpr → Reader) → Place → trees.TypeExpr → Reader
slice_of next p a = next (trees.slice p a)

abbrev pub item_of : ℕ → (trees.TypeExpr → Reader) → Place → trees.Expression → Reader
item_of l next p e = type (l + 1) a_type (λ a. next (trees.array p e a))

abbrev pub sized_end : ℕ → (trees.TypeExpr → Reader) → Place → trees.Expression → Reader
sized_end l next p e = token closing_bracket 0 another (λ _. item_of l next p e)

-- types of structs

abbrev pub made_struct : (trees.TypeExpr → Reader) → Place → List (List trees.Name × trees.TypeExpr) → Reader
made_struct next p fs = next (trees.struct p (trees.pack_fields fs))

abbrev pub open_struct : ℕ → (trees.TypeExpr → Reader) → Place → Lexeme → Reader
open_struct l next p t = list_start (fields (l + 1)) [] (λ fs _. made_struct next p fs)

-- fields

abbrev pub field_end : ℕ → (List (List trees.Name × trees.TypeExpr) → Reader) → List (List trees.Name × trees.TypeExpr) → List trees.Name → trees.TypeExpr → Reader
field_end l next front ns a = list_end (fields l) a_field_end (front ++ (ns, a) ∷ []) (λ fs _. next fs)

abbrev pub field_type : ℕ → (List (List trees.Name × trees.TypeExpr) → Reader) → List (List trees.Name × trees.TypeExpr) → List trees.Name → Reader
field_type l next front ns = type l a_type (field_end l next front ns)

-- behind an operator
-- an expression in parentheses

-- signs

abbrev pub behind_sign : Bool → ℕ → UnaryOperator → (trees.Expression → Reader) → Lexeme → Reader
behind_sign h l op next t = expr 0 h (l + 1) an_operand (λ e. next (trees.unary t.place op e))

-- behind a type

abbrev pub typed_elements : ℕ → (trees.Expression → Reader) → trees.TypeExpr → Place → List (Option trees.Name × trees.Element) → Reader
typed_elements l next a q es = next (trees.composite_lit (type_place a) a q (trees.pack_elements es))

abbrev pub typed_value : (trees.Expression → Reader) → trees.TypeExpr → trees.Expression → Reader
typed_value next a e = next (trees.conversion (type_place a) a e)

abbrev pub typed_open : ℕ → (trees.Expression → Reader) → trees.TypeExpr → Lexeme → Reader
typed_open l next a = behind_conversion l (typed_value next a)

abbrev pub converted_end : (trees.Expression → Reader) → trees.Expression → Reader
converted_end next e = token closing 0 another (λ _. next e)

abbrev pub converted_value : (trees.Expression → Reader) → trees.Expression → Reader
converted_value next e = optional comma 0 (λ _. converted_end next e) (converted_end next e)

-- behind a type stands a brace or else, but for a slice, a parenthesis
typed_first : (ed : Edition) → (l : ℕ) (next : trees.Expression → Reader) (a : trees.TypeExpr) (ts : List Lexeme) → First (Kind opening_brace) ts →
    run_parser ed 250 (optional opening_brace (l + 1) (behind_brace l a next) (token opening (l + 1) another (typed_open l next a))) ts
    ≡ run_parser ed 250 (token opening_brace (l + 1) another (behind_brace l a next)) ts
typed_first ed l next a ts first = optional_some ed opening_brace (l + 1) another (behind_brace l a next) (token opening (l + 1) another (typed_open l next a)) ts first

pub typed_by_brace : (ed : Edition) → (l : ℕ) (next : trees.Expression → Reader) (a : trees.TypeExpr) (ts : List Lexeme) → First (Kind opening_brace) ts →
    run_parser ed 250 (behind_literal_type l next a) ts ≡ run_parser ed 250 (token opening_brace (l + 1) another (behind_brace l a next)) ts
typed_by_brace ed l next (trees.slice p a) ts first = refl
typed_by_brace ed l next (trees.named p n) ts first = typed_first ed l next (trees.named p n) ts first
typed_by_brace ed l next (trees.qualified p m n) ts first = typed_first ed l next (trees.qualified p m n) ts first
typed_by_brace ed l next (trees.array p e a) ts first = typed_first ed l next (trees.array p e a) ts first
typed_by_brace ed l next (trees.struct p fs) ts first = typed_first ed l next (trees.struct p fs) ts first

pub slice_by_brace : (ed : Edition) → (l : ℕ) (next : trees.Expression → Reader) (a : trees.TypeExpr) (ts : List Lexeme) → is_slice_type a ≡ true →
    run_parser ed 250 (behind_literal_type l next a) ts ≡ run_parser ed 250 (token opening_brace (l + 1) another (behind_brace l a next)) ts
slice_by_brace ed l next (trees.slice p a) ts is = refl
slice_by_brace ed l next (trees.named p n) ts is = absurd (false_true is)
slice_by_brace ed l next (trees.qualified p m n) ts is = absurd (false_true is)
slice_by_brace ed l next (trees.array p e a) ts is = absurd (false_true is)
slice_by_brace ed l next (trees.struct p fs) ts is = absurd (false_true is)

typed_second : (ed : Edition) → (l : ℕ) (next : trees.Expression → Reader) (a : trees.TypeExpr) (ts : List Lexeme) → (First (Kind opening_brace) ts → ⊥) →
    run_parser ed 250 (optional opening_brace (l + 1) (behind_brace l a next) (token opening (l + 1) another (typed_open l next a))) ts
    ≡ run_parser ed 250 (token opening (l + 1) another (typed_open l next a)) ts
typed_second ed l next a ts never = optional_none ed opening_brace (l + 1) (behind_brace l a next) (token opening (l + 1) another (typed_open l next a)) ts never

pub typed_by_parenthesis : (ed : Edition) → (l : ℕ) (next : trees.Expression → Reader) (a : trees.TypeExpr) (ts : List Lexeme) → is_slice_type a ≡ false →
    (First (Kind opening_brace) ts → ⊥) →
    run_parser ed 250 (behind_literal_type l next a) ts ≡ run_parser ed 250 (token opening (l + 1) another (typed_open l next a)) ts
typed_by_parenthesis ed l next (trees.slice p a) ts other never = absurd (false_true (sym other))
typed_by_parenthesis ed l next (trees.named p n) ts other never = typed_second ed l next (trees.named p n) ts never
typed_by_parenthesis ed l next (trees.qualified p m n) ts other never = typed_second ed l next (trees.qualified p m n) ts never
typed_by_parenthesis ed l next (trees.array p e a) ts other never = typed_second ed l next (trees.array p e a) ts never
typed_by_parenthesis ed l next (trees.struct p fs) ts other never = typed_second ed l next (trees.struct p fs) ts never

-- behind a type that a call's first operand begins with

pub operand_by_brace : (ed : Edition) → (l n : ℕ) (next : trees.Expression → Reader) (a : trees.TypeExpr) (ts : List Lexeme) → n ≡ type_height a → First (Kind opening_brace) ts →
    run_parser ed 250 (behind_operand_type l next a) ts ≡ run_parser ed 250 (token opening_brace (l + n) another (literal_elements l (behind_operand 5 false l next) a)) ts
operand_by_brace ed l n next a ts same first =
    by_form a ∙ ap (λ m. run_parser ed 250 (token opening_brace (l + m) another (literal_elements l (behind_operand 5 false l next) a)) ts) (sym same)
  where
    other : (b : trees.TypeExpr) →
        run_parser ed 250 (optional opening_brace (l + type_height b) (literal_elements l (behind_operand 5 false l next) b) (conversion_or_type l next (type_height b) b)) ts
        ≡ run_parser ed 250 (token opening_brace (l + type_height b) another (literal_elements l (behind_operand 5 false l next) b)) ts
    other b =
        optional_some ed opening_brace (l + type_height b) another (literal_elements l (behind_operand 5 false l next) b) (conversion_or_type l next (type_height b) b) ts first

    by_form : (b : trees.TypeExpr) →
        run_parser ed 250 (behind_operand_type l next b) ts ≡ run_parser ed 250 (token opening_brace (l + type_height b) another (literal_elements l (behind_operand 5 false l next) b)) ts
    by_form (trees.slice p b) =
        optional_some ed opening_brace (l + type_height (trees.slice p b)) another (literal_elements l (behind_operand 5 false l next) (trees.slice p b))
        (next (trees.type_operand p (trees.slice p b))) ts first
    by_form (trees.named p m) = other (trees.named p m)
    by_form (trees.qualified p m k) = other (trees.qualified p m k)
    by_form (trees.array p e b) = other (trees.array p e b)
    by_form (trees.struct p fs) = other (trees.struct p fs)

pub operand_of_slice : (ed : Edition) → (l : ℕ) (next : trees.Expression → Reader) (a : trees.TypeExpr) (ts : List Lexeme) → is_slice_type a ≡ true → (First (Kind opening_brace) ts → ⊥) →
    run_parser ed 250 (behind_operand_type l next a) ts ≡ run_parser ed 250 (next (trees.type_operand (type_place a) a)) ts
operand_of_slice ed l next (trees.slice p a) ts is never =
    optional_none ed opening_brace (l + type_height (trees.slice p a)) (literal_elements l (behind_operand 5 false l next) (trees.slice p a))
    (next (trees.type_operand p (trees.slice p a))) ts never
operand_of_slice ed l next (trees.named p n) ts is never = absurd (false_true is)
operand_of_slice ed l next (trees.qualified p m n) ts is never = absurd (false_true is)
operand_of_slice ed l next (trees.array p e a) ts is never = absurd (false_true is)
operand_of_slice ed l next (trees.struct p fs) ts is never = absurd (false_true is)

pub operand_of_other : (ed : Edition) → (l n : ℕ) (next : trees.Expression → Reader) (a : trees.TypeExpr) (ts : List Lexeme) → n ≡ type_height a → is_slice_type a ≡ false →
    (First (Kind opening_brace) ts → ⊥) → run_parser ed 250 (behind_operand_type l next a) ts ≡ run_parser ed 250 (conversion_or_type l next n a) ts
operand_of_other ed l n next a ts same other never = by_form a other ∙ ap (λ m. run_parser ed 250 (conversion_or_type l next m a) ts) (sym same)
  where
    passed_brace : (b : trees.TypeExpr) →
        run_parser ed 250 (optional opening_brace (l + type_height b) (literal_elements l (behind_operand 5 false l next) b) (conversion_or_type l next (type_height b) b)) ts
        ≡ run_parser ed 250 (conversion_or_type l next (type_height b) b) ts
    passed_brace b =
        optional_none ed opening_brace (l + type_height b) (literal_elements l (behind_operand 5 false l next) b) (conversion_or_type l next (type_height b) b) ts never

    by_form : (b : trees.TypeExpr) → is_slice_type b ≡ false →
        run_parser ed 250 (behind_operand_type l next b) ts ≡ run_parser ed 250 (conversion_or_type l next (type_height b) b) ts
    by_form (trees.slice p b) is = absurd (false_true (sym is))
    by_form (trees.named p m) is = passed_brace (trees.named p m)
    by_form (trees.qualified p m k) is = passed_brace (trees.qualified p m k)
    by_form (trees.array p e b) is = passed_brace (trees.array p e b)
    by_form (trees.struct p fs) is = passed_brace (trees.struct p fs)

-- what such an operand begins with, once it is read
abbrev pub literal_front : ℕ → (trees.Expression → Reader) → trees.TypeExpr → Place → List (Option trees.Name × trees.Element) → Reader
literal_front l next a q es = behind_operand 5 false l next (trees.composite_lit (type_place a) a q (trees.pack_elements es))

abbrev pub converted_front : ℕ → (trees.Expression → Reader) → trees.TypeExpr → trees.Expression → Reader
converted_front l next a e = behind_operand 5 false l next (trees.conversion (type_place a) a e)

-- arguments

abbrev pub argument_end : ℕ → (List trees.Expression → Reader) → List trees.Expression → trees.Expression → Reader
argument_end l next front e = list_end (arguments l) another (front ++ e ∷ []) (λ es _. next es)

-- suffixes

abbrev pub call_end : (trees.Expression → Reader) → trees.Expression → List trees.Expression → Reader
call_end next f es = next (trees.call (trees.place_of f) f (trees.pack es))

abbrev pub index_end : (trees.Expression → Reader) → trees.Expression → trees.Expression → Reader
index_end next e i = next (trees.index (trees.place_of e) e i)

abbrev pub cut_of : (trees.Expression → Reader) → trees.Expression → trees.Bound → trees.Bound → Reader
cut_of next e a b = next (trees.cut (trees.place_of e) e a b)

abbrev pub high_end : (trees.Expression → Reader) → trees.Expression → trees.Bound → trees.Expression → Reader
high_end next e low j = token closing_bracket 0 an_index_end (λ _. cut_of next e low (trees.bound j))

-- elements of a literal

abbrev pub Elements : Type 0
Elements = List (Option trees.Name × trees.Element)

-- an element is due, at the list's end it isn't
abbrev pub element_next : ℕ → Elements → (Elements → Reader) → Reader
element_next l front next = element_at l front (λ es _. next es)

abbrev pub element_end : ℕ → Elements → (Elements → Reader) → Reader
element_end l front next = list_start (elements l) front (λ es _. next es)

-- an element

abbrev pub behind_colon : ℕ → Elements → (Elements → Lexeme → Reader) → trees.Name → Lexeme → Reader
behind_colon l front next n t = read_value l (behind_last l front next (Some n))

abbrev pub pushed : ℕ → Elements → (Elements → Lexeme → Reader) → Option trees.Name × trees.Element → Reader
pushed l front next e = list_end (elements l) an_element_end (front ++ e ∷ []) next

-- the value of an element

abbrev pub value_braces : (trees.Element → Reader) → Place → Elements → Reader
value_braces next p es = next (trees.value_element p (trees.pack_elements es))

abbrev pub value_alone : (trees.Element → Reader) → trees.Expression → Reader
value_alone next e = next (trees.expression_element e)
