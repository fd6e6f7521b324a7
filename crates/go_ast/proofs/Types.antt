-- Types: what a token that begins one leads to, both ways, and the state that is due a type.
use Rattle.std.proofs.Common.{◌≡◌, ℕ, ◌+◌, ◌≤◌, inl, inr, true, false, List, [], ◌∷◌, refl, sym, ap, ◌∙◌, subst, subst₂, arith}
use Rattle.go_text.specs.declared.edition.Edition.{Edition}
use Rattle.go_text.specs.declared.place.Place.{Place}
use Rattle.go_scan.specs.declared.token.TokenKind.{TokenKind}
use Rattle.go_scan.specs.declared.token.TokenKind.TheVariants as kinds
use Rattle.go_scan.specs.declared.keyword.Keyword.TheVariants as keywords
use Rattle.go_ast.specs.Kinds.{same}
use Rattle.go_ast.specs.Operators.{binary_of}
use Rattle.go_ast.specs.Expected.{Expected}
use Rattle.go_ast.specs.Trees.{Name, TypeExpr, named, qualified, array, slice, struct, FieldDecls, Expression, File, pack_fields}
use Rattle.go_ast.specs.Heights.{type_height}
use Rattle.go_ast.specs.Grammar.{Lexeme, Token, name_of, opening_bracket, closing_bracket, opening_brace, period, IsType, IsExpr, is_named}
use Rattle.go_ast.specs.Machine.{Reader, type, Move, Take, Fail, cond, keyword, begins_type, behind_name, behind_bracket, behind_struct, on_type, parser_step}
use Rattle.go_ast.proofs.Same.{are_same}
use Rattle.go_ast.proofs.Means.{is_tail, begins, Means, Okay, Good, After, Kept, Comes}
use Rattle.go_ast.proofs.Base.{after_cond, kept_cond, token_here, first_is}
use Rattle.go_ast.proofs.Tokens.{a_token, no_token}
use Rattle.go_ast.proofs.Values.{ends_if}
use Rattle.go_ast.proofs.Packed.{unpack_fields, packed_fields, fields_from, fields_to, fields_fit, fit_fields}
use Rattle.go_ast.proofs.Levels.{height_positive, type_height_positive}

-- a first token with no text
pub token_first : (k : TokenKind) (us : List Lexeme) → Token k (a_token k) (a_token k ∷ us) us
token_first k us = record { whole = refl; is = refl }

-- a type begins with one of these
pub type_first : (ed : Edition) → (a : TypeExpr) (t : Lexeme) (us ws : List Lexeme) → IsType ed a (t ∷ us) ws → begins_type t.kind ≡ true
type_first ed (named p n) t us ws d = ap begins_type (first_is kinds.Name t d.0 us ws d.1).2
type_first ed (qualified p m n) t us ws d = ap begins_type (first_is kinds.Name t d.0 us d.3 d.5).2
type_first ed (array p e a) t us ws d = ap begins_type (first_is opening_bracket t d.0 us d.2 d.5).2
type_first ed (slice p a) t us ws d = ap begins_type (first_is opening_bracket t d.0 us d.2 d.5).2
type_first ed (struct p fs) t us ws d = ap begins_type (first_is (keyword keywords.Struct) t d.0 us d.3 d.6).2

pub type_never : (ed : Edition) → (a : TypeExpr) (ws : List Lexeme) → IsType ed a [] ws → ⊥
type_never ed (named p n) ws d = no_token kinds.Name d.0 ws d.1
type_never ed (qualified p m n) ws d = no_token kinds.Name d.0 d.3 d.5
type_never ed (array p e a) ws d = no_token opening_bracket d.0 d.2 d.5
type_never ed (slice p a) ws d = no_token opening_bracket d.0 d.2 d.5
type_never ed (struct p fs) ws d = no_token (keyword keywords.Struct) d.0 d.3 d.6

module _ (ed : Edition) (B : ℕ) where
  -- equal trees and equal tokens lead on alike
  pub led : {A : Type 0} → (next : A → Reader) (a b : A) (us ws : List Lexeme) (f : File) → a ≡ b → us ≡ ws → Means ed B (next b) ws f → Means ed B (next a) us f
  led next a b us ws f p q m = subst₂ (λ x y. Means ed B (next x) y f) (sym p) (sym q) m

  -- a type's tokens, that it fits, and what is behind it
  abbrev pub Typed : ℕ → (TypeExpr → Reader) → List Lexeme → File → Type 0
  Typed l next us f = (a : TypeExpr) × (ws : List Lexeme) × IsType ed a us ws × (l + type_height a ≤ B + 1) × Means ed B (next a) ws f

  abbrev pub Unnamed : ℕ → (TypeExpr → Reader) → List Lexeme → File → Type 0
  Unnamed l next us f =
      (a : TypeExpr) × (ws : List Lexeme) × IsType ed a us ws × (l + type_height a ≤ B + 1) × Means ed B (next a) ws f × (is_named a ≡ false)

  -- from what is due behind a first token to a type
  pub behind_name_back : (l : ℕ) (next : TypeExpr → Reader) (t : Lexeme) (us : List Lexeme) (f : File) → t.kind ≡ kinds.Name → l ≤ B →
      Means ed B (behind_name next t) us f → Typed l next (t ∷ us) f
  behind_name_back l next t us f e le m = elim m [
    | inl h ↦ (let s = h.4 in
        (qualified t.place (name_of t) (name_of s.0), s.1, (t, h.0, s.0, us, h.1, token_here kinds.Name t us e, h.2, s.2, refl, refl, refl), omega arith, s.4))
    | inr h ↦ (named t.place (name_of t), us, (t, token_here kinds.Name t us e, refl, refl), omega arith, h)
  ]

  pub behind_bracket_back : (l : ℕ) (next : TypeExpr → Reader) (t : Lexeme) (us : List Lexeme) (f : File) → t.kind ≡ opening_bracket →
      Means ed B (behind_bracket l next t) us f → Unnamed l next (t ∷ us) f
  behind_bracket_back l next t us f e m = elim m [
    | inl k ↦ (let a = k.4 in
        (slice t.place a.0, a.1, (t, k.0, us, k.1, k.5, token_here opening_bracket t us e, refl, k.2, a.2), omega (arith, a.3), a.4, refl))
    | inr x ↦ (let c = x.4 in
        let a = c.4 in
        (array t.place x.0 a.0, a.1, (t, c.0, us, x.1, c.1, token_here opening_bracket t us e, refl, x.2, c.2, a.2), omega (arith, x.3, a.3), a.4, refl))
  ]

  pub behind_struct_back : (l : ℕ) (next : TypeExpr → Reader) (t : Lexeme) (us : List Lexeme) (f : File) → t.kind ≡ keyword keywords.Struct → l ≤ B →
      Means ed B (behind_struct l next t) us f → Unnamed l next (t ∷ us) f
  behind_struct_back l next t us f e le m =
      let i = m.4 in (
        struct t.place (pack_fields i.0),
        i.3,
        (t, m.0, i.1, us, m.1, i.2, token_here (keyword keywords.Struct) t us e, refl, m.2, fields_from ed (l + 1) i.0 m.1 i.2 i.4, i.6),
        omega (arith, fields_fit ed B (l + 1) i.0 (omega arith) i.5),
        i.7,
        refl,
      )

  -- and back
  pub named_forth : (next : TypeExpr → Reader) (t : Lexeme) (us ws : List Lexeme) (f : File) (p : Place) (n : Name) →
      IsType ed (named p n) (t ∷ us) ws → Means ed B (next (named p n)) ws f → Means ed B (behind_name next t) us f
  named_forth next t us ws f p n d m =
      let e = first_is kinds.Name t d.0 us ws d.1 in
      let first : t ≡ d.0 = e.0 in
      let place : p ≡ t.place = d.2 ∙ ap (λ (x : Lexeme). x.place) (sym first) in
      let text : n ≡ name_of t = d.3 ∙ ap name_of (sym first) in
      inr (led next (named t.place (name_of t)) (named p n) us ws f (cc (place, text)) e.1 m)

  pub qualified_forth : (next : TypeExpr → Reader) (t : Lexeme) (us ws : List Lexeme) (f : File) (p : Place) (o n : Name) →
      IsType ed (qualified p o n) (t ∷ us) ws → Means ed B (next (qualified p o n)) ws f → Means ed B (behind_name next t) us f
  qualified_forth next t us ws f p o n d m =
      let e = first_is kinds.Name t d.0 us d.3 d.5 in
      let first : t ≡ d.0 = e.0 in
      let place : p ≡ t.place = d.8 ∙ ap (λ (x : Lexeme). x.place) (sym first) in
      let text : o ≡ name_of t = d.9 ∙ ap name_of (sym first) in
      let other : n ≡ name_of d.2 = d.10 in
      inl (
        d.1,
        d.4,
        subst (λ x. Token period d.1 x d.4) (sym e.1) d.6,
        omega arith,
        (d.2, ws, d.7, omega arith, led next (qualified t.place (name_of t) (name_of d.2)) (qualified p o n) ws ws f (cc (place, text, other)) refl m),
      )

  pub array_forth : (l : ℕ) (next : TypeExpr → Reader) (t : Lexeme) (us ws : List Lexeme) (f : File) (p : Place) (x : Expression) (a : TypeExpr) →
      IsType ed (array p x a) (t ∷ us) ws → l + type_height (array p x a) ≤ B + 1 → Means ed B (next (array p x a)) ws f → Means ed B (behind_bracket l next t) us f
  array_forth l next t us ws f p x a d le m =
      let e = first_is opening_bracket t d.0 us d.2 d.5 in
      let first : t ≡ d.0 = e.0 in
      let place : p ≡ t.place = d.6 ∙ ap (λ (x : Lexeme). x.place) (sym first) in
      inr (
        x,
        d.3,
        subst (λ y. IsExpr ed 5 false x y d.3) (sym e.1) d.7,
        omega arith,
        (d.1, d.4, d.8, omega arith, (a, ws, d.9, omega arith, led next (array t.place x a) (array p x a) ws ws f (cc (place)) refl m)),
      )

  pub slice_forth : (l : ℕ) (next : TypeExpr → Reader) (t : Lexeme) (us ws : List Lexeme) (f : File) (p : Place) (a : TypeExpr) →
      IsType ed (slice p a) (t ∷ us) ws → l + type_height (slice p a) ≤ B + 1 → Means ed B (next (slice p a)) ws f → Means ed B (behind_bracket l next t) us f
  slice_forth l next t us ws f p a d le m =
      let e = first_is opening_bracket t d.0 us d.2 d.5 in
      let place : p ≡ t.place = d.6 ∙ ap (λ (x : Lexeme). x.place) (sym e.0) in
      inl (
        d.1,
        d.3,
        subst (λ y. Token closing_bracket d.1 y d.3) (sym e.1) d.7,
        omega arith,
        (a, ws, d.8, omega arith, led next (slice t.place a) (slice p a) ws ws f (cc (place)) refl m),
        d.4,
      )

  pub struct_forth : (l : ℕ) (next : TypeExpr → Reader) (t : Lexeme) (us ws : List Lexeme) (f : File) (p : Place) (fs : FieldDecls) →
      IsType ed (struct p fs) (t ∷ us) ws → l + type_height (struct p fs) ≤ B + 1 → Means ed B (next (struct p fs)) ws f → Means ed B (behind_struct l next t) us f
  struct_forth l next t us ws f p fs d le m =
      let e = first_is (keyword keywords.Struct) t d.0 us d.3 d.6 in
      let first : t ≡ d.0 = e.0 in
      let place : p ≡ t.place = d.7 ∙ ap (λ (x : Lexeme). x.place) (sym first) in
      let whole : pack_fields (unpack_fields fs) ≡ fs = packed_fields fs in (
        d.1,
        d.4,
        subst (λ y. Token opening_brace d.1 y d.4) (sym e.1) d.8,
        omega arith,
        (
          unpack_fields fs,
          d.2,
          d.5,
          ws,
          fields_to ed (l + 1) fs d.4 d.5 d.9,
          fit_fields ed B (l + 1) fs (omega arith),
          d.10,
          led next (struct t.place (pack_fields (unpack_fields fs))) (struct p fs) ws ws f (cc (place, whole)) refl m,
        ),
      )

  -- a move by the kind of the first token
  abbrev type_at : ℕ → Expected → (TypeExpr → Reader) → Lexeme → TokenKind → Move
  type_at l x next t k =
      cond (same kinds.Name k) (Take l (behind_name next t))
      (cond (same opening_bracket k) (Take (l + 1) (behind_bracket l next t))
      (cond (same (keyword keywords.Struct) k) (Take l (behind_struct l next t)) (Fail x)))

  type_by : (l : ℕ) (x : Expected) (next : TypeExpr → Reader) (t : Lexeme) (us : List Lexeme) (f : File) (k : TokenKind) → t.kind ≡ k →
      After ed B (type_at l x next t k) us f → After ed B (on_type l x next t) us f
  type_by l x next t us f k e a = subst (λ y. After ed B (type_at l x next t y) us f) (sym e) a

  named_type : (l : ℕ) (next : TypeExpr → Reader) (us : List Lexeme) (f : File) → Unnamed l next us f → Typed l next us f
  named_type l next us f r = (r.0, r.1, r.2, r.3, r.4)

  -- the state
  pub on_type_back : (l : ℕ) (x : Expected) (next : TypeExpr → Reader) (t : Lexeme) (us : List Lexeme) (f : File) →
      After ed B (on_type l x next t) us f → Typed l next (t ∷ us) f
  on_type_back l x next t us f a = elim (after_cond ed B (same kinds.Name t.kind) _ _ us f a) [
    | inl h ↦ behind_name_back l next t us f (are_same kinds.Name t.kind h.0) h.1.0 h.1.1
    | inr g ↦ elim (after_cond ed B (same opening_bracket t.kind) _ _ us f g.1) [
      | inl h ↦ named_type l next (t ∷ us) f (behind_bracket_back l next t us f (are_same opening_bracket t.kind h.0) h.1.1)
      | inr i ↦ elim (after_cond ed B (same (keyword keywords.Struct) t.kind) _ _ us f i.1) [
        | inl h ↦ named_type l next (t ∷ us) f (behind_struct_back l next t us f (are_same (keyword keywords.Struct) t.kind h.0) h.1.0 h.1.1)
        | inr h ↦ absurd h.1
      ]
    ]
  ]

  pub on_type_forth : (l : ℕ) (x : Expected) (next : TypeExpr → Reader) (t : Lexeme) (us : List Lexeme) (f : File) →
      Typed l next (t ∷ us) f → After ed B (on_type l x next t) us f
  on_type_forth l x next t us f m = by_type m.0 m.1 m.2 m.3 m.4
    where
      by_type : (a : TypeExpr) (ws : List Lexeme) → IsType ed a (t ∷ us) ws → l + type_height a ≤ B + 1 → Means ed B (next a) ws f →
          After ed B (on_type l x next t) us f
      by_type (named p n) ws d le m =
          type_by l x next t us f kinds.Name (first_is kinds.Name t d.0 us ws d.1).2 (omega arith, named_forth next t us ws f p n d m)
      by_type (qualified p o n) ws d le m =
          type_by l x next t us f kinds.Name (first_is kinds.Name t d.0 us d.3 d.5).2 (omega arith, qualified_forth next t us ws f p o n d m)
      by_type (array p e a) ws d le m =
          type_by l x next t us f opening_bracket (first_is opening_bracket t d.0 us d.2 d.5).2
          (omega (arith, height_positive e), array_forth l next t us ws f p e a d le m)
      by_type (slice p a) ws d le m =
          type_by l x next t us f opening_bracket (first_is opening_bracket t d.0 us d.2 d.5).2
          (omega (arith, type_height_positive a), slice_forth l next t us ws f p a d le m)
      by_type (struct p fs) ws d le m =
          type_by l x next t us f (keyword keywords.Struct) (first_is (keyword keywords.Struct) t d.0 us d.3 d.6).2
          (omega arith, struct_forth l next t us ws f p fs d le m)

  -- what is due behind the first token is good
  pub behind_name_good : (l : ℕ) (x : Expected) (next : TypeExpr → Reader) (t : Lexeme) → l ≤ B → Okay ed B (type l x next) → Good ed B (behind_name next t)
  behind_name_good l x next t le ok = (
    inl (omega arith),
    (
      (λ d k z. (omega arith, λ s i z'. ok.0 (qualified t.place (name_of t) (name_of s)) (omega arith))),
      (ok.0 (named t.place (name_of t)) (omega arith)).1,
      ok.1 (named t.place (name_of t)),
    ),
  )

  pub behind_bracket_good : (l : ℕ) (x : Expected) (next : TypeExpr → Reader) (t : Lexeme) → l + 1 ≤ B → Okay ed B (type l x next) →
      Good ed B (behind_bracket l next t)
  behind_bracket_good l x next t le ok = (
    le,
    (
      (λ c k z. (le, ((λ a fits. ok.0 (slice t.place a) (omega arith)), λ a. ok.1 (slice t.place a)))),
      (
        (λ e fits. (omega arith, λ c k z. (le, ((λ a fits'. ok.0 (array t.place e a) (omega arith)), λ a. ok.1 (array t.place e a))))),
        ends_if ed B 5 false _ (λ e k b. let same_kind : k ≡ closing_bracket = are_same closing_bracket k b in
            (ap (is_tail false) same_kind, ap binary_of same_kind)),
      ),
      refl,
    ),
  )

  pub behind_struct_good : (l : ℕ) (x : Expected) (next : TypeExpr → Reader) (t : Lexeme) → l ≤ B → Okay ed B (type l x next) → Good ed B (behind_struct l next t)
  behind_struct_good l x next t le ok = (
    omega arith,
    λ o k z. (tt, (omega arith, tt, λ is c fits. ok.0 (struct t.place (pack_fields is)) (omega (arith, fields_fit ed B (l + 1) is (omega arith) fits)))),
  )

  pub on_type_kept : (l : ℕ) (x : Expected) (next : TypeExpr → Reader) (t : Lexeme) → Okay ed B (type l x next) → Kept ed B (on_type l x next t)
  on_type_kept l x next t ok =
      kept_cond ed B (same kinds.Name t.kind) _ _ (λ e le. behind_name_good l x next t le ok) (λ e.
      kept_cond ed B (same opening_bracket t.kind) _ _ (λ e le. behind_bracket_good l x next t le ok) (λ e.
      kept_cond ed B (same (keyword keywords.Struct) t.kind) _ _ (λ e le. behind_struct_good l x next t le ok) (λ e. tt)))

  pub type_back : (l : ℕ) (x : Expected) (next : TypeExpr → Reader) (t : Lexeme) (us : List Lexeme) (f : File) →
      After ed B (parser_step ed (type l x next) t) us f → Means ed B (type l x next) (t ∷ us) f
  type_back = on_type_back

  pub type_forth : (l : ℕ) (x : Expected) (next : TypeExpr → Reader) (t : Lexeme) (us : List Lexeme) (f : File) →
      Means ed B (type l x next) (t ∷ us) f → After ed B (parser_step ed (type l x next) t) us f
  type_forth = on_type_forth

  pub type_kept : (l : ℕ) (x : Expected) (next : TypeExpr → Reader) (t : Lexeme) → Okay ed B (type l x next) → Kept ed B (parser_step ed (type l x next) t)
  type_kept = on_type_kept

  pub type_begins : (l : ℕ) (x : Expected) (next : TypeExpr → Reader) (t : Lexeme) (us : List Lexeme) (f : File) →
      Means ed B (type l x next) (t ∷ us) f → begins (type l x next) t.kind ≡ true
  type_begins l x next t us f m = type_first ed m.0 t us m.1 m.2

  pub type_comes : (l : ℕ) (x : Expected) (next : TypeExpr → Reader) → l ≤ B → ((a : TypeExpr) → l + type_height a ≤ B + 1 → Comes ed B (next a)) →
      Comes ed B (type l x next)
  type_comes l x next le on =
      let t = a_token kinds.Name in
      let a = named t.place (name_of t) in
      let c = on a (omega arith) in
      (t ∷ c.0, c.1, (a, c.0, (t, token_first kinds.Name c.0, refl, refl), omega arith, c.2))

  pub type_over : (l : ℕ) (x : Expected) (next : TypeExpr → Reader) (f : File) → Means ed B (type l x next) [] f → ⊥
  type_over l x next f m = type_never ed m.0 m.1 m.2
