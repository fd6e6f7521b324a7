-- A token of a kind, which may be missing, and the end of the file.
use Rattle.std.proofs.Common.{◌≡◌, ◌≢◌, ℕ, inl, inr, Bool, true, false, ◌&&◌, List, [], ◌∷◌, refl, sym, ap, ◌∙◌, subst, arith}
use Rattle.std.specs.Prelude.{not, codes}
use Rattle.std.specs.Str.{bytes_eq}
use Rattle.go_text.specs.declared.edition.Edition.{Edition}
use Rattle.go_scan.specs.declared.token.TokenKind.{TokenKind}
use Rattle.go_scan.specs.declared.token.TokenKind.TheVariants as kinds
use Rattle.go_ast.specs.Kinds.{same}
use Rattle.go_ast.specs.Literals.{string_value}
use Rattle.go_ast.specs.Expected.{Expected, another}
use Rattle.go_ast.specs.Trees.{File}
use Rattle.go_ast.specs.Grammar.{Lexeme, Token}
use Rattle.go_ast.specs.Machine.{Reader, ended, token, package_name, import_path, optional, Take, Fail, is_string_token, parser_step}
use Rattle.go_ast.proofs.Same.{bytes_same, bytes_differ, are_same, is_same}
use Rattle.go_ast.proofs.Means.{Means, begins, Okay, Good, After, Kept}
use Rattle.go_ast.proofs.Base.{false_true, both_true, left_true, right_true, cond_true, after_cond, kept_cond, after_same, after_other, token_here, first_is, both_are}

-- texts
pub other_text : (a b : List ℕ) → not (bytes_eq a b) ≡ true → a ≡ b → ⊥
other_text a b e q = let wrong : false ≡ true = ap not (sym (bytes_same a b q)) ∙ e in false_true wrong

pub no_text : (a b : List ℕ) → (a ≡ b → ⊥) → not (bytes_eq a b) ≡ true
no_text a b never = ap not (bytes_differ a b never)

-- a token with no text of its own
abbrev pub a_token : TokenKind → Lexeme
a_token k = record { kind = k; text = []; place = record { line = 0; column = 0 } }

-- a path that may be imported
abbrev pub a_path : Lexeme
a_path = record { kind = kinds.String; text = codes "\"\""; place = record { line = 0; column = 0 } }

pub path_allowed : string_value a_path.text ≢ codes "C"
unfolding string_value
path_allowed e = cc (e)

-- what holds behind a first token
pub at_first : (k : TokenKind) (t u : Lexeme) (us ws : List Lexeme) (P : Lexeme → List Lexeme → Type 0) → Token k u (t ∷ us) ws → P u ws → P t us
at_first k t u us ws P h p = let e = first_is k t u us ws h in subst (λ x. P x us) (sym e.0) (subst (λ xs. P u xs) (sym e.1) p)

pub kind_here : (k : TokenKind) (t u : Lexeme) (us ws : List Lexeme) → Token k u (t ∷ us) ws → t.kind ≡ k
kind_here k t u us ws h = (first_is k t u us ws h).2

pub same_here : (k : TokenKind) (t u : Lexeme) (us ws : List Lexeme) → Token k u (t ∷ us) ws → same k t.kind ≡ true
same_here k t u us ws h = is_same k t.kind (kind_here k t u us ws h)

pub no_token : (k : TokenKind) (u : Lexeme) (ws : List Lexeme) → Token k u [] ws → ⊥
no_token k u ws h = let e : [] ≡ u ∷ ws = h.whole in cc (e)

pub none_left : (t : Lexeme) (us : List Lexeme) → t ∷ us ≡ [] → ⊥
none_left t us e = cc (e)

-- the names of a package and the paths of imports
abbrev pub is_package : Lexeme → Bool
is_package t = same kinds.Name t.kind && not (bytes_eq t.text (codes "_"))

pub package_is : (t : Lexeme) → is_package t ≡ true → (t.kind ≡ kinds.Name) × (t.text ≢ codes "_")
package_is t e =
    let h = both_true (same kinds.Name t.kind) (not (bytes_eq t.text (codes "_"))) e in
    (are_same kinds.Name t.kind h.0, other_text t.text (codes "_") h.1)

pub is_a_package : (t : Lexeme) → t.kind ≡ kinds.Name → t.text ≢ codes "_" → is_package t ≡ true
is_a_package t e ne = both_are (same kinds.Name t.kind) (not (bytes_eq t.text (codes "_"))) (is_same kinds.Name t.kind e) (no_text t.text (codes "_") ne)

pub string_is : (t : Lexeme) → is_string_token (codes "C") t ≡ true → (t.kind ≡ kinds.String) × (string_value t.text ≢ codes "C")
string_is t e =
    let h = both_true (same kinds.String t.kind) (not (bytes_eq (string_value t.text) (codes "C"))) e in
    (are_same kinds.String t.kind h.0, other_text (string_value t.text) (codes "C") h.1)

pub is_a_string : (t : Lexeme) → t.kind ≡ kinds.String → string_value t.text ≢ codes "C" → is_string_token (codes "C") t ≡ true
is_a_string t e ne =
    both_are (same kinds.String t.kind) (not (bytes_eq (string_value t.text) (codes "C"))) (is_same kinds.String t.kind e)
    (no_text (string_value t.text) (codes "C") ne)

module _ (ed : Edition) (B : ℕ) where
  -- a token of a kind
  pub token_back : (kind : TokenKind) (need : ℕ) (x : Expected) (next : Lexeme → Reader) (t : Lexeme) (us : List Lexeme) (f : File) →
      After ed B (parser_step ed (token kind need x next) t) us f → Means ed B (token kind need x next) (t ∷ us) f
  token_back kind need x next t us f a = elim (after_cond ed B (same kind t.kind) (Take need (next t)) (Fail x) us f a) [
    | inl h ↦ (t, us, token_here kind t us (are_same kind t.kind h.0), h.1.0, h.1.1)
    | inr h ↦ absurd h.1
  ]

  pub token_forth : (kind : TokenKind) (need : ℕ) (x : Expected) (next : Lexeme → Reader) (t : Lexeme) (us : List Lexeme) (f : File) →
      Means ed B (token kind need x next) (t ∷ us) f → After ed B (parser_step ed (token kind need x next) t) us f
  token_forth kind need x next t us f m =
      after_same ed B kind t (Take need (next t)) (Fail x) us f (kind_here kind t m.0 us m.1 m.2)
      (m.3, at_first kind t m.0 us m.1 (λ u xs. Means ed B (next u) xs f) m.2 m.4)

  pub token_kept : (kind : TokenKind) (need : ℕ) (x : Expected) (next : Lexeme → Reader) (t : Lexeme) → Okay ed B (token kind need x next) →
      Kept ed B (parser_step ed (token kind need x next) t)
  token_kept kind need x next t ok = kept_cond ed B (same kind t.kind) (Take need (next t)) (Fail x) (λ e le. ok t (are_same kind t.kind e) le) (λ e. tt)

  pub token_first : (kind : TokenKind) (need : ℕ) (x : Expected) (next : Lexeme → Reader) (t : Lexeme) (us : List Lexeme) (f : File) →
      Means ed B (token kind need x next) (t ∷ us) f → begins (token kind need x next) t.kind ≡ true
  token_first kind need x next t us f m = same_here kind t m.0 us m.1 m.2

  pub token_comes : (kind : TokenKind) (need : ℕ) (x : Expected) (next : Lexeme → Reader) → Good ed B (token kind need x next) →
      ((t : Lexeme) → Good ed B (next t) → (us : List Lexeme) × (f : File) × Means ed B (next t) us f) →
      (us : List Lexeme) × (f : File) × Means ed B (token kind need x next) us f
  token_comes kind need x next ok go =
      let t = a_token kind in
      let r = go t (ok.1 t refl ok.0) in
      (t ∷ r.0, r.1, (t, r.0, token_here kind t r.0 refl, ok.0, r.2))

  -- the name of a package
  pub package_name_back : (next : Lexeme → Reader) (t : Lexeme) (us : List Lexeme) (f : File) →
      After ed B (parser_step ed (package_name next) t) us f → Means ed B (package_name next) (t ∷ us) f
  package_name_back next t us f a = elim (after_cond ed B (is_package t) (Take 0 (next t)) (Fail another) us f a) [
    | inl h ↦ (let p = package_is t h.0 in (t, us, token_here kinds.Name t us p.0, p.1, h.1.1))
    | inr h ↦ absurd h.1
  ]

  pub package_name_forth : (next : Lexeme → Reader) (t : Lexeme) (us : List Lexeme) (f : File) →
      Means ed B (package_name next) (t ∷ us) f → After ed B (parser_step ed (package_name next) t) us f
  package_name_forth next t us f m =
      let ne : t.text ≢ codes "_" = at_first kinds.Name t m.0 us m.1 (λ u xs. u.text ≢ codes "_") m.2 m.3 in
      let go : After ed B (Take 0 (next t)) us f = (omega arith, at_first kinds.Name t m.0 us m.1 (λ u xs. Means ed B (next u) xs f) m.2 m.4) in
      subst (λ y. After ed B y us f)
      (sym (cond_true (is_package t) (Take 0 (next t)) (Fail another) (is_a_package t (kind_here kinds.Name t m.0 us m.1 m.2) ne))) go

  pub package_name_kept : (next : Lexeme → Reader) (t : Lexeme) → Okay ed B (package_name next) → Kept ed B (parser_step ed (package_name next) t)
  package_name_kept next t ok = kept_cond ed B (is_package t) (Take 0 (next t)) (Fail another) (λ e le. ok t) (λ e. tt)

  pub package_name_first : (next : Lexeme → Reader) (t : Lexeme) (us : List Lexeme) (f : File) → Means ed B (package_name next) (t ∷ us) f →
      begins (package_name next) t.kind ≡ true
  package_name_first next t us f m = same_here kinds.Name t m.0 us m.1 m.2

  pub package_name_comes : (next : Lexeme → Reader) → Good ed B (package_name next) →
      ((t : Lexeme) → Good ed B (next t) → (us : List Lexeme) × (f : File) × Means ed B (next t) us f) →
      (us : List Lexeme) × (f : File) × Means ed B (package_name next) us f
  package_name_comes next ok go =
      let t = a_token kinds.Name in
      let r = go t (ok.1 t) in
      (t ∷ r.0, r.1, (t, r.0, token_here kinds.Name t r.0 refl, λ e. cc (e), r.2))

  -- the path of an import
  pub import_path_back : (x : Expected) (next : Lexeme → Reader) (t : Lexeme) (us : List Lexeme) (f : File) →
      After ed B (parser_step ed (import_path x next) t) us f → Means ed B (import_path x next) (t ∷ us) f
  import_path_back x next t us f a = elim (after_cond ed B (is_string_token (codes "C") t) (Take 0 (next t)) (Fail x) us f a) [
    | inl h ↦ (let p = string_is t h.0 in (t, us, token_here kinds.String t us p.0, p.1, h.1.1))
    | inr h ↦ absurd h.1
  ]

  pub import_path_forth : (x : Expected) (next : Lexeme → Reader) (t : Lexeme) (us : List Lexeme) (f : File) →
      Means ed B (import_path x next) (t ∷ us) f → After ed B (parser_step ed (import_path x next) t) us f
  import_path_forth x next t us f m =
      let ne : string_value t.text ≢ codes "C" = at_first kinds.String t m.0 us m.1 (λ u xs. string_value u.text ≢ codes "C") m.2 m.3 in
      let go : After ed B (Take 0 (next t)) us f = (omega arith, at_first kinds.String t m.0 us m.1 (λ u xs. Means ed B (next u) xs f) m.2 m.4) in
      subst (λ y. After ed B y us f)
      (sym (cond_true (is_string_token (codes "C") t) (Take 0 (next t)) (Fail x) (is_a_string t (kind_here kinds.String t m.0 us m.1 m.2) ne))) go

  pub import_path_kept : (x : Expected) (next : Lexeme → Reader) (t : Lexeme) → Okay ed B (import_path x next) → Kept ed B (parser_step ed (import_path x next) t)
  import_path_kept x next t ok = kept_cond ed B (is_string_token (codes "C") t) (Take 0 (next t)) (Fail x) (λ e le. ok t) (λ e. tt)

  pub import_path_first : (x : Expected) (next : Lexeme → Reader) (t : Lexeme) (us : List Lexeme) (f : File) →
      Means ed B (import_path x next) (t ∷ us) f → begins (import_path x next) t.kind ≡ true
  import_path_first x next t us f m = same_here kinds.String t m.0 us m.1 m.2

  pub import_path_comes : (x : Expected) (next : Lexeme → Reader) → Good ed B (import_path x next) →
      ((t : Lexeme) → Good ed B (next t) → (us : List Lexeme) × (f : File) × Means ed B (next t) us f) →
      (us : List Lexeme) × (f : File) × Means ed B (import_path x next) us f
  import_path_comes x next ok go =
      let t = a_path in
      let r = go t (ok.1 t) in
      (t ∷ r.0, r.1, (t, r.0, token_here kinds.String t r.0 refl, path_allowed, r.2))

  -- a token that may be missing
  pub optional_back : (kind : TokenKind) (need : ℕ) (some : Lexeme → Reader) (none : Reader) (t : Lexeme) (us : List Lexeme) (f : File) →
      (After ed B (parser_step ed none t) us f → Means ed B none (t ∷ us) f) → After ed B (parser_step ed (optional kind need some none) t) us f →
      Means ed B (optional kind need some none) (t ∷ us) f
  optional_back kind need some none t us f behind a = elim (after_cond ed B (same kind t.kind) (Take need (some t)) (parser_step ed none t) us f a) [
    | inl h ↦ inl (t, us, token_here kind t us (are_same kind t.kind h.0), h.1.0, h.1.1)
    | inr h ↦ inr (behind h.1)
  ]

  pub optional_forth : (kind : TokenKind) (need : ℕ) (some : Lexeme → Reader) (none : Reader) (t : Lexeme) (us : List Lexeme) (f : File) →
      (Means ed B none (t ∷ us) f → After ed B (parser_step ed none t) us f) → (Means ed B none (t ∷ us) f → begins none t.kind ≡ true) → begins none kind ≡ false →
      Means ed B (optional kind need some none) (t ∷ us) f → After ed B (parser_step ed (optional kind need some none) t) us f
  optional_forth kind need some none t us f behind first other_kind (inl m) =
      after_same ed B kind t (Take need (some t)) (parser_step ed none t) us f (kind_here kind t m.0 us m.1 m.2)
      (m.3, at_first kind t m.0 us m.1 (λ u xs. Means ed B (some u) xs f) m.2 m.4)
  optional_forth kind need some none t us f behind first other_kind (inr m) =
      after_other ed B kind t (Take need (some t)) (parser_step ed none t) us f (by_test (same kind t.kind) refl) (behind m)
    where
      by_test : (c : Bool) → same kind t.kind ≡ c → c ≡ false
      by_test false e = refl
      by_test true e = absurd (false_true (sym other_kind ∙ ap (λ k. begins none k) (sym (are_same kind t.kind e)) ∙ first m))

  pub optional_kept : (kind : TokenKind) (need : ℕ) (some : Lexeme → Reader) (none : Reader) (t : Lexeme) → Okay ed B (optional kind need some none) →
      Kept ed B (parser_step ed none t) → Kept ed B (parser_step ed (optional kind need some none) t)
  optional_kept kind need some none t ok behind =
      kept_cond ed B (same kind t.kind) (Take need (some t)) (parser_step ed none t) (λ e le. ok.0 t (are_same kind t.kind e) le) (λ e. behind)

  pub optional_first : (kind : TokenKind) (need : ℕ) (some : Lexeme → Reader) (none : Reader) (t : Lexeme) (us : List Lexeme) (f : File) →
      (Means ed B none (t ∷ us) f → begins none t.kind ≡ true) → Means ed B (optional kind need some none) (t ∷ us) f →
      begins (optional kind need some none) t.kind ≡ true
  optional_first kind need some none t us f first (inl m) = left_true (same kind t.kind) (begins none t.kind) (same_here kind t m.0 us m.1 m.2)
  optional_first kind need some none t us f first (inr m) = right_true (same kind t.kind) (begins none t.kind) (first m)

  pub optional_comes : (kind : TokenKind) (need : ℕ) (some : Lexeme → Reader) (none : Reader) → Good ed B (optional kind need some none) →
      ((t : Lexeme) → Good ed B (some t) → (us : List Lexeme) × (f : File) × Means ed B (some t) us f) →
      (Good ed B none → (us : List Lexeme) × (f : File) × Means ed B none us f) → (us : List Lexeme) × (f : File) × Means ed B (optional kind need some none) us f
  optional_comes kind need some none ok go behind = elim ok.0 [
    | inl le ↦ (let t = a_token kind in
        let r = go t (ok.1.0 t refl le) in
        (t ∷ r.0, r.1, inl (t, r.0, token_here kind t r.0 refl, le, r.2)))
    | inr can ↦ (let r = behind (can, ok.1.1) in (r.0, r.1, inr r.2))
  ]

  -- the end
  pub ended_forth : (g : File) (t : Lexeme) (us : List Lexeme) (f : File) → Means ed B (ended g) (t ∷ us) f → ⊥
  ended_forth g t us f m = none_left t us m.0

  pub ended_comes : (g : File) → (us : List Lexeme) × (f : File) × Means ed B (ended g) us f
  ended_comes g = ([], g, (refl, refl))
