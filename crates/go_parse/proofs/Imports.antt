-- Steps at the name of a package and at import paths.
use Rattle.std.proofs.Common.{◌≡◌, ℕ, Bool, true, false, List, [], ◌∷◌, refl, sym, ap, ◌∙◌}
use Rattle.std.specs.Prelude.{◌&&◌, not, codes}
use Rattle.std.specs.Str.{bytes_eq}
use Rattle.std.proofs.lemmas.Slice.Eq.{bytes_eq-Decides}
use Rattle.go_text.specs.declared.edition.Edition.{Edition}
use Rattle.go_text.specs.declared.place.Place.{Place}
use Rattle.go_scan.specs.declared.token.TokenKind.TheVariants as kinds
use Rattle.go_ast.specs.Kinds.{same}
use Rattle.go_ast.specs.Literals.{string_value}
use Rattle.go_ast.specs.Expected.{Expected, another}
use Rattle.go_ast.specs.Grammar.{Lexeme}
use Rattle.go_ast.specs.Machine.{Reader, token, package_name, import_path, Take, Fail, cond, Refused, run_parser}
use Rattle.go_ast.proofs.Same.{not_same}
use Rattle.go_pexpr.specs.Reads.{First, fault_of}
use Rattle.go_pexpr.proofs.Steps.{refuses, end_refuses}
use Rattle.go_pstmt.proofs.Steps.{Kind, same_step, same_other}

never_both : (b : Bool) → (b && false) ≡ false
never_both false = refl
never_both true = refl

itself : (b : Bool) → (b && true) ≡ b
itself false = refl
itself true = refl

differs : (xs ys : List ℕ) → (xs ≡ ys → ⊥) → bytes_eq xs ys ≡ false
differs xs ys never = by_test (bytes_eq xs ys) refl
  where
    by_test : (b : Bool) → bytes_eq xs ys ≡ b → b ≡ false
    by_test false e = refl
    by_test true e = absurd (never ((bytes_eq-Decides xs ys).0 e))

-- the name of a package isn't `_`
pub package_blank : (ed : Edition) → (next : Lexeme → Reader) (ts : List Lexeme) → First (λ t. t.text ≡ codes "_") ts → run_parser ed 250 (package_name next) ts ≡ Refused (fault_of another ts) ts
package_blank ed next [] h = absurd h
package_blank ed next (t ∷ ts) h = refuses ed (package_name next) another t ts (
    ap (λ b. cond (same kinds.Name t.kind && not b) (Take 0 (next t)) (Fail another)) ((bytes_eq-Decides t.text (codes "_")).1 h)
    ∙ ap (λ b. cond b (Take 0 (next t)) (Fail another)) (never_both (same kinds.Name t.kind)))

pub package_named : (ed : Edition) → (next : Lexeme → Reader) (ts : List Lexeme) → (First (λ t. t.text ≡ codes "_") ts → ⊥) → run_parser ed 250 (package_name next) ts ≡ run_parser ed 250 (token kinds.Name 0 another next) ts
package_named ed next ts never = same_other ed (λ t. t.text ≡ codes "_") (package_name next) (token kinds.Name 0 another next) ts never (λ t other.
    ap (λ b. cond (same kinds.Name t.kind && not b) (Take 0 (next t)) (Fail another)) (differs t.text (codes "_") other)
    ∙ ap (λ b. cond b (Take 0 (next t)) (Fail another)) (itself (same kinds.Name t.kind))) refl

-- an import path is a string literal
pub no_path : (ed : Edition) → (x : Expected) (next : Lexeme → Reader) (ts : List Lexeme) → (First (Kind kinds.String) ts → ⊥) → run_parser ed 250 (import_path x next) ts ≡ Refused (fault_of x ts) ts
no_path ed x next [] never = end_refuses ed (import_path x next) refl
no_path ed x next (t ∷ ts) never = refuses ed (import_path x next) x t ts (
    ap (λ b. cond (b && not (bytes_eq (string_value t.text) (codes "C"))) (Take 0 (next t)) (Fail x)) (not_same kinds.String t.kind never))

-- and isn't `C`
pub path_c : (ed : Edition) → (x : Expected) (next : Lexeme → Reader) (v : List ℕ) (ts : List Lexeme) → First (λ t. v ≡ string_value t.text) ts → v ≡ codes "C" → run_parser ed 250 (import_path x next) ts ≡ Refused (fault_of x ts) ts
path_c ed x next v [] h e = absurd h
path_c ed x next v (t ∷ ts) h e = refuses ed (import_path x next) x t ts (
    ap (λ b. cond (same kinds.String t.kind && not b) (Take 0 (next t)) (Fail x)) ((bytes_eq-Decides (string_value t.text) (codes "C")).1 (sym h ∙ e))
    ∙ ap (λ b. cond b (Take 0 (next t)) (Fail x)) (never_both (same kinds.String t.kind)))

pub path_means : (ed : Edition) → (x : Expected) (next : List ℕ → Place → Reader) (v : List ℕ) (ts : List Lexeme) → First (λ t. v ≡ string_value t.text) ts → (v ≡ codes "C" → ⊥) → run_parser ed 250 (import_path x (λ t. next (string_value t.text) t.place)) ts ≡ run_parser ed 250 (token kinds.String 0 x (λ t. next v t.place)) ts
path_means ed x next v [] h never = absurd h
path_means ed x next v (t ∷ ts) h never = same_step ed (import_path x (λ s. next (string_value s.text) s.place)) (token kinds.String 0 x (λ s. next v s.place)) t ts (
    ap (λ b. cond (same kinds.String t.kind && not b) (Take 0 (next (string_value t.text) t.place)) (Fail x)) (differs (string_value t.text) (codes "C") (λ e. never (h ∙ e)))
    ∙ ap (λ b. cond b (Take 0 (next (string_value t.text) t.place)) (Fail x)) (itself (same kinds.String t.kind))
    ∙ ap (λ w. cond (same kinds.String t.kind) (Take 0 (next w t.place)) (Fail x)) (sym h))
