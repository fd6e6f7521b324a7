-- Steps between what a file imports and declares, and at its end.
use Rattle.std.proofs.Common.{◌≡◌, true, false, List, [], ◌∷◌, ◌++◌, map, Option, Result, Ok, Err, IfErr, refl, sym, ap, ◌∙◌}
use Rattle.std.specs.Prelude.{is_some, IsErrAnd}
use Rattle.go_text.specs.declared.edition.Edition.{Edition}
use Rattle.go_scan.specs.declared.token.TokenKind.{TokenKind}
use Rattle.go_ast.specs.Expected.{another}
use Rattle.go_ast.specs.Trees.{Name, ImportSpec, TopLevel, File}
use Rattle.go_ast.specs.Grammar.{Lexeme, semicolon, concat}
use Rattle.go_ast.specs.Machine.{Reader, token, read_imports, import_end, decls_at, decl_end, ended, Done, Refused, run_parser}
use Rattle.go_pexpr.specs.declared.parser.Parser.{Parser}
use Rattle.go_pexpr.specs.declared.parser.Refusal.{Refusal}
use Rattle.go_pexpr.specs.declared.parser.Refusal.TheVariants.{Memory, Wrong}
use Rattle.go_pexpr.specs.Reads.{Reads, Failing, Says, first_kind, fault_of, left}
use Rattle.go_pexpr.proofs.Steps.{refuses}
use Rattle.go_pexpr.proofs.Reading.{then_fails}
use Rattle.go_pstmt.proofs.Steps.{same_state}

append_assoc : {A : Type 0} (xs ys zs : List A) → xs ++ (ys ++ zs) ≡ (xs ++ ys) ++ zs
append_assoc [] ys zs = refl
append_assoc (x ∷ xs) ys zs = ap (λ ws. x ∷ ws) (append_assoc xs ys zs)

append_none : {A : Type 0} (xs : List A) → xs ++ [] ≡ xs
append_none [] = refl
append_none (x ∷ xs) = ap (λ ws. x ∷ ws) (append_none xs)

concat_end : {A : Type 0} (xss : List (List A)) (xs : List A) → concat (xss ++ xs ∷ []) ≡ concat xss ++ xs
concat_end [] xs = append_none xs
concat_end (ys ∷ xss) xs = ap (λ zs. ys ++ zs) (concat_end xss xs) ∙ append_assoc ys (concat xss) xs

map_append : {A B : Type 0} (f : A → B) (xs ys : List A) → map f (xs ++ ys) ≡ map f xs ++ map f ys
map_append f [] ys = refl
map_append f (x ∷ xs) ys = ap (λ zs. f x ∷ zs) (map_append f xs ys)

-- the lists that were read, and one that is read behind them, are what stands in one list
pub joined : {A B : Type 0} (f : A → B) (xss : List (List B)) (xs ys zs : List A) → concat xss ≡ map f xs → zs ≡ xs ++ ys → concat (xss ++ map f ys ∷ []) ≡ map f zs
joined f xss xs ys zs e is = concat_end xss (map f ys) ∙ ap (λ ws. ws ++ map f ys) e ∙ sym (map_append f xs ys) ∙ ap (map f) (sym is)

-- behind an import and a declaration a semicolon is due
pub behind_import : (ed : Edition) → (p : Name) (iss : List (List ImportSpec)) (ts : List Lexeme) → run_parser ed 250 (import_end p iss) ts ≡ run_parser ed 250 (token semicolon 0 another (λ _. read_imports p iss)) ts
behind_import ed p iss ts = same_state ed (import_end p iss) (token semicolon 0 another (λ _. read_imports p iss)) ts (λ t. refl) refl

pub behind_declaration : (ed : Edition) → (p : Name) (is : List ImportSpec) (ds : List TopLevel) (ts : List Lexeme) → run_parser ed 250 (decl_end p is ds) ts ≡ run_parser ed 250 (token semicolon 0 another (λ _. decls_at p is ds)) ts
behind_declaration ed p is ds ts = same_state ed (decl_end p is ds) (token semicolon 0 another (λ _. decls_at p is ds)) ts (λ t. refl) refl

-- the end, and what may not stand there
pub ends : (ed : Edition) → (f : File) (o : Option TokenKind) (ts : List Lexeme) → o ≡ first_kind ts → is_some o ≡ false → run_parser ed 250 (ended f) ts ≡ Done f
unfolding run_parser
ends ed f o [] e none = refl
ends ed f o (t ∷ ts) e none = absurd (never (sym (ap is_some e) ∙ none))
  where
    never : true ≡ false → ⊥
    never h = cc (h)

not_ended : (ed : Edition) → (f : File) (o : Option TokenKind) (ts : List Lexeme) → o ≡ first_kind ts → is_some o ≡ true → run_parser ed 250 (ended f) ts ≡ Refused (fault_of another ts) ts
not_ended ed f o [] e some = absurd (never (sym (ap is_some e) ∙ some))
  where
    never : false ≡ true → ⊥
    never h = cc (h)
not_ended ed f o (t ∷ ts) e some = refuses ed (ended f) another t ts refl

pub refused_end : (before : Reader) (old new : Parser) (r : Refusal) (f : File) (o : Option TokenKind) →
    run_parser old.edition 250 before (left old) ≡ run_parser new.edition 250 (ended f) (left new) → o ≡ first_kind (left new) → is_some o ≡ true → Says (fault_of another (left new)) r → Failing r before old new
refused_end before old new Memory f o went e some says = absurd says
refused_end before old new (Wrong x) f o went e some says = went ∙ not_ended new.edition f o (left new) e some ∙ ap (λ n. Refused n (left new)) (sym says)

-- a call that failed, where the function came
failed : {A : Type 0} {before : Reader} {after : A → Reader} {old new : Parser} (r : Result A Refusal) → Reads before after old r new → IfErr r (λ e. Failing e before old new)
failed (Ok a) d = tt
failed (Err e) d = d.by

pub then_stops : {A B : Type 0} (before : Reader) {mid : Reader} {after_call : B → Reader} (old : Parser) {at new : Parser} (r : Result A Refusal) {e : Refusal} →
    run_parser old.edition 250 before (left old) ≡ run_parser at.edition 250 mid (left at) → Reads {A = B} mid after_call at (Err e) new → IsErrAnd r (λ y. y ≡ e) → IfErr r (λ y. Failing y before old new)
then_stops before old r went d h = failed {after = λ _. before} r (then_fails went d h)
