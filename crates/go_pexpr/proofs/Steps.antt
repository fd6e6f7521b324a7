-- Steps of the machine.
use Rattle.std.proofs.Common.{◌≡◌, ℕ, ◌-◌, ◌≤◌, ◌<◌, Bool, true, false, List, [], ◌∷◌, length, take, drop, Some, None, refl, sym, ap, ◌∙◌, subst, arith}
use Rattle.std.specs.Prelude.{nat_le, slice_index_or}
use Rattle.std.proofs.lemmas.List.{take_rest}
use Rattle.std.proofs.lemmas.Bool.Decides.{nat_tests}
use Rattle.go_text.specs.declared.edition.Edition.{Edition}
use Rattle.go_text.specs.Editions.{has_slices}
use Rattle.go_scan.specs.declared.token.TokenKind.{TokenKind}
use Rattle.go_text.specs.declared.place.Place.{Place}
use Rattle.go_ast.specs.Expected.{Expected, fault_at}
use Rattle.go_ast.specs.Kinds.{same}
use Rattle.go_ast.specs.Grammar.{Lexeme}
use Rattle.go_ast.specs.Machine.{Reader, token, optional, newer, Move, Take, Fail, cond, parser_step, final, Refused, at_end, by_level, by_move, run_parser}
use Rattle.go_ast.proofs.Same.{are_same, is_same, not_same}
use Rattle.go_pexpr.specs.Reads.{First, Refusing, first_kind, fault_of}

abbrev pub Kind : TokenKind → Lexeme → Type 0
Kind k t = t.kind ≡ k

-- a list that isn't empty: its first and the rest, as code takes them
pub first_and_rest : {X : Type 0} (xs : List X) (d : X) → 1 ≤ length xs → xs ≡ slice_index_or xs 0 d ∷ take (length xs - 1) (drop 1 xs)
first_and_rest [] d le = absurd (omega arith)
first_and_rest (x ∷ xs) d le = ap (λ ys. x ∷ ys) (sym (take_rest (x ∷ xs) 1))

pub empty_list : {X : Type 0} (xs : List X) → length xs < 1 → xs ≡ []
empty_list [] lt = refl
empty_list (x ∷ xs) lt = absurd (omega arith)

le_test : (m n : ℕ) → m ≤ n → nat_le m n ≡ true
le_test m n h = grind (arith, nat_tests)

gt_test : (m n : ℕ) → n < m → nat_le m n ≡ false
gt_test m n h = grind (arith, nat_tests)

-- a token is taken, or is too deep, or may not come
pub takes : (ed : Edition) → (s r : Reader) (need : ℕ) (t : Lexeme) (ts : List Lexeme) → parser_step ed s t ≡ Take need r → need ≤ 250 → run_parser ed 250 s (t ∷ ts) ≡ run_parser ed 250 r ts
unfolding run_parser
takes ed s r need t ts e h =
    ap (by_move 250 (λ q. run_parser ed 250 q ts) t.kind (t ∷ ts)) e ∙ ap (λ x. by_level x (run_parser ed 250 r ts) (t ∷ ts)) (le_test need 250 h)

pub too_deep : (ed : Edition) → (s r : Reader) (need : ℕ) (t : Lexeme) (ts : List Lexeme) → parser_step ed s t ≡ Take need r → 250 < need → run_parser ed 250 s (t ∷ ts) ≡ Refused 4 (t ∷ ts)
unfolding run_parser
too_deep ed s r need t ts e h =
    ap (by_move 250 (λ q. run_parser ed 250 q ts) t.kind (t ∷ ts)) e ∙ ap (λ x. by_level x (run_parser ed 250 r ts) (t ∷ ts)) (gt_test need 250 h)

pub refuses : (ed : Edition) → (s : Reader) (x : Expected) (t : Lexeme) (ts : List Lexeme) → parser_step ed s t ≡ Fail x → run_parser ed 250 s (t ∷ ts) ≡ Refused (fault_at x t.kind) (t ∷ ts)
unfolding run_parser
refuses ed s x t ts e = ap (by_move 250 (λ q. run_parser ed 250 q ts) t.kind (t ∷ ts)) e

pub end_refuses : (ed : Edition) → (s : Reader) → final s ≡ None → run_parser ed 250 s [] ≡ Refused 3 []
unfolding run_parser
end_refuses ed s e = ap at_end e

pub same_step : (ed : Edition) → (s r : Reader) (t : Lexeme) (ts : List Lexeme) → parser_step ed s t ≡ parser_step ed r t → run_parser ed 250 s (t ∷ ts) ≡ run_parser ed 250 r (t ∷ ts)
unfolding run_parser
same_step ed s r t ts e = ap (by_move 250 (λ q. run_parser ed 250 q ts) t.kind (t ∷ ts)) e

pub same_end : (ed : Edition) → (s r : Reader) → final s ≡ final r → run_parser ed 250 s [] ≡ run_parser ed 250 r []
unfolding run_parser
same_end ed s r e = ap at_end e

-- states that do the same with each token
pub same_run : (ed : Edition) → (s r : Reader) (ts : List Lexeme) → ((t : Lexeme) → parser_step ed s t ≡ parser_step ed r t) → final s ≡ final r → run_parser ed 250 s ts ≡ run_parser ed 250 r ts
same_run ed s r [] e f = same_end ed s r f
same_run ed s r (t ∷ ts) e f = same_step ed s r t ts (e t)

-- states that do the same with a token of a kind
pub same_at : (ed : Edition) → (s r : Reader) (k : TokenKind) (ts : List Lexeme) → First (Kind k) ts → ((text : List ℕ) (p : Place) → parser_step ed s (record { kind = k; text = text; place = p }) ≡ parser_step ed r (record { kind = k; text = text; place = p })) → run_parser ed 250 s ts ≡ run_parser ed 250 r ts
same_at ed s r k [] h e = absurd h
same_at ed s r k (t ∷ ts) h e =
    let P : TokenKind → Type 0 = λ j. parser_step ed s (record { kind = j; text = t.text; place = t.place }) ≡ parser_step ed r (record { kind = j; text = t.text; place = t.place }) in
    same_step ed s r t ts (subst P (sym h) (e t.text t.place))

-- a kind that is the first, and one that isn't
pub first_of : (k : TokenKind) (ts : List Lexeme) → first_kind ts ≡ Some k → First (Kind k) ts
first_of k [] e = cc (e)
first_of k (t ∷ ts) e = cc (e)

pub kind_of_first : (k : TokenKind) (ts : List Lexeme) → First (Kind k) ts → first_kind ts ≡ Some k
kind_of_first k [] h = absurd h
kind_of_first k (t ∷ ts) h = ap Some h

pub cond_false : (b : Bool) (m n : Move) → b ≡ false → cond b m n ≡ n
cond_false b m n e = ap (λ x. cond x m n) e

pub passed : (k : TokenKind) (t : Lexeme) (m n : Move) → (t.kind ≡ k → ⊥) → cond (same k t.kind) m n ≡ n
passed k t m n never = cond_false (same k t.kind) m n (not_same k t.kind never)

pub chosen : (k : TokenKind) (t : Lexeme) (m n : Move) → t.kind ≡ k → cond (same k t.kind) m n ≡ m
chosen k t m n e = ap (λ x. cond x m n) (is_same k t.kind e)

-- a token that is due
pub token_takes : (ed : Edition) → (k : TokenKind) (need : ℕ) (x : Expected) (next : Lexeme → Reader) (t : Lexeme) (ts : List Lexeme) → t.kind ≡ k → need ≤ 250 → run_parser ed 250 (token k need x next) (t ∷ ts) ≡ run_parser ed 250 (next t) ts
token_takes ed k need x next t ts e h = takes ed (token k need x next) (next t) need t ts (chosen k t (Take need (next t)) (Fail x) e) h

pub token_deep : (ed : Edition) → (k : TokenKind) (need : ℕ) (x : Expected) (next : Lexeme → Reader) (t : Lexeme) (ts : List Lexeme) → t.kind ≡ k → 250 < need → run_parser ed 250 (token k need x next) (t ∷ ts) ≡ Refused 4 (t ∷ ts)
token_deep ed k need x next t ts e h = too_deep ed (token k need x next) (next t) need t ts (chosen k t (Take need (next t)) (Fail x) e) h

pub token_fails : (ed : Edition) → (k : TokenKind) (need : ℕ) (x : Expected) (next : Lexeme → Reader) (ts : List Lexeme) → (First (Kind k) ts → ⊥) → run_parser ed 250 (token k need x next) ts ≡ Refused (fault_of x ts) ts
token_fails ed k need x next [] never = end_refuses ed (token k need x next) refl
token_fails ed k need x next (t ∷ ts) never = refuses ed (token k need x next) x t ts (passed k t (Take need (next t)) (Fail x) never)

-- what is expected matters only where the token is another
pub token_as : (ed : Edition) → (k : TokenKind) (need : ℕ) (x y : Expected) (next : Lexeme → Reader) (ts : List Lexeme) → First (Kind k) ts → run_parser ed 250 (token k need x next) ts ≡ run_parser ed 250 (token k need y next) ts
token_as ed k need x y next [] h = absurd h
token_as ed k need x y next (t ∷ ts) h =
    same_step ed (token k need x next) (token k need y next) t ts (chosen k t (Take need (next t)) (Fail x) h ∙ sym (chosen k t (Take need (next t)) (Fail y) h))

-- a token that may be missing
pub optional_some : (ed : Edition) → (k : TokenKind) (need : ℕ) (x : Expected) (some : Lexeme → Reader) (none : Reader) (ts : List Lexeme) → First (Kind k) ts → run_parser ed 250 (optional k need some none) ts ≡ run_parser ed 250 (token k need x some) ts
optional_some ed k need x some none [] h = absurd h
optional_some ed k need x some none (t ∷ ts) h =
    same_step ed (optional k need some none) (token k need x some) t ts (chosen k t (Take need (some t)) (parser_step ed none t) h ∙ sym (chosen k t (Take need (some t)) (Fail x) h))

pub optional_none : (ed : Edition) → (k : TokenKind) (need : ℕ) (some : Lexeme → Reader) (none : Reader) (ts : List Lexeme) → (First (Kind k) ts → ⊥) → run_parser ed 250 (optional k need some none) ts ≡ run_parser ed 250 none ts
optional_none ed k need some none [] never = same_end ed (optional k need some none) none refl
optional_none ed k need some none (t ∷ ts) never = same_step ed (optional k need some none) none t ts (passed k t (Take need (some t)) (parser_step ed none t) never)

-- a token that came with slices
taken_newer : (ed : Edition) → (k : TokenKind) (need : ℕ) (x : Expected) (some : Lexeme → Reader) (none : Reader) (t : Lexeme) → t.kind ≡ k →
    parser_step ed (newer k need x some none) t ≡ cond (has_slices ed) (Take need (some t)) (Fail x)
taken_newer ed k need x some none t h = chosen k t (cond (has_slices ed) (Take need (some t)) (Fail x)) (parser_step ed none t) h

newer_refused : (ed : Edition) → (k : TokenKind) (need : ℕ) (x : Expected) (some : Lexeme → Reader) (none : Reader) (ts : List Lexeme) → has_slices ed ≡ false →
    First (Kind k) ts → run_parser ed 250 (newer k need x some none) ts ≡ Refused (fault_of x ts) ts
newer_refused ed k need x some none [] has h = absurd h
newer_refused ed k need x some none (t ∷ ts) has h =
    refuses ed (newer k need x some none) x t ts (taken_newer ed k need x some none t h ∙ ap (λ b. cond b (Take need (some t)) (Fail x)) has)

-- without slices what may come in its place refuses it alike
pub newer_old : (ed : Edition) → (k : TokenKind) (need : ℕ) (x : Expected) (some : Lexeme → Reader) (none : Reader) (ts : List Lexeme) → has_slices ed ≡ false →
    Refusing ed k x none → run_parser ed 250 (newer k need x some none) ts ≡ run_parser ed 250 none ts
newer_old ed k need x some none [] has refusing = same_end ed (newer k need x some none) none refl
newer_old ed k need x some none (t ∷ ts) has refusing = by_test (same k t.kind) refl
  where
    by_test : (b : Bool) → same k t.kind ≡ b → run_parser ed 250 (newer k need x some none) (t ∷ ts) ≡ run_parser ed 250 none (t ∷ ts)
    by_test true e =
        let is : t.kind ≡ k = are_same k t.kind e in
        newer_refused ed k need x some none (t ∷ ts) has is ∙ sym (refusing has (t ∷ ts) is)
    by_test false e =
        same_step ed (newer k need x some none) none t ts (cond_false (same k t.kind) (cond (has_slices ed) (Take need (some t)) (Fail x)) (parser_step ed none t) e)

-- with slices it is one that may be missing
pub newer_new : (ed : Edition) → (k : TokenKind) (need : ℕ) (x : Expected) (some : Lexeme → Reader) (none : Reader) (ts : List Lexeme) → has_slices ed ≡ true →
    run_parser ed 250 (newer k need x some none) ts ≡ run_parser ed 250 (optional k need some none) ts
newer_new ed k need x some none [] has = same_end ed (newer k need x some none) (optional k need some none) refl
newer_new ed k need x some none (t ∷ ts) has =
    same_step ed (newer k need x some none) (optional k need some none) t ts
    (ap (λ b. cond (same k t.kind) (cond b (Take need (some t)) (Fail x)) (parser_step ed none t)) has)

-- a state that refuses a token of a kind
pub refuses_at : (ed : Edition) → (s : Reader) (x : Expected) (k : TokenKind) →
    ((text : List ℕ) (p : Place) → parser_step ed s (record { kind = k; text = text; place = p }) ≡ Fail x) → Refusing ed k x s
refuses_at ed s x k e old [] h = absurd h
refuses_at ed s x k e old (t ∷ ts) h =
    let P : TokenKind → Type 0 = λ j. parser_step ed s (record { kind = j; text = t.text; place = t.place }) ≡ Fail x in
    refuses ed s x t ts (subst P (sym h) (e t.text t.place))
