-- What is known of the tokens so far, and what the last one was where a label tells it.
use Rattle.std.proofs.Common.{◌≡◌, ◌⊎◌, inl, inr, Bool, true, false, List, [], ◌∷◌, ◌++◌, refl, sym, ap, ◌∙◌, subst, append_assoc}
use Rattle.go_text.specs.declared.edition.Edition.{Edition}
use Rattle.go_scan.specs.declared.token.TokenKind.{TokenKind}
use Rattle.go_scan.specs.declared.token.TokenKind.TheVariants as kinds
use Rattle.go_scan.specs.declared.keyword.Keyword.TheVariants as keywords
use Rattle.go_scan.specs.declared.punctuation.Punctuation.TheVariants as marks
use Rattle.go_ast.specs.Expected.{Expected, a_value, a_length, a_selected_name, behind_a_name, behind_a_jump, a_function_name, a_function_opening}
use Rattle.go_ast.specs.Grammar.{Lexeme}
use Rattle.go_ast.specs.LeftOut.{EndsIn, May, word}
use Rattle.go_ast.proofs.Base.{false_true}
use Rattle.go_ast.proofs.LeftOutStates.{Last, other, name_last, names, passed, first_name, func_name, bracket, dot, equals, func, jump, keyed, nameable, is_func, is_special, Tells, bounded}
use Rattle.go_ast.proofs.LeftOutLabels.{is_fixed, LabelAt}
use Rattle.go_ast.proofs.LeftOutAliases.{is_named}

-- the last token is `func`
abbrev pub EndsFunc : List Lexeme → Type 0
EndsFunc good = (front : List Lexeme) × EndsIn good front (word keywords.Func ∷ [])

-- what is known of the tokens so far: none, or the last, and where it came
abbrev pub Known : (ed : Edition) → List Lexeme → Last → Type 0
Known ed good p =
    ((good ≡ []) × (p ≡ other))
    ⊎ ((front : List Lexeme) × (t : Lexeme) × (q : Last) × (b : Bool) × (good ≡ front ++ t ∷ []) × Tells p q b t.kind
    × (b ≡ true → May ed front (word keywords.Return ∷ [])) × (May ed front (word keywords.Return ∷ []) → b ≡ true)
    × (is_func q ≡ true → EndsFunc front) × (EndsFunc front → is_func q ≡ true) × (is_func q ≡ true → b ≡ false))

pub snoc_same : (xs ys : List Lexeme) (a b : Lexeme) → xs ++ a ∷ [] ≡ ys ++ b ∷ [] → (xs ≡ ys) × (a ≡ b)
snoc_same [] [] a b e = (refl, cc (e))
snoc_same [] (y ∷ []) a b e = absurd (let q : [] ≡ b ∷ [] = cc (e) in cc (q))
snoc_same [] (y ∷ z ∷ ys) a b e = absurd (let q : [] ≡ z ∷ (ys ++ b ∷ []) = cc (e) in cc (q))
snoc_same (x ∷ []) [] a b e = absurd (let q : a ∷ [] ≡ [] = cc (e) in cc (q))
snoc_same (x ∷ z ∷ xs) [] a b e = absurd (let q : z ∷ (xs ++ a ∷ []) ≡ [] = cc (e) in cc (q))
snoc_same (x ∷ xs) (y ∷ ys) a b e =
    let first : x ≡ y = cc (e) in
    let rest : xs ++ a ∷ [] ≡ ys ++ b ∷ [] = cc (e) in
    let r = snoc_same xs ys a b rest in
    (ap (λ z. z ∷ xs) first ∙ ap (λ z. y ∷ z) r.0, r.1)

tells_func_kind : (p q : Last) (b : Bool) (k : TokenKind) → k ≡ word keywords.Func → Tells p q b k → is_func p ≡ true
tells_func_kind p q b k e h = at p (subst (Tells p q b) e h)
  where
    at : (p : Last) → Tells p q b (word keywords.Func) → is_func p ≡ true
    at other h = absurd (false_true (sym h))
    at name_last h = absurd (let c : word keywords.Func ≡ kinds.Name = h.0 in cc (c))
    at passed h = absurd (let c : word keywords.Func ≡ kinds.Name = h.0 in cc (c))
    at first_name h = absurd (let c : word keywords.Func ≡ kinds.Name = h.0 in cc (c))
    at func_name h = absurd (let c : word keywords.Func ≡ kinds.Name = h.0 in cc (c))
    at bracket h = absurd (cc (h))
    at dot h = absurd (cc (h))
    at equals h = absurd (cc (h))
    at func h = refl
    at jump (inl h) = absurd (cc (h))
    at jump (inr h) = absurd (cc (h))
    at _ h = absurd h

pub func_known : (ed : Edition) → (good : List Lexeme) (p : Last) → Known ed good p → is_func p ≡ true → EndsFunc good
func_known ed good p (inl h) e = absurd (false_true (sym (ap is_func h.1) ∙ e))
func_known ed good func (inr h) e = (h.0, (h.1 ∷ [], h.4, (h.5, refl)))
func_known ed good _ (inr h) e = absurd (false_true e)

none_behind : {A : Type 0} (front : List Lexeme) (a : Lexeme) (back : List Lexeme) → [] ≡ front ++ a ∷ back → A
none_behind [] a back e = absurd (cc (e))
none_behind (x ∷ xs) a back e = absurd (cc (e))

-- what is known behind a last token of a kind, with the tokens in front of it
abbrev pub Lasts : (ed : Edition) → Last → TokenKind → List Lexeme → Type 0
Lasts ed p k front =
    (q : Last) × (b : Bool) × Tells p q b k × (May ed front (word keywords.Return ∷ []) → b ≡ true) × (EndsFunc front → is_func q ≡ true)
    × (is_func q ≡ true → b ≡ false)

pub last_of : (ed : Edition) → (good : List Lexeme) (p : Last) (k : TokenKind) (front : List Lexeme) → Known ed good p → EndsIn good front (k ∷ []) → Lasts ed p k front
last_of ed good p k front known ([], whole, of) = absurd of
last_of ed good p k front (inl h) (a ∷ back, whole, of) = none_behind front a back (sym h.0 ∙ whole)
last_of ed good p k front (inr h) (a ∷ back, whole, of) =
    let last : good ≡ front ++ a ∷ [] = whole ∙ ap (λ x. front ++ a ∷ x) of.1 in
    let alike = snoc_same h.0 front h.1 a (sym h.4 ∙ last) in
    let kind : h.1.kind ≡ k = ap (λ (x : Lexeme). x.kind) alike.1 ∙ of.0 in (
      h.2,
      h.3,
      subst (Tells p h.2 h.3) kind h.5,
      (λ m. h.7 (subst (λ f. May ed f (word keywords.Return ∷ [])) (sym alike.0) m)),
      (λ f. h.9 (subst EndsFunc (sym alike.0) f)),
      h.10,
    )

pub known_func : (ed : Edition) → (good : List Lexeme) (p : Last) → Known ed good p → EndsFunc good → is_func p ≡ true
known_func ed good p k (front, ends) =
    let l = last_of ed good p (word keywords.Func) front k ends in
    tells_func_kind p l.0 l.1 (word keywords.Func) refl l.2

-- the last token of a label or of a kind

abbrev pub last_of_label : Expected → Last
last_of_label a_value = equals
last_of_label a_length = bracket
last_of_label a_selected_name = dot
last_of_label behind_a_name = first_name
last_of_label behind_a_jump = jump
last_of_label a_function_name = func
last_of_label a_function_opening = func_name
last_of_label _ = other

pub fixed_last : (p : Last) (x : Expected) → LabelAt p x → is_fixed x ≡ true → p ≡ last_of_label x
fixed_last func x h e = ap last_of_label (sym h)
fixed_last func_name x h e = ap last_of_label (sym h)
fixed_last dot x h e = ap last_of_label (sym h)
fixed_last equals x h e = ap last_of_label (sym h)
fixed_last bracket x (inl h) e = ap last_of_label (sym h)
fixed_last bracket x (inr h) e = absurd (false_true (sym (ap is_fixed h) ∙ e))
fixed_last jump x h e = ap last_of_label (sym h)
fixed_last first_name x h e = ap last_of_label (sym h)
fixed_last _ x h e = absurd (false_true (sym h ∙ e))

abbrev pub last_of_kind : TokenKind → Last
last_of_kind (kinds.Punctuation marks.OpenBracket) = bracket
last_of_kind (kinds.Punctuation marks.Period) = dot
last_of_kind (kinds.Punctuation marks.Assign) = equals
last_of_kind (kinds.Keyword keywords.Func) = func
last_of_kind (kinds.Keyword keywords.Break) = jump
last_of_kind (kinds.Keyword keywords.Continue) = jump
last_of_kind _ = other

pub tells_last : (p q : Last) (b : Bool) (k : TokenKind) → Tells p q b k → is_special k ≡ true → (k ≡ kinds.Name → ⊥) → p ≡ last_of_kind k
tells_last other q b k h e ne = absurd (false_true (sym h ∙ e))
tells_last name_last q b k h e ne = absurd (ne h.0)
tells_last passed q b k h e ne = absurd (ne h.0)
tells_last first_name q b k h e ne = absurd (ne h.0)
tells_last func_name q b k h e ne = absurd (ne h.0)
tells_last bracket q b k h e ne = ap last_of_kind (sym h)
tells_last dot q b k h e ne = ap last_of_kind (sym h)
tells_last equals q b k h e ne = ap last_of_kind (sym h)
tells_last func q b k h e ne = ap last_of_kind (sym h)
tells_last jump q b k (inl h) e ne = ap last_of_kind (sym h)
tells_last jump q b k (inr h) e ne = ap last_of_kind (sym h)
tells_last _ q b k h e ne = absurd h

-- names
pub tells_name : (p q : Last) (b : Bool) → Tells p q b kinds.Name → is_named p ≡ true
tells_name other q b h = absurd (false_true (sym h))
tells_name name_last q b h = refl
tells_name passed q b h = refl
tells_name first_name q b h = refl
tells_name func_name q b h = refl
tells_name bracket q b h = absurd (cc (h))
tells_name dot q b h = absurd (cc (h))
tells_name equals q b h = absurd (cc (h))
tells_name func q b h = absurd (cc (h))
tells_name jump q b (inl h) = absurd (cc (h))
tells_name jump q b (inr h) = absurd (cc (h))
tells_name _ q b h = absurd h

pub tells_first : (p q : Last) (b : Bool) → Tells p q b kinds.Name → b ≡ true → (is_func q ≡ true → b ≡ false) → p ≡ first_name
tells_first other q b h e f = absurd (false_true (sym h))
tells_first name_last q b h e f = absurd (false_true (sym h.2 ∙ e))
tells_first passed q b h e f = absurd (false_true (sym h.2 ∙ e))
tells_first first_name q b h e f = refl
tells_first func_name q b h e f = absurd (false_true (sym (f h.1) ∙ e))
tells_first bracket q b h e f = absurd (cc (h))
tells_first dot q b h e f = absurd (cc (h))
tells_first equals q b h e f = absurd (cc (h))
tells_first func q b h e f = absurd (cc (h))
tells_first jump q b (inl h) e f = absurd (cc (h))
tells_first jump q b (inr h) e f = absurd (cc (h))
tells_first _ q b h e f = absurd h

pub tells_func_name : (p q : Last) (b : Bool) → Tells p q b kinds.Name → is_func q ≡ true → p ≡ func_name
tells_func_name other q b h e = absurd (false_true (sym h))
tells_func_name name_last q b h e = absurd (false_true (sym h.1 ∙ e))
tells_func_name passed q b h e = absurd (false_true (sym h.1 ∙ e))
tells_func_name first_name q b h e = absurd (false_true (sym h.1 ∙ e))
tells_func_name func_name q b h e = refl
tells_func_name bracket q b h e = absurd (cc (h))
tells_func_name dot q b h e = absurd (cc (h))
tells_func_name equals q b h e = absurd (cc (h))
tells_func_name func q b h e = absurd (cc (h))
tells_func_name jump q b (inl h) e = absurd (cc (h))
tells_func_name jump q b (inr h) e = absurd (cc (h))
tells_func_name _ q b h e = absurd h

-- no token is behind which names were last, or a colon, a name or a bracket may come
pub known_none : (ed : Edition) → {A : Type 0} (good : List Lexeme) (p : Last) → Known ed good p → (p ≡ names) ⊎ ((p ≡ nameable) ⊎ ((p ≡ keyed) ⊎ (p ≡ bounded))) → A
known_none ed good p k e = at p k e
  where
    at : {A : Type 0} (p : Last) → Known ed good p → (p ≡ names) ⊎ ((p ≡ nameable) ⊎ ((p ≡ keyed) ⊎ (p ≡ bounded))) → A
    at p (inl h) (inl e) = absurd (let c : names ≡ other = sym e ∙ h.1 in cc (c))
    at p (inl h) (inr (inl e)) = absurd (let c : nameable ≡ other = sym e ∙ h.1 in cc (c))
    at p (inl h) (inr (inr (inl e))) = absurd (let c : keyed ≡ other = sym e ∙ h.1 in cc (c))
    at p (inl h) (inr (inr (inr e))) = absurd (let c : bounded ≡ other = sym e ∙ h.1 in cc (c))
    at p (inr h) (inl e) = absurd (subst (λ z. Tells z h.2 h.3 h.1.kind) e h.5)
    at p (inr h) (inr (inl e)) = absurd (subst (λ z. Tells z h.2 h.3 h.1.kind) e h.5)
    at p (inr h) (inr (inr (inl e))) = absurd (subst (λ z. Tells z h.2 h.3 h.1.kind) e h.5)
    at p (inr h) (inr (inr (inr e))) = absurd (subst (λ z. Tells z h.2 h.3 h.1.kind) e h.5)

-- the last token, where the label tells it

pub ends : (ed : Edition) → (good : List Lexeme) (p l : Last) (k : TokenKind) → Known ed good p → p ≡ l → (l ≡ other → ⊥) → ((q : Last) (b : Bool) (j : TokenKind) → Tells l q b j → j ≡ k) →
    (front : List Lexeme) × EndsIn good front (k ∷ [])
ends ed good p l k (inl h) e ne f = absurd (ne (sym e ∙ h.1))
ends ed good p l k (inr h) e ne f =
    let tells : Tells l h.2 h.3 h.1.kind = subst (λ z. Tells z h.2 h.3 h.1.kind) e h.5 in
    (h.0, (h.1 ∷ [], h.4, (f h.2 h.3 h.1.kind tells, refl)))

pub jump_known : (ed : Edition) → (good : List Lexeme) (p : Last) → Known ed good p → p ≡ jump →
    (front : List Lexeme) × (EndsIn good front (word keywords.Break ∷ []) ⊎ EndsIn good front (word keywords.Continue ∷ []))
jump_known ed good p (inl h) e = absurd (let c : jump ≡ other = sym e ∙ h.1 in cc (c))
jump_known ed good p (inr h) e = elim (subst (λ z. Tells z h.2 h.3 h.1.kind) e h.5) [
  | inl k ↦ (h.0, inl (h.1 ∷ [], h.4, (k, refl)))
  | inr k ↦ (h.0, inr (h.1 ∷ [], h.4, (k, refl)))
]

pub first_known : (ed : Edition) → (good : List Lexeme) (p : Last) → Known ed good p → p ≡ first_name →
    (front : List Lexeme) × EndsIn good front (kinds.Name ∷ []) × May ed front (word keywords.Return ∷ [])
first_known ed good p (inl h) e = absurd (let c : first_name ≡ other = sym e ∙ h.1 in cc (c))
first_known ed good p (inr h) e =
    let tells : Tells first_name h.2 h.3 h.1.kind = subst (λ z. Tells z h.2 h.3 h.1.kind) e h.5 in
    (h.0, (h.1 ∷ [], h.4, (tells.0, refl)), h.6 tells.2)

two : (good front : List Lexeme) (t : Lexeme) → good ≡ front ++ t ∷ [] → t.kind ≡ kinds.Name → EndsFunc front →
    (before : List Lexeme) × EndsIn good before (word keywords.Func ∷ kinds.Name ∷ [])
two good front t whole is (before, ([], w, of)) = absurd of
two good front t whole is (before, (a ∷ back, w, of)) =
    let last : front ≡ before ++ a ∷ [] = w ∙ ap (λ x. before ++ a ∷ x) of.1 in (
      before,
      (a ∷ t ∷ [], whole ∙ ap (λ x. x ++ t ∷ []) last ∙ append_assoc before (a ∷ []) (t ∷ []), (of.0, (is, refl))),
    )

pub func_name_known : (ed : Edition) → (good : List Lexeme) (p : Last) → Known ed good p → p ≡ func_name →
    (front : List Lexeme) × EndsIn good front (word keywords.Func ∷ kinds.Name ∷ [])
func_name_known ed good p (inl h) e = absurd (let c : func_name ≡ other = sym e ∙ h.1 in cc (c))
func_name_known ed good p (inr h) e =
    let tells : Tells func_name h.2 h.3 h.1.kind = subst (λ z. Tells z h.2 h.3 h.1.kind) e h.5 in
    two good h.0 h.1 h.4 tells.0 (h.8 tells.1)

pub split_two : (good front : List Lexeme) → EndsIn good front (word keywords.Func ∷ kinds.Name ∷ []) →
    (middle : List Lexeme) × EndsIn good middle (kinds.Name ∷ []) × EndsFunc middle
split_two good front ([], w, of) = absurd of
split_two good front (a ∷ [], w, of) = absurd of.1
split_two good front (a ∷ b ∷ rest, w, of) =
    (front ++ a ∷ [], (b ∷ rest, w ∙ sym (append_assoc front (a ∷ []) (b ∷ rest)), of.1), (front, (a ∷ [], refl, (of.0, refl))))
