-- Where no two hashed texts clash, a text tells its action, and so does an id.
use Rattle.std.specs.Prelude.{◌≡◌, ℕ, ◌<◌, ◌≤◌, ◌^◌, List, [], ◌∷◌, ◌++◌, length, refl, codes}
use Rattle.std.specs.Fmt.{decimal}
use Rattle.std.specs.List.{All, Contains, flat_map}
use Rattle.std.proofs.Common.{sym, ap, subst, ◌∙◌, arith, lit<, inl, inr}
use Rattle.std.proofs.lemmas.Fmt.{decimal_injective, length-decimal-le}
use Rattle.std.proofs.lemmas.List.{append_assoc}
use Rattle.std.proofs.lemmas.List.Elements.{All-head, All-tail, Contains-append_left, Contains-append_right}
use Rattle.sha2.specs.Sha256.{sha256}
use Rattle.go_text.specs.declared.edition.Edition.{Edition}
use Rattle.go_text.specs.Editions.{edition_number}
use Rattle.ws_action.proofs.Editions.{number_small, one_number}
use Rattle.go_export.specs.Fields.{be, field}
use Rattle.go_export.proofs.Fields.{split_alike, be_parts, field_parts, digest_fits}
use Rattle.ws_action.specs.Actions.{Named, Action, named_text, list_text, action_text, action_id, AreSized, IsSized}
use Rattle.ws_action.specs.Clash.{NoClash, Includes, AllSized, named_texts, hashed, hashed_actions}
use Rattle.ws_action.proofs.Members.{none_in_empty, head_or_later, later, at_head}

four : (a b c d : List ℕ) → ((a ++ b) ++ c) ++ d ≡ a ++ (b ++ (c ++ d))
four a b c d = simp append_assoc

five : (a b c d e : List ℕ) → (((a ++ b) ++ c) ++ d) ++ e ≡ a ++ (b ++ (c ++ (d ++ e)))
five a b c d e = simp append_assoc

decimal_fits : (n : ℕ) → n < 2 ^ 32 → length (decimal n) < 2 ^ 64
decimal_fits n h = let l : length (decimal n) ≤ 10 = length-decimal-le 10 n (lit< tt) (omega (arith, h)) (omega (arith, h)) in omega (arith, l)

-- ---- texts tell their actions

named_parts : (f g : Named) (r q s t : List ℕ) → length f.0 < 2 ^ 64 → length g.0 < 2 ^ 64 → ((named_text f ++ r) ++ s) ≡ ((named_text g ++ q) ++ t) → (f.0 ≡ g.0) × (sha256 f.1 ≡ sha256 g.1) × (r ++ s ≡ q ++ t)
named_parts f g r q s t p h e =
    let whole : field f.0 ++ (field (sha256 f.1) ++ (r ++ s)) ≡ field g.0 ++ (field (sha256 g.1) ++ (q ++ t)) = sym (four (field f.0) (field (sha256 f.1)) r s) ∙ e ∙ four (field g.0) (field (sha256 g.1)) q t in
    let names = field_parts f.0 g.0 (field (sha256 f.1) ++ (r ++ s)) (field (sha256 g.1) ++ (q ++ t)) p h whole in
    let digests = field_parts (sha256 f.1) (sha256 g.1) (r ++ s) (q ++ t) (digest_fits f.1) (digest_fits g.1) names.1 in
    (names.0, digests.0, digests.1)

abbrev pub Fits : Named → Type 0
Fits n = length n.0 < 2 ^ 64

-- as many files or imports, whose texts don't clash, are told, and so is what comes behind them
all_parts : (T : List (List ℕ)) → NoClash T → (fs gs : List Named) (s t : List ℕ) → Includes T (named_texts fs) → Includes T (named_texts gs) → All Fits fs → All Fits gs → length fs ≡ length gs → flat_map named_text fs ++ s ≡ flat_map named_text gs ++ t → (fs ≡ gs) × (s ≡ t)
all_parts T clear [] [] s t i j p q l e = (refl, e)
all_parts T clear [] (g ∷ gs) s t i j p q l e = absurd (omega (arith, l))
all_parts T clear (f ∷ fs) [] s t i j p q l e = absurd (omega (arith, l))
all_parts T clear (f ∷ fs) (g ∷ gs) s t i j p q l e =
    let parts = named_parts f g (flat_map named_text fs) (flat_map named_text gs) s t (All-head Fits f fs p) (All-head Fits g gs q) e in
    let texts : f.1 ≡ g.1 = clear f.1 g.1 (i f.1 (at_head (named_texts fs) f.1 f.1 refl)) (j g.1 (at_head (named_texts gs) g.1 g.1 refl)) parts.1 in
    let lengths : length fs ≡ length gs = omega (arith, l) in
    let rest = all_parts T clear fs gs s t (λ x c. i x (later f.1 (named_texts fs) x c)) (λ x c. j x (later g.1 (named_texts gs) x c)) (All-tail Fits f fs p) (All-tail Fits g gs q) lengths parts.2 in
    (ap (λ (n : List ℕ). (n, f.1) ∷ fs) parts.0 ∙ ap (λ (n : List ℕ). (g.0, n) ∷ fs) texts ∙ ap (λ (r : List Named). g ∷ r) rest.0, rest.1)

list_parts : (T : List (List ℕ)) → NoClash T → (fs gs : List Named) (s t : List ℕ) → Includes T (named_texts fs) → Includes T (named_texts gs) → AreSized fs → AreSized gs → list_text fs ++ s ≡ list_text gs ++ t → (fs ≡ gs) × (s ≡ t)
list_parts T clear fs gs s t i j p q e =
    let whole : be (length fs) ++ (flat_map named_text fs ++ s) ≡ be (length gs) ++ (flat_map named_text gs ++ t) = sym (append_assoc (be (length fs)) (flat_map named_text fs) s) ∙ e ∙ append_assoc (be (length gs)) (flat_map named_text gs) t in
    let counts = be_parts (length fs) (length gs) _ _ p.count q.count whole in
    all_parts T clear fs gs s t i j p.names q.names counts.0 counts.1

-- among texts of which no two clash, the text of an action tells the action
pub text_tells : (T : List (List ℕ)) → NoClash T → (a b : Action) → IsSized a → IsSized b → Includes T (named_texts a.files ++ named_texts a.imports) → Includes T (named_texts b.files ++ named_texts b.imports) → action_text a ≡ action_text b → a ≡ b
unfolding action_text
text_tells T clear a b p q i j e =
    let tag : List ℕ = field (codes "goset action") in
    let whole = sym (five tag (field (decimal (edition_number a.edition))) (field a.path) (list_text a.files) (list_text a.imports)) ∙ e ∙ five tag (field (decimal (edition_number b.edition))) (field b.path) (list_text b.files) (list_text b.imports) in
    let tags = split_alike tag tag _ _ refl whole in
    let editions = field_parts (decimal (edition_number a.edition)) (decimal (edition_number b.edition)) _ _ (decimal_fits (edition_number a.edition) (number_small a.edition)) (decimal_fits (edition_number b.edition) (number_small b.edition)) tags.1 in
    let paths = field_parts a.path b.path _ _ p.path q.path editions.1 in
    let files = list_parts T clear a.files b.files (list_text a.imports) (list_text b.imports) (λ x c. i x (Contains-append_left (named_texts a.files) (named_texts a.imports) x c)) (λ x c. j x (Contains-append_left (named_texts b.files) (named_texts b.imports) x c)) p.files q.files paths.1 in
    let ends : list_text a.imports ++ [] ≡ list_text b.imports ++ [] = ap (λ r. r ++ []) files.1 in
    let imports = list_parts T clear a.imports b.imports [] [] (λ x c. i x (Contains-append_right (named_texts a.files) (named_texts a.imports) x c)) (λ x c. j x (Contains-append_right (named_texts b.files) (named_texts b.imports) x c)) p.imports q.imports ends in
    let numbers : edition_number a.edition ≡ edition_number b.edition = decimal_injective (edition_number a.edition) (edition_number b.edition) (omega (arith, number_small a.edition)) (omega (arith, number_small b.edition)) editions.0 in
    ap (λ (n : Edition). record { edition = n; path = a.path; files = a.files; imports = a.imports }) (one_number a.edition b.edition numbers)
    ∙ ap (λ (n : List ℕ). record { edition = b.edition; path = n; files = a.files; imports = a.imports }) paths.0
    ∙ ap (λ (n : List Named). record { edition = b.edition; path = b.path; files = n; imports = a.imports }) files.0
    ∙ ap (λ (n : List Named). record { edition = b.edition; path = b.path; files = b.files; imports = n }) imports.0

-- ---- ids tell their actions

hashed_from : (E : List Action) (a : Action) → Contains E a → Includes (hashed_actions E) (hashed a)
hashed_from [] a c = absurd (none_in_empty a c)
hashed_from (x ∷ rest) a c = λ s h. elim (head_or_later x rest a c) [
  | inl e ↦ Contains-append_left (hashed x) (hashed_actions rest) s (subst (λ z. Contains (hashed z) s) (sym e) h)
  | inr l ↦ Contains-append_right (hashed x) (hashed_actions rest) s (hashed_from rest a l s h)
]

-- among actions whose hashed texts are in a list without clashes, one id means one action
pub one_action : (T : List (List ℕ)) (E : List Action) → NoClash T → Includes T (hashed_actions E) → AllSized E → (a b : Action) → Contains E a → Contains E b → action_id a ≡ action_id b → a ≡ b
unfolding action_id
one_action T E clear among sized a b p q e =
    let first : Includes T (hashed a) = λ s h. among s (hashed_from E a p s h) in
    let second : Includes T (hashed b) = λ s h. among s (hashed_from E b q s h) in
    let texts : action_text a ≡ action_text b = clear (action_text a) (action_text b) (first (action_text a) (at_head (named_texts a.files ++ named_texts a.imports) (action_text a) (action_text a) refl)) (second (action_text b) (at_head (named_texts b.files ++ named_texts b.imports) (action_text b) (action_text b) refl)) e in
    text_tells T clear a b (sized a p) (sized b q) (λ s h. first s (later (action_text a) (named_texts a.files ++ named_texts a.imports) s h)) (λ s h. second s (later (action_text b) (named_texts b.files ++ named_texts b.imports) s h)) texts
