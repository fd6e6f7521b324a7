-- Forms one behind another.
use Rattle.std.proofs.Common.{◌≡◌, ℕ, suc, ◌+◌, ◌<◌, arith, Option, Some, None, List, [], ◌∷◌, ◌++◌, length, drop, get_or, append_assoc, append-nil, add-one, refl, sym, ap, ◌∙◌}
use Rattle.std.proofs.Math.Seq.{drop-cons}
use Rattle.std.specs.List.{zip}
use Rattle.std.specs.Option.{option_map}
use Rattle.go_expr.specs.Verdicts.{both}
use Rattle.go_stmt.specs.Scopes.{StatementEnv, Checked, follow, concat_checked}

-- the faults, the environment and what is known behind a first form that has no fault
pub later_faults : {A B : Type 0} (first : StatementEnv → Checked A) (second : StatementEnv → Checked B) (env there : StatementEnv) → (first env).faults ≡ [] → there ≡ (first env).after →
    (follow first second env).faults ≡ (second there).faults
later_faults first second env there none is = ap (λ l. l ++ (second (first env).after).faults) none ∙ ap (λ e. (second e).faults) (sym is)

pub later_after : {A B : Type 0} (first : StatementEnv → Checked A) (second : StatementEnv → Checked B) (env there : StatementEnv) → there ≡ (first env).after →
    (follow first second env).after ≡ (second there).after
later_after first second env there is = ap (λ e. (second e).after) (sym is)

pub later_known : {A B : Type 0} (first : StatementEnv → Checked A) (second : StatementEnv → Checked B) (env there : StatementEnv) (a : Option A) → (first env).known ≡ a → there ≡ (first env).after →
    (follow first second env).known ≡ both a (second there).known
later_known first second env there a known is = ap (λ o. both o (second (first env).after).known) known ∙ ap (λ e. both a (second e).known) (sym is)

-- those that are left begin with the next
pub left : {A : Type 0} (xs : List A) (i : ℕ) (x : A) → i < length xs → x ≡ get_or xs i x → drop i xs ≡ x ∷ drop (i + 1) xs
left xs i x h is = drop-cons xs i x h ∙ ap (λ y. y ∷ drop (suc i) xs) (sym is) ∙ ap (λ k. x ∷ drop k xs) (sym (add-one i))

abbrev joined : {A : Type 0} → Option (List A) → Option (List A) → Option (List A)
joined a b = option_map (λ k. k.0 ++ k.1) (both a b)

joined_thrice : {A : Type 0} (a b c : Option (List A)) → joined a (joined b c) ≡ joined (joined a b) c
joined_thrice None b c = refl
joined_thrice (Some a) None c = refl
joined_thrice (Some a) (Some b) None = refl
joined_thrice (Some a) (Some b) (Some c) = ap Some (sym (append_assoc a b c))

pub joined_first : {A : Type 0} (b : Option (List A)) → joined (Some []) b ≡ b
joined_first None = refl
joined_first (Some b) = refl

pub joined_last : {A : Type 0} (a : Option (List A)) → joined a (Some []) ≡ a
joined_last None = refl
joined_last (Some a) = ap Some (append-nil a)

-- what is known of all, by what was known before, of the next form and of the rest
pub appended_known : {A : Type 0} (first second : StatementEnv → Checked (List A)) (env there : StatementEnv) (all done more next : Option (List A)) → all ≡ joined done (concat_checked first second env).known →
    (first env).known ≡ next → there ≡ (first env).after → more ≡ joined done next → all ≡ joined more (second there).known
appended_known first second env there all done more next same known is grown =
    same ∙ ap (λ o. joined done (option_map (λ k. k.0 ++ k.1) o)) (later_known first second env there next known is)
    ∙ joined_thrice done next (second there).known ∙ ap (λ o. joined o (second there).known) (sym grown)

-- lists without elements
pub none_there : {A : Type 0} (xs : List A) → length xs ≡ 0 → xs ≡ []
none_there [] h = refl
none_there (x ∷ xs) h = absurd (let n : ⊥ = omega arith in n)

pub none_left : {A B : Type 0} (xs : List A) (ys : List B) → ys ≡ [] → zip xs ys ≡ []
none_left [] ys h = refl
none_left (x ∷ xs) [] h = refl
none_left (x ∷ xs) (y ∷ ys) h = cc
