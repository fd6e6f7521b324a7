-- The text of a complete script with another behind it is that of the first, and what is written behind it.
use Rattle.std.proofs.Common.{◌≡◌, ℕ, zero, suc, List, [], ◌∷◌, ◌++◌, Bool, true, false, cond, sym, ap, ◌∙◌, subst, inl, inr, refl}
use Rattle.std.specs.Prelude.{◌==◌}
use Rattle.std.proofs.lemmas.List.{append_assoc}
use Rattle.std.specs.List.{onto_first}
use Rattle.std.specs.Option.{option_map}
use Rattle.go_text.specs.declared.edition.Edition.TheVariants.{One}
use Rattle.ws_command.specs.Lines.{lines_of}
use Rattle.ws_command.specs.Commands.{command_of, text_lines, text_of}
use Rattle.ws_session.specs.World.{World, After, Prints, empty_world}
use Rattle.ws_session.specs.Text.{TextFrom, ReachedFrom, SessionText, IsClear}
use Rattle.ws_keep.specs.Keeping.{EndsFrom, IsCompleteFrom, IsComplete, Continues, IsClearBehind}

-- ---- lines

-- it begins with a line
abbrev IsSome : List (List ℕ) → Type 0
IsSome lines = (line : List ℕ) × (rest : List (List ℕ)) × (lines ≡ line ∷ rest)

onto_some : (b : ℕ) (xs ys : List (List ℕ)) → IsSome xs → onto_first b (xs ++ ys) ≡ onto_first b xs ++ ys
onto_some b xs ys (line, rest, e) = subst (λ (zs : List (List ℕ)). onto_first b (zs ++ ys) ≡ onto_first b zs ++ ys) (sym e) refl

onto_is_some : (b : ℕ) (xs : List (List ℕ)) → IsSome (onto_first b xs)
onto_is_some b [] = (b ∷ [], [], refl)
onto_is_some b (x ∷ xs) = (b ∷ x, xs, refl)

byte_some : (b : ℕ) (newline : Bool) (xs : List (List ℕ)) → IsSome (cond newline ([] ∷ xs) (onto_first b xs))
byte_some b true xs = ([], xs, refl)
byte_some b false xs = onto_is_some b xs

some_lines : (front : List ℕ) → IsSome (lines_of (front ++ 10 ∷ []))
some_lines [] = ([], [], refl)
some_lines (b ∷ front) = byte_some b (b == 10) (lines_of (front ++ 10 ∷ []))

byte_apart : (b : ℕ) (newline : Bool) (xs ys : List (List ℕ)) → IsSome xs → cond newline ([] ∷ (xs ++ ys)) (onto_first b (xs ++ ys)) ≡ cond newline ([] ∷ xs) (onto_first b xs) ++ ys
byte_apart b true xs ys some = refl
byte_apart b false xs ys some = onto_some b xs ys some

pub lines_apart : (front script : List ℕ) → lines_of ((front ++ 10 ∷ []) ++ script) ≡ lines_of (front ++ 10 ∷ []) ++ lines_of script
lines_apart [] script = refl
lines_apart (b ∷ front) script =
    ap (λ (ls : List (List ℕ)). cond (b == 10) ([] ∷ ls) (onto_first b ls)) (lines_apart front script)
    ∙ byte_apart b (b == 10) (lines_of (front ++ 10 ∷ [])) (lines_of script) (some_lines front)

pub lines_part : (kept script : List ℕ) → IsComplete kept → lines_of (kept ++ script) ≡ lines_of kept ++ lines_of script
lines_part kept script complete = elim complete.ends [
  | inl e ↦ subst (λ (k : List ℕ). lines_of (k ++ script) ≡ lines_of k ++ lines_of script) (sym e) refl
  | inr e ↦ subst (λ (k : List ℕ). lines_of (k ++ script) ≡ lines_of k ++ lines_of script) (sym e.1) (lines_apart e.0 script)
]

-- ---- commands

pub text_first : (n : ℕ) (xs ys : List (List ℕ)) → IsCompleteFrom n xs → text_of n (xs ++ ys) ≡ text_of n xs
text_first zero xs ys complete = refl
text_first (suc n) [] ys complete = absurd complete
text_first (suc n) (x ∷ xs) ys complete = ap (option_map (λ text. x ++ 10 ∷ text)) (text_first n xs ys complete)

-- a text in two parts, and the world between them
pub record Parts (taken : ℕ) (xs ys : List (List ℕ)) (world : World) (told : List ℕ) : Type 0 where
  pub first : List ℕ
  pub second : List ℕ
  pub last : World
  pub before : TextFrom taken xs world first
  pub ends : EndsFrom taken xs world last
  pub behind : TextFrom 0 ys last second
  pub are : told ≡ first ++ second

one_more : (line : List ℕ) (xs ys : List (List ℕ)) (world next : World) (now later told : List ℕ) → Prints (command_of line) (text_of (text_lines (command_of line)) xs) world now
    → After (command_of line) (text_of (text_lines (command_of line)) xs) world next → told ≡ now ++ later → Parts (text_lines (command_of line)) xs ys next later → Parts 0 (line ∷ xs) ys world told
unfolding TextFrom EndsFrom
one_more line xs ys world next now later told prints after e p = record {
  first = now ++ p.first;
  second = p.second;
  last = p.last;
  before = (now, p.first, next, prints, after, p.before, refl);
  ends = (next, after, p.ends);
  behind = p.behind;
  are = e ∙ ap (λ (l : List ℕ). now ++ l) p.are ∙ sym (append_assoc now p.first p.second);
}

pub parts : (taken : ℕ) (xs ys : List (List ℕ)) (world : World) (told : List ℕ) → IsCompleteFrom taken xs → TextFrom taken (xs ++ ys) world told → Parts taken xs ys world told
unfolding TextFrom EndsFrom
parts zero [] ys world told complete g = record { first = []; second = told; last = world; before = refl; ends = refl; behind = g; are = refl }
parts (suc taken) [] ys world told complete g = absurd complete
parts (suc taken) (line ∷ xs) ys world told complete g =
    let p = parts taken xs ys world told complete g in
    record { first = p.first; second = p.second; last = p.last; before = p.before; ends = p.ends; behind = p.behind; are = p.are }
parts zero (line ∷ xs) ys world told complete g =
    let n = text_lines (command_of line) in
    let same = text_first n xs ys complete in
    one_more line xs ys world g.2 g.0 g.1 told
    (subst (λ t. Prints (command_of line) t world g.0) same g.3)
    (subst (λ t. After (command_of line) t world g.2) same g.4) g.6
    (parts n xs ys g.2 g.1 complete g.5)

pub text_parts : (kept script told : List ℕ) → IsComplete kept → SessionText One (kept ++ script) told
    → (before : List ℕ) × (text : List ℕ) × SessionText One kept before × Continues kept script text × (told ≡ before ++ text)
text_parts kept script told complete g =
    let p = parts 0 (lines_of kept) (lines_of script) (empty_world One) told complete.texts (subst (λ ls. TextFrom 0 ls (empty_world One) told) (lines_part kept script complete) g) in
    (p.first, p.second, p.before, (p.last, p.ends, p.behind), p.are)

-- ---- worlds that are reached

pub itself : (lines : List (List ℕ)) (world : World) → ReachedFrom 0 lines world world
unfolding ReachedFrom
itself [] world = refl
itself (line ∷ lines) world = inl refl

pub reached_first : (taken : ℕ) (xs ys : List (List ℕ)) (world other : World) → IsCompleteFrom taken xs → ReachedFrom taken xs world other → ReachedFrom taken (xs ++ ys) world other
unfolding ReachedFrom
reached_first zero [] ys world other complete g = subst (λ w. ReachedFrom 0 ys world w) (sym g) (itself ys world)
reached_first (suc taken) [] ys world other complete g = absurd complete
reached_first (suc taken) (line ∷ xs) ys world other complete g = reached_first taken xs ys world other complete g
reached_first zero (line ∷ xs) ys world other complete (inl g) = inl g
reached_first zero (line ∷ xs) ys world other complete (inr (next, after, g)) =
    let n = text_lines (command_of line) in
    inr (next, subst (λ t. After (command_of line) t world next) (sym (text_first n xs ys complete)) after, reached_first n xs ys next other complete g)

pub reached_behind : (taken : ℕ) (xs ys : List (List ℕ)) (world last other : World) → IsCompleteFrom taken xs → EndsFrom taken xs world last → ReachedFrom 0 ys last other → ReachedFrom taken (xs ++ ys) world other
unfolding ReachedFrom EndsFrom
reached_behind zero [] ys world last other complete e g = subst (λ w. ReachedFrom 0 ys w other) e g
reached_behind (suc taken) [] ys world last other complete e g = absurd complete
reached_behind (suc taken) (line ∷ xs) ys world last other complete e g = reached_behind taken xs ys world last other complete e g
reached_behind zero (line ∷ xs) ys world last other complete (next, after, e) g =
    let n = text_lines (command_of line) in
    inr (next, subst (λ t. After (command_of line) t world next) (sym (text_first n xs ys complete)) after, reached_behind n xs ys next last other complete e g)

pub clear_behind : (kept script : List ℕ) → IsComplete kept → IsClear One (kept ++ script) → IsClearBehind kept script
clear_behind kept script complete clear =
    let part = sym (lines_part kept script complete) in
    record {
      before = λ other g. clear other (subst (λ ls. ReachedFrom 0 ls (empty_world One) other) part (reached_first 0 (lines_of kept) (lines_of script) (empty_world One) other complete.texts g));
      behind = λ world leaves other g. clear other (subst (λ ls. ReachedFrom 0 ls (empty_world One) other) part
          (reached_behind 0 (lines_of kept) (lines_of script) (empty_world One) world other complete.texts leaves g));
    }
