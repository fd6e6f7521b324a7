-- Scripts that do what others do, one behind the other.
use Rattle.std.proofs.Common.{◌≡◌, ℕ, zero, suc, List, [], ◌∷◌, ◌++◌, take, Option, None, Some, sym, ap, ◌∙◌, subst, inl, inr, refl, ◌⊎◌, append_assoc, append-nil}
use Rattle.std.specs.Option.{option_map}
use Rattle.ws_command.specs.Lines.{lines_of}
use Rattle.ws_command.specs.Commands.{command_of, text_lines, text_of}
use Rattle.ws_session.specs.World.{World, After, empty_world}
use Rattle.go_text.specs.declared.edition.Edition.TheVariants.{One}
use Rattle.ws_keep.specs.Keeping.{EndsFrom, IsComplete, IsCompleteFrom, IsLike, LeavesFrom, ReplaysFrom, Restores}
use Rattle.ws_keep.proofs.Forever.{like_after, like_chain, like_itself}
use Rattle.ws_keep.proofs.Parting.{lines_part, text_first}

-- ---- lines behind others

ends_both : (taken : ℕ) (xs ys : List (List ℕ)) (world next last : World) → IsCompleteFrom taken xs → EndsFrom taken xs world next → EndsFrom 0 ys next last → EndsFrom taken (xs ++ ys) world last
unfolding EndsFrom
ends_both zero [] ys world next last complete e g = subst (λ w. EndsFrom 0 ys w last) e g
ends_both (suc taken) [] ys world next last complete e g = absurd complete
ends_both (suc taken) (line ∷ xs) ys world next last complete e g = ends_both taken xs ys world next last complete e g
ends_both zero (line ∷ xs) ys world next last complete (mid, after, e) g =
    let n = text_lines (command_of line) in
    (mid, subst (λ t. After (command_of line) t world mid) (sym (text_first n xs ys complete)) after, ends_both n xs ys mid next last complete e g)

complete_lines : (taken : ℕ) (xs ys : List (List ℕ)) → IsCompleteFrom taken xs → IsCompleteFrom 0 ys → IsCompleteFrom taken (xs ++ ys)
complete_lines zero [] ys f g = g
complete_lines (suc taken) [] ys f g = absurd f
complete_lines (suc taken) (line ∷ xs) ys f g = complete_lines taken xs ys f g
complete_lines zero (line ∷ xs) ys f g = complete_lines (text_lines (command_of line)) xs ys f g

ends_in_both : (a b : List ℕ) → IsComplete a → IsComplete b → ((a ++ b) ≡ []) ⊎ ((front : List ℕ) × ((a ++ b) ≡ front ++ 10 ∷ []))
ends_in_both a b f g = elim g.ends [
  | inl none ↦
      let same : a ++ b ≡ a = ap (λ (s : List ℕ). a ++ s) none ∙ append-nil a in
      elim f.ends [ inl empty ↦ inl (same ∙ empty) | inr some ↦ inr (some.0, same ∙ some.1) ]
  | inr some ↦ inr (a ++ some.0, ap (λ (s : List ℕ). a ++ s) some.1 ∙ sym (append_assoc a some.0 (10 ∷ [])))
]

pub complete_both : (a b : List ℕ) → IsComplete a → IsComplete b → IsComplete (a ++ b)
complete_both a b f g = record {
  ends = ends_in_both a b f g;
  texts = subst (λ (ls : List (List ℕ)). IsCompleteFrom 0 ls) (sym (lines_part a b f)) (complete_lines 0 (lines_of a) (lines_of b) f.texts g.texts);
}

pub leaves_both : (a b : List ℕ) (world next last : World) → IsComplete a → LeavesFrom world a next → LeavesFrom next b last → LeavesFrom world (a ++ b) last
leaves_both a b world next last f e g =
    subst (λ (ls : List (List ℕ)). EndsFrom 0 ls world last) (sym (lines_part a b f)) (ends_both 0 (lines_of a) (lines_of b) world next last f.texts e g)

-- ---- scripts that do the same

pub replays_none : (world : World) → ReplaysFrom [] world world
unfolding EndsFrom
replays_none world = record {
  complete = record { ends = inl refl; texts = tt };
  leads = λ lean like. (lean, refl, like);
}

pub replays_both : (a b : List ℕ) (world next last : World) → ReplaysFrom a world next → ReplaysFrom b next last → ReplaysFrom (a ++ b) world last
replays_both a b world next last f g = record {
  complete = complete_both a b f.complete g.complete;
  leads = λ lean like.
      let mid = f.leads lean like in
      let end = g.leads mid.0 mid.2 in
      (end.0, leaves_both a b lean mid.0 end.0 f.complete mid.1 end.1, end.2);
}

-- what changes no more than what was looked for is left out
pub replays_less : (script : List ℕ) (world next last : World) → ReplaysFrom script world next → IsLike next last → ReplaysFrom script world last
replays_less script world next last f like = record {
  complete = f.complete;
  leads = λ lean is. let mid = f.leads lean is in (mid.0, mid.1, like_chain mid.0 next last mid.2 like);
}

-- ---- one command

-- there are so many lines
abbrev Has : ℕ → List (List ℕ) → Type 0
Has n lines = (text : List ℕ) × (text_of n lines ≡ Some text)

none_more : (line text : List ℕ) → option_map (λ text. line ++ 10 ∷ text) None ≡ Some text → ⊥
none_more line text e = let f : ◌≡◌ {A = Option (List ℕ)} None (Some text) = e in absurd (cc (f))

had_before : (line : List ℕ) (o : Option (List ℕ)) (text : List ℕ) → option_map (λ text. line ++ 10 ∷ text) o ≡ Some text → (its : List ℕ) × (o ≡ Some its)
had_before line None text e = absurd (none_more line text e)
had_before line (Some its) text e = (its, refl)

no_lines : (n : ℕ) (text : List ℕ) → text_of (suc n) [] ≡ Some text → ⊥
no_lines n text e = let f : ◌≡◌ {A = Option (List ℕ)} None (Some text) = e in absurd (cc (f))

has_less : (n : ℕ) (line : List ℕ) (lines : List (List ℕ)) → Has (suc n) (line ∷ lines) → Has n lines
has_less n line lines h = had_before line (text_of n lines) h.0 h.1

-- the text of so many lines is that of these alone
text_taken : (n : ℕ) (lines : List (List ℕ)) → Has n lines → text_of n (take n lines) ≡ text_of n lines
text_taken zero lines h = refl
text_taken (suc n) [] h = absurd (no_lines n h.0 h.1)
text_taken (suc n) (line ∷ lines) h = ap (option_map (λ text. line ++ 10 ∷ text)) (text_taken n lines (has_less n line lines h))

ends_text : (n : ℕ) (lines : List (List ℕ)) (world : World) → Has n lines → EndsFrom n (take n lines) world world
unfolding EndsFrom
ends_text zero lines world h = refl
ends_text (suc n) [] world h = absurd (no_lines n h.0 h.1)
ends_text (suc n) (line ∷ lines) world h = ends_text n lines world (has_less n line lines h)

complete_text : (n : ℕ) (lines : List (List ℕ)) → Has n lines → IsCompleteFrom n (take n lines)
complete_text zero lines h = tt
complete_text (suc n) [] h = absurd (no_lines n h.0 h.1)
complete_text (suc n) (line ∷ lines) h = complete_text n lines (has_less n line lines h)

ends_line : (line : List ℕ) (lines : List (List ℕ)) (world next : World) → Has (text_lines (command_of line)) lines
    → After (command_of line) (text_of (text_lines (command_of line)) lines) world next → EndsFrom 0 (line ∷ take (text_lines (command_of line)) lines) world next
unfolding EndsFrom
ends_line line lines world next h after =
    let n = text_lines (command_of line) in
    (next, subst (λ t. After (command_of line) t world next) (sym (text_taken n lines h)) after, ends_text n lines next h)

-- a script that is a command's line with all lines of its text
pub replays_command : (script line text : List ℕ) (lines : List (List ℕ)) (world next : World) → lines_of script ≡ line ∷ take (text_lines (command_of line)) lines
    → text_of (text_lines (command_of line)) lines ≡ Some text → ((front : List ℕ) × (script ≡ front ++ 10 ∷ []))
    → After (command_of line) (text_of (text_lines (command_of line)) lines) world next → ReplaysFrom script world next
replays_command script line text lines world next are has ended after =
    let n = text_lines (command_of line) in
    record {
      complete = record { ends = inr ended; texts = subst (λ (ls : List (List ℕ)). IsCompleteFrom 0 ls) (sym are) (complete_text n lines (text, has)) };
      leads = λ lean like.
          let left = like_after (command_of line) (text_of n lines) lean world next like after in
          (left.0, subst (λ (ls : List (List ℕ)). EndsFrom 0 ls lean left.0) (sym are) (ends_line line lines lean left.0 (text, has) left.1), left.2);
    }

-- ---- what is kept

pub restores : (script : List ℕ) (world : World) → ReplaysFrom script (empty_world One) world → Restores script world
restores script world f =
    let left = f.leads (empty_world One) (like_itself (empty_world One)) in
    record { complete = f.complete; left = left.0; leaves = left.1; like = left.2 }
