-- The text of a command, line by line.
use Rattle.std.proofs.Common.{◌++◌, ◌-◌, Option, None, Some, subst, length-append, append_assoc, append-nil, ◌≡◌, ℕ, zero, suc, ◌<◌, List, [], ◌∷◌, length, take, drop, get_or, refl, ap, inl, inr, ◌∙◌, sym, arith}
use Rattle.std.specs.Prelude.{◌==◌, true, Bool, if◌then◌else◌, ◌||◌}
use Rattle.std.specs.Option.{option_map}
use Rattle.std.proofs.lemmas.Bool.Decides.{eqb_tells}
use Rattle.std.proofs.lemmas.Bool.{false≢true}
use Rattle.std.proofs.lemmas.List.{get_or-append_right}
use Rattle.std.proofs.Math.Seq.{take-append_seam, take-suc, take-length}
use Rattle.std.proofs.Math.Dec.{eqb-suc-zero}
use Rattle.ws_command.specs.Lines.{lines_of}
use Rattle.ws_command.specs.Commands.{text_of}
use Rattle.ws_command.specs.Pieces.{without_newline, closed}
use Rattle.goset_cli.specs.Requests.{AreLines}

-- the front of a script is the text of its first lines, all but the last that are left
pub record IsFront (script front rest : List ℕ) (lines left : ℕ) : Type 0 where
  pub whole : script ≡ front ++ rest
  pub text : text_of lines (lines_of script) ≡ option_map (λ t. closed front ++ t) (text_of left (lines_of rest))
  pub ended : 0 < length rest → closed front ≡ front
  pub behind : drop left (lines_of rest) ≡ drop lines (lines_of script)

some_is : (t : Option (List ℕ)) → t ≡ option_map (λ t. [] ++ t) t
some_is None = refl
some_is (Some t) = refl

-- no line is taken at first
pub no_front : (script : List ℕ) (lines : ℕ) → IsFront script [] script lines lines
no_front script lines = record { whole = refl; text = some_is _; ended = λ h. refl; behind = refl }

closed_if : (n b : ℕ) (text : List ℕ) → 0 < n → (if (n == 0) || (b == 10) then text else text ++ 10 ∷ []) ≡ (if b == 10 then text else text ++ 10 ∷ [])
closed_if zero b text lt = absurd (omega arith)
closed_if (suc n) b text lt = rw (eqb-suc-zero n) refl

-- with a newline, where it hasn't one
abbrev pub ended_by : ℕ → List ℕ → List ℕ
ended_by b text = if b == 10 then text else text ++ 10 ∷ []

ended_by-append : (b : ℕ) (front piece : List ℕ) → ended_by b (front ++ piece) ≡ front ++ ended_by b piece
ended_by-append b front piece = elim (eqb_tells b 10) [ inl t ↦ rw t.0 refl | inr t ↦ rw t.0 (append_assoc front piece (10 ∷ [])) ]

pub closed_is : (text : List ℕ) → 0 < length text → closed text ≡ ended_by (get_or text (length text - 1) 0) text
closed_is text lt = closed_if (length text) (get_or text (length text - 1) 0) text lt

last-append : (front piece : List ℕ) → 0 < length piece → get_or (front ++ piece) (length (front ++ piece) - 1) 0 ≡ get_or piece (length piece - 1) 0
last-append front piece lt =
    let n : length (front ++ piece) - 1 - length front ≡ length piece - 1 = omega (arith, length-append front piece) in
    get_or-append_right front piece (length front) (length (front ++ piece) - 1) 0 refl (omega (arith, length-append front piece)) ∙ ap (λ (k : ℕ). get_or piece k 0) n

-- the newline is added to the last piece
pub closed-append : (front piece : List ℕ) → 0 < length piece → closed (front ++ piece) ≡ front ++ closed piece
closed-append front piece lt =
    closed_is (front ++ piece) (omega (arith, length-append front piece))
    ∙ ap (λ (b : ℕ). ended_by b (front ++ piece)) (last-append front piece lt)
    ∙ ended_by-append (get_or piece (length piece - 1) 0) front piece
    ∙ ap (λ (t : List ℕ). front ++ t) (sym (closed_is piece lt))

-- the newline that ends a piece
cut_last : (piece : List ℕ) → 0 < length piece → get_or piece (length piece - 1) 0 ≡ 10 → piece ≡ take (length piece - 1) piece ++ 10 ∷ []
cut_last piece lt is =
    let all : take (suc (length piece - 1)) piece ≡ piece = let n : suc (length piece - 1) ≡ length piece = omega arith in ap (λ (n : ℕ). take n piece) n ∙ take-length piece in
    sym all ∙ take-suc piece (length piece - 1) 0 (omega arith) ∙ ap (λ (b : ℕ). take (length piece - 1) piece ++ b ∷ []) is

line_by : (b : ℕ) (piece front : List ℕ) → (b ≡ 10 → piece ≡ front ++ 10 ∷ []) → ended_by b piece ≡ (if b == 10 then front else piece) ++ 10 ∷ []
line_by b piece front h = elim (eqb_tells b 10) [ inl t ↦ rw t.0 (h t.1) | inr t ↦ rw t.0 refl ]

-- a newline is added behind a line without one
pub closed_line : (piece : List ℕ) → 0 < length piece → closed piece ≡ without_newline piece ++ 10 ∷ []
closed_line piece lt = closed_is piece lt ∙ line_by (get_or piece (length piece - 1) 0) piece (take (length piece - 1) piece) (cut_last piece lt)

-- one more line at the front
one_more : (front piece line : List ℕ) (t : Option (List ℕ)) → closed front ≡ front → closed (front ++ piece) ≡ front ++ (line ++ 10 ∷ []) →
    option_map (λ t. closed front ++ t) (option_map (λ t. line ++ 10 ∷ t) t) ≡ option_map (λ t. closed (front ++ piece) ++ t) t
one_more front piece line None e f = refl
one_more front piece line (Some t) e f = ap Some (rw (e, f) (sym (append_assoc front (line ++ 10 ∷ []) t ∙ ap (λ (s : List ℕ). front ++ s) (append_assoc line (10 ∷ []) t))))

text_suc : (left : ℕ) (lines : List (List ℕ)) (line : List ℕ) (behind : List (List ℕ)) → 0 < left → lines ≡ line ∷ behind → text_of left lines ≡ option_map (λ t. line ++ 10 ∷ t) (text_of (left - 1) behind)
text_suc left lines line behind h e =
    let p : left ≡ suc (left - 1) = omega arith in
    subst (λ (k : ℕ). text_of k lines ≡ option_map (λ t. line ++ 10 ∷ t) (text_of (left - 1) behind)) (sym p) (subst (λ (ls : List (List ℕ)). text_of (suc (left - 1)) ls ≡ option_map (λ t. line ++ 10 ∷ t) (text_of (left - 1) behind)) (sym e) refl)

drop_suc : (left : ℕ) (lines : List (List ℕ)) (line : List ℕ) (behind : List (List ℕ)) → 0 < left → lines ≡ line ∷ behind → drop (left - 1) behind ≡ drop left lines
drop_suc left lines line behind h e =
    let p : left ≡ suc (left - 1) = omega arith in
    subst (λ (k : ℕ). drop (left - 1) behind ≡ drop k lines) (sym p) (subst (λ (ls : List (List ℕ)). drop (left - 1) behind ≡ drop (suc (left - 1)) ls) (sym e) refl)

-- the next line is taken too
pub next_front : (script front rest piece behind : List ℕ) (lines left : ℕ) → IsFront script front rest lines left → 0 < left → rest ≡ piece ++ behind →
    lines_of rest ≡ without_newline piece ∷ lines_of behind → 0 < length piece → (0 < length behind → closed piece ≡ piece) → IsFront script (front ++ piece) behind lines (left - 1)
next_front script front rest piece behind lines left at some is line lt ended =
    let whole_front : closed front ≡ front = at.ended (omega (arith, ap length is, length-append piece behind)) in
    let more : closed (front ++ piece) ≡ front ++ closed piece = closed-append front piece lt in
    let more_line : closed (front ++ piece) ≡ front ++ (without_newline piece ++ 10 ∷ []) = more ∙ ap (λ (t : List ℕ). front ++ t) (closed_line piece lt) in
    record {
      whole = at.whole ∙ ap (λ (t : List ℕ). front ++ t) is ∙ sym (append_assoc front piece behind);
      text = at.text ∙ ap (λ (t : Option (List ℕ)). option_map (λ t. closed front ++ t) t) (text_suc left _ _ _ some line) ∙ one_more front piece (without_newline piece) (text_of (left - 1) (lines_of behind)) whole_front more_line;
      ended = λ h. more ∙ ap (λ (t : List ℕ). front ++ t) (ended h);
      behind = drop_suc left _ _ _ some line ∙ at.behind;
    }

-- where no line is left to take, the front is the text
pub all_taken : (script front rest text copy : List ℕ) (lines left : ℕ) → IsFront script front rest lines left → left ≡ 0 → text ≡ take (length script - length rest) script → copy ≡ closed text → Some copy ≡ text_of lines (lines_of script)
all_taken script front rest text copy lines left at none e f =
    let n : length script - length rest ≡ length front = omega (arith, ap length at.whole, length-append front rest) in
    let text_is : text ≡ front = e ∙ rw (n, at.whole) (take-append_seam front rest) in
    let all : text_of lines (lines_of script) ≡ Some (closed front) = at.text ∙ rw none (ap Some (append-nil (closed front))) in
    ap Some (f ∙ ap closed text_is) ∙ sym all

-- where lines are left to take and no script, there is no such text
pub text_missing : (script front rest : List ℕ) (lines left : ℕ) → IsFront script front rest lines left → 0 < left → rest ≡ [] → None ≡ text_of lines (lines_of script)
text_missing script front rest lines left at some e =
    let p : left ≡ suc (left - 1) = omega arith in
    sym (at.text ∙ rw (e, p) refl)

pub empty_is : (b : Bool) (bytes : List ℕ) → b ≡ (length bytes == 0) → b ≡ true → bytes ≡ []
empty_is b [] e f = refl
empty_is b (x ∷ bytes) e f = absurd (false≢true (sym (eqb-suc-zero (length bytes)) ∙ sym e ∙ f))

-- ---- the first command

-- whole lines behind a whole line
lines_behind : (line front : List ℕ) → closed line ≡ line → closed front ≡ front → closed (line ++ front) ≡ line ++ front
lines_behind line [] e f = ap closed (append-nil line) ∙ (e ∙ sym (append-nil line))
lines_behind line (b ∷ front) e f = closed-append line (b ∷ front) (omega arith) ∙ ap (λ (s : List ℕ). line ++ s) f

-- a script's first line, and the lines of a text behind it, are whole lines
pub first_lines : (script line behind front rest bytes : List ℕ) → script ≡ line ++ behind → (0 < length behind → closed line ≡ line) → behind ≡ front ++ rest
    → (0 < length rest → closed front ≡ front) → bytes ≡ take (length script - length rest) script → AreLines script bytes rest × (bytes ≡ line ++ front)
first_lines script line behind front rest bytes whole line_ended parts front_ended are =
    let all : script ≡ (line ++ front) ++ rest = whole ∙ (ap (λ (s : List ℕ). line ++ s) parts ∙ sym (append_assoc line front rest)) in
    let n : length script - length rest ≡ length (line ++ front) = omega (arith, ap length all, length-append (line ++ front) rest) in
    let bytes_are : bytes ≡ line ++ front = are ∙ rw (n, all) (take-append_seam (line ++ front) rest) in (
      (
        all ∙ ap (λ (s : List ℕ). s ++ rest) (sym bytes_are),
        λ some. ap closed bytes_are
            ∙ (lines_behind line front (line_ended (omega (arith, some, ap length parts, length-append front rest))) (front_ended some) ∙ sym bytes_are),
      ),
      bytes_are,
    )
