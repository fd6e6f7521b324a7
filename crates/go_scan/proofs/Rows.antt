-- A text is cut in one way, up to its end or to what is refused.
use Rattle.std.proofs.Common.{◌≡◌, ℕ, ◌+◌, ◌≤◌, ◌⊎◌, inl, inr, zero, suc, Bool, false, List, [], ◌∷◌, ◌++◌, length, take, drop, length-append, length-drop, Option, Some, None, refl, sym, ap, ◌∙◌, subst, arith}
use Rattle.std.proofs.Math.Seq.{drop-append_seam}
use Rattle.std.proofs.lemmas.List.{drop-drop}
use Rattle.go_text.specs.declared.place.Place.{Place}
use Rattle.go_text.specs.Places.{place_at, mark_size}
use Rattle.go_scan.specs.declared.fault.ScanFault.{ScanFault}
use Rattle.go_scan.specs.declared.fault.ScanFault.TheVariants.{Malformed}
use Rattle.go_scan.specs.declared.shape.Shape.{Shape}
use Rattle.go_scan.specs.declared.token.Token.{Token}
use Rattle.go_scan.specs.Lex.{Piece, Begins, has_begun, piece_fault, IsRow, begun_after, BeginsNone, IsRefused, tokens_of, with_semis, Lexes, Refuses}
use Rattle.go_scan.specs.Fronts.{front}
use Rattle.go_scan.proofs.Runs.{Good, take_front}
use Rattle.go_scan.proofs.Fronts.{good, piece_begins, begins_front, begins_none}

abbrev shape_or : Shape → Option (Shape × ℕ) → Shape
shape_or s None = s
shape_or s (Some p) = p.0

abbrev size_or : Option (Shape × ℕ) → ℕ
size_or None = 0
size_or (Some p) = p.1

-- a text begins with one piece
pub begins_one : (p q : Piece) (text rs ss : List ℕ) → Begins p text rs → Begins q text ss → (p ≡ q) × (rs ≡ ss)
begins_one p q text rs ss b d =
    let both : Some (p.shape, length p.bytes) ≡ Some (q.shape, length q.bytes) = sym (begins_front p text rs b) ∙ begins_front q text ss d in
    let shapes : p.shape ≡ q.shape = ap (shape_or p.shape) both in
    let sizes : length p.bytes ≡ length q.bytes = ap size_or both in
    let bytes : p.bytes ≡ q.bytes = sym (take_front p.bytes rs text (length p.bytes) b.whole refl) ∙ take_front q.bytes ss text (length p.bytes) d.whole sizes in
    let rests : rs ≡ ss =
    sym (drop-append_seam p.bytes rs) ∙ ap (λ ys. drop (length p.bytes) ys) (sym b.whole) ∙ ap (λ k. drop k text) sizes ∙ ap (λ ys. drop (length q.bytes) ys) d.whole ∙ drop-append_seam q.bytes ss in
    (ap (λ s. record { shape = s; bytes = p.bytes }) shapes ∙ ap (λ bs. record { shape = q.shape; bytes = bs }) bytes, rests)

-- no piece is empty
pub begins_some : (p : Piece) (text rest : List ℕ) → Begins p text rest → 1 ≤ length p.bytes
begins_some p text rest b = (subst (Good text) (begins_front p text rest b) (good text)).1

pub begins_empty : (p : Piece) (rest : List ℕ) → Begins p [] rest → ⊥
begins_empty p rest b =
    let none : length (p.bytes ++ rest) ≡ 0 = ap (λ (ys : List ℕ). length ys) (sym b.whole) in
    absurd (omega (arith, none, begins_some p [] rest b, length-append p.bytes rest))

-- where a row ends: at the text's end, or at what is refused
abbrev pub Final : Bool → List ℕ → Type 0
Final begun text = (text ≡ []) ⊎ ((fault : ScanFault) × IsRefused begun text fault)

fault_clash : (begun : Bool) (p q : Piece) (fault : ScanFault) → p ≡ q → piece_fault begun p ≡ None → piece_fault begun q ≡ Some fault → ⊥
fault_clash begun p q fault same none some = let both : None ≡ Some fault = sym none ∙ ap (piece_fault begun) same ∙ some in cc

final_stops : (begun : Bool) (p : Piece) (text rest : List ℕ) → Begins p text rest → piece_fault begun p ≡ None → Final begun text → ⊥
final_stops begun p text rest b none (inl e) = begins_empty p rest (subst (λ t. Begins p t rest) e b)
final_stops begun p text rest b none (inr (fault, inl (q, others, d, some))) = fault_clash begun p q fault (begins_one p q text rest others b d).0 none some
final_stops begun p text rest b none (inr (fault, inr (never, same))) = never.1 p rest b

pub one_row : (begun : Bool) (ps qs : List Piece) (text r s : List ℕ) → IsRow begun ps text r → Final (begun_after begun ps) r → IsRow begun qs text s → Final (begun_after begun qs) s → (ps ≡ qs) × (r ≡ s)
one_row begun [] [] text r s a f b g = (refl, sym a ∙ b)
one_row begun [] (q ∷ qs) text r s a f b g = absurd (final_stops begun q text b.0 b.1 b.2 (subst (Final begun) (sym a) f))
one_row begun (p ∷ ps) [] text r s a f b g = absurd (final_stops begun p text a.0 a.1 a.2 (subst (Final begun) (sym b) g))
one_row begun (p ∷ ps) (q ∷ qs) text r s a f b g =
    let h = begins_one p q text a.0 b.0 a.1 b.1 in
    let row : IsRow (has_begun begun p.shape) qs a.0 s = subst (λ (x : Piece). IsRow (has_begun begun x.shape) qs a.0 s) (sym h.0) (subst (λ z. IsRow (has_begun begun q.shape) qs z s) (sym h.1) b.3) in
    let final : Final (begun_after (has_begun begun p.shape) qs) s = subst (λ (x : Piece). Final (begun_after (has_begun begun x.shape) qs) s) (sym h.0) g in
    let ih = one_row (has_begun begun p.shape) ps qs a.0 r s a.3 f row final in
    (ap (λ z. z ∷ ps) h.0 ∙ ap (λ zs. q ∷ zs) ih.0, ih.1)

-- so it has one list of tokens
pub one_list : (text : List ℕ) (a b : List Token) → Lexes text a → Lexes text b → a ≡ b
one_list text a b p q =
    let rows = one_row false p.0 q.0 (drop (mark_size text) text) [] [] p.1 (inl refl) q.1 (inl refl) in
    p.2 ∙ ap (λ ps. with_semis text (tokens_of text (mark_size text) ps)) rows.0 ∙ sym q.2

-- what is refused is not the end
refused_some : (begun : Bool) (fault : ScanFault) → IsRefused begun [] fault → ⊥
refused_some begun fault (inl (p, rest, b, e)) = begins_empty p rest b
refused_some begun fault (inr (none, e)) = none.0 refl

-- and no refusal
pub not_both : (text : List ℕ) (ts : List Token) (fault : ScanFault) (place : Place) → Lexes text ts → Refuses text fault place → ⊥
not_both text ts fault place p q =
    let rows = one_row false p.0 q.0 (drop (mark_size text) text) [] (drop q.1 text) p.1 (inl refl) q.2 (inr (fault, q.3)) in
    refused_some (begun_after false q.0) fault (subst (λ ys. IsRefused (begun_after false q.0) ys fault) (sym rows.1) q.3)

-- one text is refused for one fault
one_fault : (begun : Bool) (text : List ℕ) (f g : ScanFault) → IsRefused begun text f → IsRefused begun text g → f ≡ g
one_fault begun text f g (inl (p, rs, b, e)) (inl (q, ss, d, h)) =
    let both : Some f ≡ Some g = sym e ∙ ap (piece_fault begun) (begins_one p q text rs ss b d).0 ∙ h in cc
one_fault begun text f g (inl (p, rs, b, e)) (inr (none, h)) = absurd (none.1 p rs b)
one_fault begun text f g (inr (none, h)) (inl (q, ss, d, e)) = absurd (none.1 q ss d)
one_fault begun text f g (inr (none, h)) (inr (other, e)) = h ∙ sym e

refused_long : (begun : Bool) (text : List ℕ) (fault : ScanFault) → IsRefused begun text fault → 1 ≤ length text
refused_long begun [] fault h = absurd (refused_some begun fault h)
refused_long begun (b ∷ bs) fault h = omega arith

pub one_refusal : (text : List ℕ) (f g : ScanFault) (a b : Place) → Refuses text f a → Refuses text g b → (f ≡ g) × (a ≡ b)
one_refusal text f g a b p q =
    let rows = one_row false p.0 q.0 (drop (mark_size text) text) (drop p.1 text) (drop q.1 text) p.2 (inr (f, p.3)) q.2 (inr (g, q.3)) in
    let begun : begun_after false p.0 ≡ begun_after false q.0 = ap (begun_after false) rows.0 in
    let other : IsRefused (begun_after false p.0) (drop p.1 text) g = subst (λ ys. IsRefused (begun_after false p.0) ys g) (sym rows.1) (subst (λ x. IsRefused x (drop q.1 text) g) (sym begun) q.3) in
    let long = refused_long (begun_after false p.0) (drop p.1 text) f p.3 in
    let sizes : length (drop p.1 text) ≡ length (drop q.1 text) = ap (λ (ys : List ℕ). length ys) rows.1 in
    let at : p.1 ≡ q.1 = omega (arith, long, sizes, length-drop p.1 text, length-drop q.1 text) in
    (one_fault (begun_after false p.0) (drop p.1 text) f g p.3 other, p.4 ∙ ap (place_at text) at ∙ sym q.4)

-- each text from an offset on is a row up to its end, or up to what is refused
abbrev pub Sound : List ℕ → ℕ → Bool → Type 0
Sound text at begun = (ps : List Piece) × IsRow begun ps (drop at text) []

abbrev pub Wrong : List ℕ → ℕ → Bool → Type 0
Wrong text at begun = (ps : List Piece) × (to : ℕ) × (fault : ScanFault) × IsRow begun ps (drop at text) (drop to text) × IsRefused (begun_after begun ps) (drop to text) fault

row_step : (n : ℕ) (text : List ℕ) (at : ℕ) (begun : Bool) (rest : List ℕ) → drop at text ≡ rest → length rest ≤ suc n →
    ((k : ℕ) (b : Bool) → length (drop k text) ≤ n → Sound text k b ⊎ Wrong text k b) → Sound text at begun ⊎ Wrong text at begun
row_step n text at begun [] e le rec = inl ([], e)
row_step n text at begun (b ∷ bs) e le rec = by_front (front (b ∷ bs)) refl
  where
    by_fault : (p : Piece) (k : ℕ) → Begins p (drop at text) (drop (at + k) text) → length (drop (at + k) text) ≤ n → (o : Option ScanFault) → piece_fault begun p ≡ o → Sound text at begun ⊎ Wrong text at begun
    by_fault p k h short (Some fault) q = inr ([], at, fault, refl, inl (p, drop (at + k) text, h, q))
    by_fault p k h short None q = elim (rec (at + k) (has_begun begun p.shape) short) [
      | inl w ↦ inl (p ∷ w.0, (drop (at + k) text, h, q, w.1))
      | inr w ↦ inr (p ∷ w.0, w.1, w.2, (drop (at + k) text, h, q, w.3), w.4)
    ]

    by_front : (o : Option (Shape × ℕ)) → front (b ∷ bs) ≡ o → Sound text at begun ⊎ Wrong text at begun
    by_front None f = inr ([], at, Malformed, refl, inr (subst BeginsNone (sym e) (begins_none b bs f), refl))
    by_front (Some (s, k)) f =
        let p : Piece = record { shape = s; bytes = take k (b ∷ bs) } in
        let h = piece_begins (b ∷ bs) s k f in
        let behind : drop k (b ∷ bs) ≡ drop (at + k) text = ap (λ ys. drop k ys) (sym e) ∙ drop-drop k at text in
        let there : Begins p (drop at text) (drop (at + k) text) = subst (λ ys. Begins p ys (drop (at + k) text)) (sym e) (subst (λ ys. Begins p (b ∷ bs) ys) behind h) in
        let some = (subst (Good (b ∷ bs)) f (good (b ∷ bs))).1 in
        by_fault p k there (omega (arith, some, ap (λ (ys : List ℕ). length ys) behind, length-drop k (b ∷ bs))) (piece_fault begun p) refl

pub row_or_refusal : (n : ℕ) (text : List ℕ) (at : ℕ) (begun : Bool) → length (drop at text) ≤ n → Sound text at begun ⊎ Wrong text at begun
row_or_refusal zero text at begun le = inl ([], empty (drop at text) le)
  where
    empty : (xs : List ℕ) → length xs ≤ 0 → xs ≡ []
    empty [] e = refl
    empty (x ∷ xs) e = absurd (omega arith)
row_or_refusal (suc n) text at begun le = row_step n text at begun (drop at text) refl le (λ k b short. row_or_refusal n text k b short)

-- so a text has a list, or is refused
pub list_or_refusal : (text : List ℕ) → ((ts : List Token) × Lexes text ts) ⊎ ((fault : ScanFault) × (place : Place) × Refuses text fault place)
list_or_refusal text = elim (row_or_refusal (length (drop (mark_size text) text)) text (mark_size text) false (omega arith)) [
  | inl w ↦ inl (with_semis text (tokens_of text (mark_size text) w.0), (w.0, w.1, refl))
  | inr w ↦ inr (w.2, place_at text w.1, (w.0, w.1, w.3, w.4, refl))
]
