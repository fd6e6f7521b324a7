-- What one read more tells, and what a whole session was told.
use Rattle.std.proofs.Common.{◌≡◌, ℕ, suc, ◌+◌, List, [], ◌∷◌, ◌++◌, map, Option, Some, Result, Ok, Err, OnOk, refl, sym, ap, ◌∙◌, subst, Vec, arith}
use Rattle.std.specs.Global.{Global}
use Rattle.std.proofs.lemmas.List.{append_assoc, append-nil}
use Rattle.go_text.specs.declared.edition.Edition.TheVariants.{One}
use Rattle.goset_cli.specs.Streams.{ReadResult, Gave, End, Failed}
use Rattle.goset_cli.specs.Reading.{concatenated}
use Rattle.goset_cli.specs.Ends.{Session, Wrote}
use Rattle.goset_cli.specs.declared.running.SessionError.{SessionError}
use Rattle.workspace_tests.specs.Remembered.{events, failures, all_shown, bytes_read}

plus_one : (n : ℕ) → n + 1 ≡ suc n
plus_one n = omega arith

pub fails : (a b : List (Option (Vec ℕ Global))) (n : ℕ) → all_shown b ≡ all_shown a → events b (n + 1) ≡ events a n ++ Failed ∷ []
fails a b n e = ap (λ l. l ++ failures (n + 1)) e ∙ ap (λ k. all_shown a ++ failures k) (plus_one n) ∙ sym (append_assoc (all_shown a) (failures n) (Failed ∷ []))

pub gives : (a b : List (Option (Vec ℕ Global))) (t : ReadResult) (n m : ℕ) → n ≡ 0 → m ≡ 0 → all_shown b ≡ all_shown a ++ t ∷ [] → events b m ≡ events a n ++ t ∷ []
gives a b t n m z w e = ap (λ k. all_shown b ++ failures k) w ∙ append-nil (all_shown b) ∙ e ∙ ap (λ l. l ++ t ∷ []) (sym (append-nil (all_shown a)) ∙ ap (λ k. all_shown a ++ failures k) (sym z))

bytes_given : (pieces : List (List ℕ)) → bytes_read (map Gave pieces ++ End ∷ []) ≡ concatenated pieces
bytes_given [] = refl
bytes_given (piece ∷ pieces) = ap (λ l. piece ++ l) (bytes_given pieces)

-- what a session read to its end wrote, whose reader had told nothing
pub tells : (told told' : List ReadResult) (written written' : Option (List ℕ)) (u : Unit {0}) → told ≡ [] → Session One (Ok u) (Some told) (Some told') written written'
    → Wrote One (bytes_read told') written written'
tells told told' written written' u none s =
    let same : bytes_read told' ≡ s.0 = ap bytes_read (s.1.1 ∙ ap (λ l. l ++ (map Gave s.1.0 ++ End ∷ [])) none) ∙ bytes_given s.1.0 ∙ s.1.2 in
    subst (λ l. Wrote One l written written') (sym same) s.3

-- the same of each answer
pub told_session : (result : Result (Unit {0}) SessionError) (told told' : List ReadResult) (written written' : Option (List ℕ)) → told ≡ []
    → Session One result (Some told) (Some told') written written' → OnOk result (Wrote One (bytes_read told') written written')
told_session (Ok u) told told' written written' none s = tells told told' written written' u none s
told_session (Err e) told told' written written' none s = tt

-- a reader that remembers nothing, and failed at no read, told nothing
pub events_none : (told : List (Option (Vec ℕ Global))) (failed : ℕ) → told ≡ [] → failed ≡ 0 → events told failed ≡ []
events_none told failed none never = ap (λ l. all_shown l ++ failures failed) none ∙ ap failures never
