-- The machine answers what the grammar derives, and stops where nothing is derived, given that each token keeps what a
-- state means.
use Rattle.std.proofs.Common.{◌≡◌, ◌≢◌, ℕ, ◌<◌, ◌≤◌, max, ◌⊎◌, inl, inr, Bool, true, false, List, [], ◌∷◌, ◌++◌, Option, Some, None, refl, sym, ap, ◌∙◌, subst, arith, append_assoc, append-nil}
use Rattle.std.specs.Prelude.{nat_le, if◌then◌else◌}
use Rattle.std.proofs.lemmas.Bool.Decides.{nat_tests}
use Rattle.go_text.specs.declared.edition.Edition.{Edition}
use Rattle.go_scan.specs.declared.token.TokenKind.{TokenKind}
use Rattle.go_ast.specs.Trees.{File}
use Rattle.go_ast.specs.Grammar.{Lexeme, Derives, Begins}
use Rattle.go_ast.specs.Expected.{Expected, is_left_out, fault_at}
use Rattle.go_ast.specs.Machine.{Reader, Move, Take, Fail, parser_step, start, final, Done, Refused, at_end, by_level, by_move, run_parser}
use Rattle.go_ast.specs.Stops.{NoneAfter, GoesOn, IsFault, StopsAt}
use Rattle.go_ast.proofs.Means.{Means, Okay, Good, After, Kept}

-- each token keeps, both ways, what leads from a state to a file
pub record Theory (ed : Edition) (B : ℕ) : Type 0 where
  pub back : (s : Reader) (t : Lexeme) (us : List Lexeme) (f : File) → Okay ed B s → After ed B (parser_step ed s t) us f → Means ed B s (t ∷ us) f
  pub forth : (s : Reader) (t : Lexeme) (us : List Lexeme) (f : File) → Okay ed B s → Means ed B s (t ∷ us) f → After ed B (parser_step ed s t) us f
  pub kept : (s : Reader) (t : Lexeme) → Okay ed B s → Kept ed B (parser_step ed s t)
  pub comes : (s : Reader) → Good ed B s → (us : List Lexeme) × (f : File) × Means ed B s us f
  pub ends : (s : Reader) (f : File) → Okay ed B s → final s ≡ Some f → Means ed B s [] f
  pub over : (s : Reader) (f : File) → Means ed B s [] f → final s ≡ Some f
  pub started : (ts : List Lexeme) (f : File) → Derives ed B ts f → Means ed B start ts f
  pub derived : (ts : List Lexeme) (f : File) → Means ed B start ts f → Derives ed B ts f
  pub good : 1 ≤ B → Good ed B start

-- the tokens lead from a state to another, within the bound
abbrev pub Leads : (ed : Edition) → ℕ → Reader → List Lexeme → Reader → Type 0
Leads ed B s [] r = s ≡ r
Leads ed B s (t ∷ ts) r = (need : ℕ) × (q : Reader) × (parser_step ed s t ≡ Take need q) × (need ≤ B) × Leads ed B q ts r

-- here the machine stops
abbrev Stuck : (ed : Edition) → ℕ → Reader → List Lexeme → ℕ → Type 0
Stuck ed B r [] n = (final r ≡ None) × (n ≡ 3)
Stuck ed B r (t ∷ ts) n =
    ((x : Expected) × (parser_step ed r t ≡ Fail x) × (n ≡ fault_at x t.kind))
    ⊎ ((need : ℕ) × (q : Reader) × (parser_step ed r t ≡ Take need q) × (B < need) × (n ≡ 4))

abbrev Stops : (ed : Edition) → ℕ → Reader → List Lexeme → ℕ → List Lexeme → Type 0
Stops ed B s ts n bad = (good : List Lexeme) × (r : Reader) × (ts ≡ good ++ bad) × Leads ed B s good r × Stuck ed B r bad n

not_four : (x : Expected) (k : TokenKind) → fault_at x k ≢ 4
not_four x k = by_test (is_left_out x k)
  where
    by_test : (c : Bool) → ◌≢◌ {A = ℕ} (if c then 2 else 3) 4
    by_test true e = absurd (omega arith)
    by_test false e = absurd (omega arith)

stops : (ed : Edition) → (B : ℕ) (ts : List Lexeme) (s : Reader) (n : ℕ) (bad : List Lexeme) → run_parser ed B s ts ≡ Refused n bad → Stops ed B s ts n bad
unfolding run_parser
stops ed B [] s n bad e = by_end (final s) refl e
  where
    by_end : (o : Option File) → final s ≡ o → at_end o ≡ Refused n bad → Stops ed B s [] n bad
    by_end (Some g) k q = cc
    by_end None k q =
        let number : n ≡ 3 = cc in
        let rest : [] ≡ bad = cc in
        ([], s, rest, refl, subst (λ x. Stuck ed B s x n) rest (k, number))
stops ed B (t ∷ ts) s n bad e = by_moves (λ r q. stops ed B ts r n bad q) (parser_step ed s t) refl e
  where
    by_moves : ((r : Reader) → run_parser ed B r ts ≡ Refused n bad → Stops ed B r ts n bad) → (m : Move) → parser_step ed s t ≡ m →
        by_move B (λ r. run_parser ed B r ts) t.kind (t ∷ ts) m ≡ Refused n bad → Stops ed B s (t ∷ ts) n bad
    by_moves ih (Fail x) k q =
        let number : n ≡ fault_at x t.kind = cc in
        let rest : t ∷ ts ≡ bad = cc in
        ([], s, rest, refl, subst (λ y. Stuck ed B s y n) rest (inl (x, k, number)))
    by_moves ih (Take need r) k q = by_test (nat_le need B) refl q
      where
        by_test : (c : Bool) → nat_le need B ≡ c → by_level c (run_parser ed B r ts) (t ∷ ts) ≡ Refused n bad → Stops ed B s (t ∷ ts) n bad
        by_test true d p =
            let le : need ≤ B = grind (arith, nat_tests) in
            let h = ih r p in
            (t ∷ h.0, h.1, ap (λ xs. t ∷ xs) h.2, (need, r, k, le, h.3), h.4)
        by_test false d p =
            let lt : B < need = grind (arith, nat_tests) in
            let number : n ≡ 4 = cc in
            let rest : t ∷ ts ≡ bad = cc in
            ([], s, rest, refl, subst (λ y. Stuck ed B s y n) rest (inr (need, r, k, lt, number)))

pub deeper : (ed : Edition) → (B C : ℕ) → B ≤ C → (ts : List Lexeme) (s r : Reader) → Leads ed B s ts r → Leads ed C s ts r
deeper ed B C le [] s r h = h
deeper ed B C le (t ∷ ts) s r h = (h.0, h.1, h.2, omega (arith, h.3), deeper ed B C le ts h.1 r h.4)

pub larger : (ed : Edition) → (B C : ℕ) (ts : List Lexeme) (f : File) → B ≤ C → Derives ed B ts f → Derives ed C ts f
larger ed B C ts f le d = record { derived = d.derived; fits = omega (arith, d.fits) }

module _ (ed : Edition) (B : ℕ) (th : Theory ed B) where
  pub leads_good : (ts : List Lexeme) (s r : Reader) → Leads ed B s ts r → Good ed B s → Good ed B r
  leads_good [] s r h g = subst (Good ed B) h g
  leads_good (t ∷ ts) s r h g =
      let kept : Kept ed B (Take h.0 h.1) = subst (Kept ed B) h.2 (th.kept s t g.1) in
      leads_good ts h.1 r h.4 (kept h.3)

  leads_back : (ts : List Lexeme) (s r : Reader) (us : List Lexeme) (f : File) → Leads ed B s ts r → Good ed B s → Means ed B r us f → Means ed B s (ts ++ us) f
  leads_back [] s r us f h g m = subst (λ x. Means ed B x us f) (sym h) m
  leads_back (t ∷ ts) s r us f h g m =
      let kept : Kept ed B (Take h.0 h.1) = subst (Kept ed B) h.2 (th.kept s t g.1) in
      let rest : Means ed B h.1 (ts ++ us) f = leads_back ts h.1 r us f h.4 (kept h.3) m in
      th.back s t (ts ++ us) f g.1 (subst (λ x. After ed B x (ts ++ us) f) (sym h.2) (h.3, rest))

  leads_forth : (ts : List Lexeme) (s r : Reader) (us : List Lexeme) (f : File) → Leads ed B s ts r → Good ed B s → Means ed B s (ts ++ us) f → Means ed B r us f
  leads_forth [] s r us f h g m = subst (λ x. Means ed B x us f) h m
  leads_forth (t ∷ ts) s r us f h g m =
      let kept : Kept ed B (Take h.0 h.1) = subst (Kept ed B) h.2 (th.kept s t g.1) in
      let a : After ed B (Take h.0 h.1) (ts ++ us) f = subst (λ x. After ed B x (ts ++ us) f) h.2 (th.forth s t (ts ++ us) f g.1 m) in
      leads_forth ts h.1 r us f h.4 (kept h.3) a.1

  pub reads : (ts : List Lexeme) (s : Reader) (f : File) → Good ed B s → run_parser ed B s ts ≡ Done f → Means ed B s ts f
  unfolding run_parser
  reads [] s f g e = by_end (final s) refl e
    where
      by_end : (o : Option File) → final s ≡ o → at_end o ≡ Done f → Means ed B s [] f
      by_end None k q = cc
      by_end (Some h) k q = let file : h ≡ f = cc in th.ends s f g.1 (k ∙ ap Some file)
  reads (t ∷ ts) s f g e = by_moves (λ r h q. reads ts r f h q) (parser_step ed s t) refl e
    where
      by_moves : ((r : Reader) → Good ed B r → run_parser ed B r ts ≡ Done f → Means ed B r ts f) → (m : Move) → parser_step ed s t ≡ m →
          by_move B (λ r. run_parser ed B r ts) t.kind (t ∷ ts) m ≡ Done f → Means ed B s (t ∷ ts) f
      by_moves ih (Fail x) k q = cc
      by_moves ih (Take need r) k q = by_test (nat_le need B) refl q
        where
          by_test : (c : Bool) → nat_le need B ≡ c → by_level c (run_parser ed B r ts) (t ∷ ts) ≡ Done f → Means ed B s (t ∷ ts) f
          by_test false d p = cc
          by_test true d p =
              let le : need ≤ B = grind (arith, nat_tests) in
              let kept : Kept ed B (Take need r) = subst (Kept ed B) k (th.kept s t g.1) in
              th.back s t ts f g.1 (subst (λ x. After ed B x ts f) (sym k) (le, ih r (kept le) p))

  taken : (ts : List Lexeme) (s : Reader) (f : File) → Good ed B s → Means ed B s ts f → run_parser ed B s ts ≡ Done f
  unfolding run_parser
  taken [] s f g m = ap at_end (th.over s f m)
  taken (t ∷ ts) s f g m = by_moves (λ r h q. taken ts r f h q) (parser_step ed s t) refl (th.forth s t ts f g.1 m)
    where
      by_moves : ((r : Reader) → Good ed B r → Means ed B r ts f → run_parser ed B r ts ≡ Done f) → (x : Move) → parser_step ed s t ≡ x → After ed B x ts f →
          by_move B (λ r. run_parser ed B r ts) t.kind (t ∷ ts) x ≡ Done f
      by_moves ih (Fail x) k a = absurd a
      by_moves ih (Take need r) k a =
          let le : need ≤ B = a.0 in
          let low : nat_le need B ≡ true = grind (arith, nat_tests) in
          let kept : Kept ed B (Take need r) = subst (Kept ed B) k (th.kept s t g.1) in
          ap (λ c. by_level c (run_parser ed B r ts) (t ∷ ts)) low ∙ ih r (kept le) a.1

  -- what is done is derived, and what is derived is done
  pub is_derived : (ts : List Lexeme) (f : File) → 1 ≤ B → run_parser ed B start ts ≡ Done f → Derives ed B ts f
  is_derived ts f one e = th.derived ts f (reads ts start f (th.good one) e)

  pub is_done : (ts : List Lexeme) (f : File) → 1 ≤ B → Derives ed B ts f → run_parser ed B start ts ≡ Done f
  is_done ts f one d = taken ts start f (th.good one) (th.started ts f d)

  pub only_one : (ts : List Lexeme) (f g : File) → 1 ≤ B → Derives ed B ts f → Derives ed B ts g → f ≡ g
  only_one ts f g one d e = let a = sym (is_done ts f one d) ∙ is_done ts g one e in cc

  pub begins_so : (good : List Lexeme) (r : Reader) → 1 ≤ B → Leads ed B start good r → Begins ed B good
  begins_so good r one h =
      let g = th.good one in
      let c = th.comes r (leads_good good start r h g) in
      (c.0, c.1, th.derived (good ++ c.0) c.1 (leads_back good start r c.0 c.1 h g c.2))

  -- the tokens that lead on behind some
  pub behind : (good us : List Lexeme) (r : Reader) (f : File) → 1 ≤ B → Leads ed B start good r → Derives ed B (good ++ us) f → Means ed B r us f
  behind good us r f one h d = leads_forth good start r us f h (th.good one) (th.started (good ++ us) f d)

  ended_there : (good : List Lexeme) (r : Reader) (f : File) → 1 ≤ B → Leads ed B start good r → final r ≡ None → Derives ed B good f → ⊥
  ended_there good r f one h none d =
      let m = behind good [] r f one h (subst (λ x. Derives ed B x f) (sym (append-nil good)) d) in
      let q : None ≡ Some f = sym none ∙ th.over r f m in
      cc (q)

  after_there : (good : List Lexeme) (t : Lexeme) (r : Reader) → 1 ≤ B → Leads ed B start good r → Begins ed B (good ++ t ∷ []) →
      (us : List Lexeme) × (f : File) × After ed B (parser_step ed r t) us f
  after_there good t r one h b =
      let m = behind good (t ∷ b.0) r b.1 one h (subst (λ x. Derives ed B x b.1) (append_assoc good (t ∷ []) b.0) b.2) in
      (b.0, b.1, th.forth r t b.0 b.1 (leads_good good start r h (th.good one)).1 m)

  goes_there : (good : List Lexeme) (t : Lexeme) (r q : Reader) (need : ℕ) → 1 ≤ B → need ≤ B → Leads ed B start good r → parser_step ed r t ≡ Take need q →
      Begins ed B (good ++ t ∷ [])
  goes_there good t r q need one le h k =
      let g = th.good one in
      let there = leads_good good start r h g in
      let kept : Kept ed B (Take need q) = subst (Kept ed B) k (th.kept r t there.1) in
      let c = th.comes q (kept le) in
      let m : Means ed B r (t ∷ c.0) c.1 = th.back r t c.0 c.1 there.1 (subst (λ x. After ed B x c.0 c.1) (sym k) (le, c.2)) in (
        c.0,
        c.1,
        subst (λ x. Derives ed B x c.1) (sym (append_assoc good (t ∷ []) c.0))
            (th.derived (good ++ t ∷ c.0) c.1 (leads_back good start r (t ∷ c.0) c.1 h g m)),
      )

  none_after : (n : ℕ) (good bad : List Lexeme) (r : Reader) → 1 ≤ B → Leads ed B start good r → Stuck ed B r bad n → NoneAfter ed B good bad
  none_after n good [] r one h stuck = λ f d. ended_there good r f one h stuck.0 d
  none_after n good (t ∷ ts) r one h (inl s) = λ b.
      let a = after_there good t r one h b in
      subst (λ x. After ed B x a.0 a.1) s.1 a.2
  none_after n good (t ∷ ts) r one h (inr s) = λ b.
      let a = after_there good t r one h b in
      let c : After ed B (Take s.0 s.1) a.0 a.1 = subst (λ x. After ed B x a.0 a.1) s.2 a.2 in
      absurd (omega (arith, c.0, s.3))

-- the machine's answer at a token that may not come is right
abbrev pub Told : (ed : Edition) → Type 0
Told ed =
    (B : ℕ) (good : List Lexeme) (r : Reader) (t : Lexeme) (ts : List Lexeme) (x : Expected) → 1 ≤ B → Leads ed B start good r → parser_step ed r t ≡ Fail x →
    IsFault ed good (t ∷ ts) (fault_at x t.kind)

module _ (ed : Edition) (theory : (B : ℕ) → Theory ed B) (told : Told ed) where
  deep : (B n : ℕ) (good bad : List Lexeme) (r : Reader) → 1 ≤ B → Leads ed B start good r → Stuck ed B r bad n → n ≡ 4 → GoesOn ed good bad
  deep B n good [] r one h stuck four = absurd (omega (arith, stuck.1, four))
  deep B n good (t ∷ ts) r one h (inl s) four = absurd (not_four s.0 t.kind (sym s.2 ∙ four))
  deep B n good (t ∷ ts) r one h (inr s) four =
      let C = max s.0 B in
      (C, goes_there ed C (theory C) good t r s.1 s.0 (omega arith) (omega arith) (deeper ed B C (omega arith) good start r h) s.2)

  not_deep : (B n : ℕ) (good bad : List Lexeme) (r : Reader) → 1 ≤ B → Leads ed B start good r → Stuck ed B r bad n → n ≢ 4 → GoesOn ed good bad → ⊥
  not_deep B n good [] r one h stuck ne g =
      let C = max g.0 B in
      ended_there ed C (theory C) good r g.1 (omega arith) (deeper ed B C (omega arith) good start r h) stuck.0 (larger ed g.0 C good g.1 (omega arith) g.2)
  not_deep B n good (t ∷ ts) r one h (inl s) ne g =
      let C = max g.0 B in
      let b = g.1 in
      let a = after_there ed C (theory C) good t r (omega arith) (deeper ed B C (omega arith) good start r h)
      (b.0, b.1, larger ed g.0 C ((good ++ t ∷ []) ++ b.0) b.1 (omega arith) b.2) in
      subst (λ x. After ed C x a.0 a.1) s.1 a.2
  not_deep B n good (t ∷ ts) r one h (inr s) ne g = absurd (ne s.4)

  fault : (B n : ℕ) (good bad : List Lexeme) (r : Reader) → 1 ≤ B → Leads ed B start good r → Stuck ed B r bad n → n ≢ 4 → IsFault ed good bad n
  fault B n good [] r one h stuck ne = stuck.1
  fault B n good (t ∷ ts) r one h (inl s) ne = subst (IsFault ed good (t ∷ ts)) (sym s.2) (told B good r t ts s.0 one h s.1)
  fault B n good (t ∷ ts) r one h (inr s) ne = absurd (ne s.4)

  pub stops_at : (B : ℕ) (ts : List Lexeme) (n : ℕ) (bad : List Lexeme) → 1 ≤ B → run_parser ed B start ts ≡ Refused n bad → StopsAt ed B ts n bad
  stops_at B ts n bad one e =
      let s = stops ed B ts start n bad e in
      record {
        good = s.0;
        whole = s.2;
        begins = begins_so ed B (theory B) s.0 s.1 one s.3;
        ends = none_after ed B (theory B) n s.0 bad s.1 one s.3 s.4;
        too_deep = λ four. deep B n s.0 bad s.1 one s.3 s.4 four;
        wrong = λ ne. not_deep B n s.0 bad s.1 one s.3 s.4 ne;
        fault = λ ne. fault B n s.0 bad s.1 one s.3 s.4 ne;
      }
