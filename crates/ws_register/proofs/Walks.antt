-- Two walks over writes that ascend: what passing, taking and skipping does to what they hold together.
use Rattle.std.specs.Prelude.{◌≡◌, ◌<◌, ℕ, Bool, true, false, cond, List, [], ◌∷◌, ◌++◌, ◌⊎◌, length, refl, Option, Some, None, Result, Ok, Err, OnOk, MatchOption, option_copied}
use Rattle.std.specs.declared.sync.Arc.{Arc}
use Rattle.std.specs.declared.cmp.Ordering.{Ordering}
use Rattle.std.specs.declared.cmp.Ordering.TheVariants.{Less, Equal, Greater}
use Rattle.std.specs.Ordering.{is_lt}
use Rattle.std.proofs.lemmas.List.{append_assoc, append-nil, length-append, nil_from_length}
use Rattle.std.proofs.lemmas.Bool.{eqb-true}
use Rattle.std.proofs.Common.{sym, ap, subst, ◌∙◌, inl, inr, eqb, Bor, arith}
use Rattle.ws_version.specs.Writes.{Held, Write, path_cmp, held_cmp, greater_held}
use Rattle.ws_version.specs.Laws.{held_cmp_total, held_cmp-IsAntisymmetric}
use Rattle.ws_version.proofs.Writes.{path_cmp_total, path_cmp-IsAntisymmetric}
use Rattle.ws_register.specs.Pages.{values, Ascends, AllPathsBelow, joined_writes}
use Rattle.ws_register.proofs.Joined.{joined-front, joined-both, joined-known, joined-nothing, joined-to_nothing, joined-turned}
use Rattle.ws_register.proofs.Order.{Precedes, all-append, all-weaker, sorted-rest, sorted-second, sorted-front, sorted-precedes, precedes-first, precedes-sorted}

less_from : (r : Ordering) → is_lt r ≡ true → r ≡ Less
less_from Less e = refl
less_from Equal e = cc
less_from Greater e = cc

-- ---- what is passed
lower_all : (W : List Write) (j k : List ℕ) → path_cmp j k ≡ Less → AllPathsBelow W j → AllPathsBelow W k
lower_all W j k lt h = all-weaker (λ (w : Write). path_cmp w.0 j ≡ Less) (λ (w : Write). path_cmp w.0 k ≡ Less) (λ w e. path_cmp_total.trans w.0 j k e lt) W h

-- where the last is below a path, all are
pub ends-below : (W front : List Write) (last : Write) (path : List ℕ) (b : Bool) → W ≡ front ++ last ∷ [] → b ≡ is_lt (path_cmp last.0 path) → b ≡ true → Ascends W → AllPathsBelow W path
ends-below W front last path b cut is so h =
    let lt : path_cmp last.0 path ≡ Less = less_from (path_cmp last.0 path) (sym is ∙ so) in
    let below = precedes-first path_cmp front last [] (sorted-precedes path_cmp front (last ∷ []) (subst Ascends cut h)) in
    subst (λ l. AllPathsBelow l path) (sym cut) (all-append (λ (w : Write). path_cmp w.0 path ≡ Less) front (last ∷ []) (lower_all front last.0 path lt below) (lt, tt))

-- more is passed
pub pass-more : (A B D F G : List Write) (path : List ℕ) → A ≡ F ++ B → AllPathsBelow F path → B ≡ G ++ D → AllPathsBelow G path → (front : List Write) × (A ≡ front ++ D) × AllPathsBelow front path
pass-more A B D F G path a f b g = (F ++ G, a ∙ ap (λ l. F ++ l) b ∙ sym (append_assoc F G D), all-append (λ (w : Write). path_cmp w.0 path ≡ Less) F G f g)

pub pass-one : (A D : List Write) (w : Write) (path : List ℕ) (b : Bool) → A ≡ w ∷ D → b ≡ is_lt (path_cmp w.0 path) → b ≡ true → (front : List Write) × (A ≡ front ++ D) × AllPathsBelow front path
pass-one A D w path b a is so = (w ∷ [], a, (less_from (path_cmp w.0 path) (sym is ∙ so), tt))

pub still-ascends : (A F B : List Write) → A ≡ F ++ B → Ascends A → Ascends B
still-ascends A F B a h = sorted-second path_cmp F B (subst Ascends a h)

pub front-ascends : (A F B : List Write) → A ≡ F ++ B → Ascends A → Ascends F
front-ascends A F B a h = sorted-front path_cmp F B (subst Ascends a h)

pub shorter : (A F B : List Write) → A ≡ F ++ B → 0 < length F → length B < length A
shorter A F B a some = omega (arith, simp length-append at (ap length a))

-- ---- what is taken
pub take-front : (D E A B W front others : List Write) (w : Write) → A ≡ front ++ B → AllPathsBelow front w.0 → W ≡ w ∷ others → E ≡ D ++ front → Ascends A → Ascends W → E ++ joined_writes B W ≡ D ++ joined_writes A W
take-front D E A B W front others w a below is e g h =
    let precedes : Precedes path_cmp front W = subst (Precedes path_cmp front) (sym is) (precedes-sorted path_cmp path_cmp_total front w others (subst Ascends is h) below) in
    ap (λ l. l ++ joined_writes B W) e ∙ append_assoc D front (joined_writes B W)
    ∙ ap (λ l. D ++ l) (sym (ap (λ l. joined_writes l W) a ∙ joined-front path_cmp held_cmp path_cmp_total path_cmp-IsAntisymmetric front B W (subst Ascends a g) h precedes))

pub turned : (A W : List Write) → joined_writes A W ≡ joined_writes W A
turned A W = joined-turned path_cmp held_cmp path_cmp_total path_cmp-IsAntisymmetric held_cmp_total held_cmp-IsAntisymmetric A W

pub take-front_of_others : (D E A B W front others : List Write) (w : Write) → A ≡ front ++ B → AllPathsBelow front w.0 → W ≡ w ∷ others → E ≡ D ++ front → Ascends A → Ascends W → E ++ joined_writes W B ≡ D ++ joined_writes W A
take-front_of_others D E A B W front others w a below is e g h =
    ap (λ l. E ++ l) (turned W B) ∙ take-front D E A B W front others w a below is e g h ∙ ap (λ l. D ++ l) (turned A W)

pub take-greater : (D E A B V W : List Write) (path : List ℕ) (a b : Held) (w : Write) → A ≡ (path, a) ∷ B → V ≡ (path, b) ∷ W → w ≡ (path, greater_held a b) → E ≡ D ++ w ∷ [] → Ascends A → Ascends V → E ++ joined_writes B W ≡ D ++ joined_writes A V
take-greater D E A B V W path a b w is_a is_v is_w e g h =
    ap (λ l. l ++ joined_writes B W) e ∙ append_assoc D (w ∷ []) (joined_writes B W)
    ∙ ap (λ (z : Write). D ++ z ∷ joined_writes B W) is_w
    ∙ ap (λ l. D ++ l) (sym (ap (λ l. joined_writes l V) is_a ∙ ap (joined_writes ((path, a) ∷ B)) is_v
    ∙ joined-both path_cmp held_cmp path_cmp_total path_cmp-IsAntisymmetric path a b B W (subst Ascends is_a g) (subst Ascends is_v h)))

-- the rest of two walks, of which one is at its end
pub take-rests : (D A V : List Write) → (A ≡ []) ⊎ (V ≡ []) → Ascends A → Ascends V → D ++ joined_writes A V ≡ (D ++ A) ++ V
take-rests D A V (inl none) g h =
    ap (λ l. D ++ l) (ap (λ l. joined_writes l V) none ∙ joined-to_nothing path_cmp held_cmp path_cmp_total path_cmp-IsAntisymmetric held_cmp_total held_cmp-IsAntisymmetric V h)
    ∙ ap (λ l. l ++ V) (sym (append-nil D) ∙ ap (λ l. D ++ l) (sym none))
take-rests D A V (inr none) g h =
    ap (λ l. D ++ l) (ap (joined_writes A) none ∙ joined-nothing path_cmp held_cmp path_cmp_total path_cmp-IsAntisymmetric A g)
    ∙ sym (append-nil (D ++ A)) ∙ ap (λ l. (D ++ A) ++ l) (sym none)

-- ---- what is no news
pub skip-known : (mine theirs page others left rest : List Write) → joined_writes page others ≡ page → mine ≡ page ++ rest → theirs ≡ others ++ left → Ascends mine → Ascends theirs → joined_writes mine left ≡ joined_writes mine theirs
skip-known mine theirs page others left rest known a b g h =
    ap (λ l. joined_writes l left) a
    ∙ sym (joined-known path_cmp held_cmp path_cmp_total path_cmp-IsAntisymmetric page rest others left known (subst Ascends a g) (subst Ascends b h))
    ∙ sym (ap (λ l. joined_writes l theirs) a ∙ ap (joined_writes (page ++ rest)) b)

-- so far a walk brings no news: what was passed stays
pub record IsWalked (mine theirs left others : List Write) : Type 0 where
  pub passed : List Write
  pub mine_is : mine ≡ passed ++ left
  pub joined_is : joined_writes mine theirs ≡ passed ++ joined_writes left others
  pub ascends : Ascends left
  pub others_ascend : Ascends others

pub walk-begun : (mine theirs : List Write) → Ascends mine → Ascends theirs → IsWalked mine theirs mine theirs
walk-begun mine theirs g h = record { passed = []; mine_is = refl; joined_is = refl; ascends = g; others_ascend = h }

pub walk-ended : (mine theirs left others : List Write) → IsWalked mine theirs left others → others ≡ [] → joined_writes mine theirs ≡ mine
walk-ended mine theirs left others walked none =
    walked.joined_is
    ∙ ap (λ l. walked.passed ++ l) (ap (joined_writes left) none ∙ joined-nothing path_cmp held_cmp path_cmp_total path_cmp-IsAntisymmetric left walked.ascends)
    ∙ sym walked.mine_is

greater_first : (a b : Held) → is_lt (held_cmp a b) ≡ false → greater_held a b ≡ a
greater_first a b e = ap (λ t. cond t b a) e

one_known : (path : List ℕ) (a b : Held) → is_lt (held_cmp a b) ≡ false → joined_writes ((path, a) ∷ []) ((path, b) ∷ []) ≡ (path, a) ∷ []
one_known path a b e =
    joined-both path_cmp held_cmp path_cmp_total path_cmp-IsAntisymmetric path a b [] [] tt tt
    ∙ ap (λ (h : Held). (path, h) ∷ joined_writes [] []) (greater_first a b e)
    ∙ ap (λ (l : List Write). (path, a) ∷ l) (joined-nothing path_cmp held_cmp path_cmp_total path_cmp-IsAntisymmetric [] tt)

pub walk-more : (mine theirs left others front next rest tail : List Write) (w : Write) (held : Held) → IsWalked mine theirs left others → others ≡ w ∷ rest → left ≡ front ++ next → AllPathsBelow front w.0 → next ≡ (w.0, held) ∷ tail → is_lt (held_cmp held w.1) ≡ false → IsWalked mine theirs next rest
walk-more mine theirs left others front next rest tail w held walked is_others is_left below is_next known =
    let h : Ascends (w ∷ rest) = subst Ascends is_others walked.others_ascend in
    let g : Ascends (front ++ next) = subst Ascends is_left walked.ascends in
    let next_ascends : Ascends next = sorted-second path_cmp front next g in
    record {
      passed = walked.passed ++ front;
      mine_is = walked.mine_is ∙ ap (λ l. walked.passed ++ l) is_left ∙ sym (append_assoc walked.passed front next);
      joined_is =
          walked.joined_is
          ∙ ap (λ l. walked.passed ++ l) (
          ap (joined_writes left) is_others ∙ ap (λ l. joined_writes l (w ∷ rest)) is_left
          ∙ joined-front path_cmp held_cmp path_cmp_total path_cmp-IsAntisymmetric front next (w ∷ rest) g h (precedes-sorted path_cmp path_cmp_total front w rest h below)
          ∙ ap (λ l. front ++ l) (sym (skip-known next (w ∷ rest) ((w.0, held) ∷ []) (w ∷ []) rest tail (one_known w.0 held w.1 known) is_next refl next_ascends h)))
          ∙ sym (append_assoc walked.passed front (joined_writes next rest));
      ascends = next_ascends;
      others_ascend = sorted-rest path_cmp w rest h;
    }

-- ---- of the code's steps
pub empty_values : {Z : Type 0} (ws : List (Arc Write Z)) (b : Bool) → b ≡ eqb (length ws) 0 → b ≡ true → values ws ≡ []
empty_values ws b e f = ap values (nil_from_length ws (eqb-true (length ws) 0 (sym e ∙ f)))

-- a walk that has begun no page, by its first page
pub first_page : {Z : Type 0} (S : List Write) (ws : List (Arc Write Z)) (pages page left : List Write) → values ws ≡ [] → pages ≡ page ++ left → values ws ++ pages ≡ S → S ≡ page ++ (values ws ++ left)
first_page S ws pages page left none cut view =
    sym view ∙ ap (λ l. l ++ pages) none ∙ cut ∙ ap (λ l. page ++ (l ++ left)) (sym none)

pub first_is : (o : Option (Bor Write)) (next : List Write) (x : Write) → MatchOption o (next ≡ []) (λ w. (rest : List Write) × (next ≡ w.now ∷ rest)) → option_copied o ≡ Some x → (rest : List Write) × (next ≡ x ∷ rest)
first_is None next x h e = cc
first_is (Some w) next x h e = let f : Some w.now ≡ Some x = e in let same : w.now ≡ x = cc in (h.0, h.1 ∙ ap (λ (z : Write). z ∷ h.0) same)

pub pass-first : (A D R : List Write) (w v : Write) (path : List ℕ) (b : Bool) → A ≡ w ∷ R → A ≡ v ∷ D → b ≡ is_lt (path_cmp w.0 path) → b ≡ true → (front : List Write) × (A ≡ front ++ D) × AllPathsBelow front path
pass-first A D R w v path b first next is so =
    let both : w ∷ R ≡ v ∷ D = sym first ∙ next in
    let same : w ≡ v = cc in
    pass-one A D w path b (next ∙ ap (λ (z : Write). z ∷ D) (sym same)) is so

pub skip-turned : (A B V W : List Write) → joined_writes W B ≡ joined_writes W A → W ≡ V → joined_writes B W ≡ joined_writes A V
skip-turned A B V W e same = turned B W ∙ e ∙ turned W A ∙ ap (joined_writes A) same

pub head_is : (A B R : List Write) (v w : Write) → A ≡ v ∷ B → A ≡ w ∷ R → v ≡ w
head_is A B R v w e f = let both : v ∷ B ≡ w ∷ R = sym e ∙ f in cc

pub ok_then : {A E P Q : Type 0} (r : Result A E) → (P → Q) → OnOk r P → OnOk r Q
ok_then (Ok a) f p = f p
ok_then (Err x) f p = tt

pub compared : (p q a b : List ℕ) (r s : Ordering) → p ≡ a → q ≡ b → r ≡ path_cmp p q → r ≡ s → path_cmp a b ≡ s
compared p q a b r s e f is at = ap (λ l. path_cmp l b) (sym e) ∙ ap (path_cmp p) (sym f) ∙ sym is ∙ at
