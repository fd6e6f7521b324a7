-- What is held is of files: of what is taken, and so of the sources.
use Rattle.std.proofs.Common.{◌≡◌, ℕ, true, List, [], ◌∷◌, ◌++◌, Option, None, Some, refl, ap, subst, ◌∙◌, inl, inr, arith}
use Rattle.std.specs.List.{Contains, cons_option}
use Rattle.std.specs.Option.{option_map}
use Rattle.std.specs.FinMap.{get, empty, entries, get-empty}
use Rattle.std.proofs.lemmas.List.Elements.{Contains-append_cases}
use Rattle.ws_map.specs.Kept.{StandsFor, joined, taken}
use Rattle.ws_map.proofs.Gathered.{stands_for-taken}
use Rattle.ws_map.proofs.Itself.{Contains-cons_cases, Contains-first, Contains-later, kept_is_member, stands_for-entries, get-contained}
use Rattle.ws_map.proofs.Kept.{stands_for-joined}
use Rattle.ws_version.specs.Writes.{Write, IsOfFile, held_cmp, greater_held, path_cmp}
use Rattle.ws_path.specs.Paths.{is_path}
use Rattle.ws_version.specs.Laws.{held_cmp_total}
use Rattle.ws_version.proofs.Writes.{path_cmp_total, path_cmp-IsAntisymmetric}
use Rattle.ws_register.specs.Edits.{Contents}
use Rattle.ws_register.specs.Sources.{texts_of, IsFileSource, HasFiles, HoldsFiles}
use Rattle.ws_register.proofs.Laws.{one_contents, SameMembers-itself}

abbrev Pair : Type 0
Pair = List ℕ × List ℕ

none_in_empty : {A : Type 0} (a : A) → ¬ (Contains [] a)
none_in_empty a c = absurd (omega (arith, c.1))

none_is_some : {A : Type 0} (x : A) (o : Option A) → o ≡ None → o ≡ Some x → ⊥
none_is_some x o e f = cc

some_same : {A : Type 0} (x y : A) → Some x ≡ Some y → x ≡ y
some_same x y e = cc

-- ---- what is held

pub files-empty : HoldsFiles empty
files-empty = λ q h e. absurd (none_is_some h (get empty q) (get-empty path_cmp q) e)

itself : (m : Contents) → StandsFor held_cmp m (entries m)
itself = stands_for-entries path_cmp_total path_cmp-IsAntisymmetric held_cmp_total

-- held of a map is held of its entries
of_entries : (m : Contents) → HoldsFiles m → (w : Write) → Contains (entries m) w → IsOfFile w
of_entries m files w c = files w.0 w.1 (get-contained path_cmp_total path_cmp-IsAntisymmetric m w.0 w.1 c)

-- a map that stands for writes of files
of_writes : (m : Contents) (W : List Write) → StandsFor held_cmp m W → ((w : Write) → Contains W w → IsOfFile w) → HoldsFiles m
of_writes m W stands all = λ q h e. all (q, h) (kept_is_member held_cmp m W stands q h e)

pub files-taken : (m : Contents) (w : Write) → HoldsFiles m → IsOfFile w → HoldsFiles (taken greater_held m w.0 w.1)
files-taken m w files one =
    of_writes (taken greater_held m w.0 w.1) (entries m ++ w ∷ []) (stands_for-taken path_cmp_total path_cmp-IsAntisymmetric held_cmp_total m (entries m) w.0 w.1 (itself m))
    (λ v c. elim (Contains-append_cases (entries m) (w ∷ []) v c) [
      | inl old ↦ of_entries m files v old
      | inr new ↦ elim (Contains-cons_cases w [] v new) [
        | inl same ↦ subst IsOfFile same one
        | inr none ↦ absurd (none_in_empty {A = Write} v none)
      ]
    ])

pub files-joined : (m n : Contents) → HoldsFiles m → HoldsFiles n → HoldsFiles (joined greater_held m n)
files-joined m n files others =
    of_writes (joined greater_held m n) (entries m ++ entries n) (stands_for-joined held_cmp_total path_cmp_total m n (entries m) (entries n) (itself m) (itself n))
    (λ v c. elim (Contains-append_cases (entries m) (entries n) v c) [
      | inl old ↦ of_entries m files v old
      | inr new ↦ of_entries n others v new
    ])

-- ---- sources

record OfWrite (ws : List Write) (s : Pair) : Type 0 where
  write : Write
  among : Contains ws write
  path : write.0 ≡ s.0
  text : write.1.text ≡ Some s.1

later : (w : Write) (ws : List Write) (s : Pair) → OfWrite ws s → OfWrite (w ∷ ws) s
later w ws s h = record { write = h.write; among = Contains-later {A = Write} w ws h.write h.among; path = h.path; text = h.text }

text_step : (w : Write) (ws : List Write) (o : Option (List ℕ)) → w.1.text ≡ o → (s : Pair) → Contains (texts_of (w ∷ ws)) s → (Contains (texts_of ws) s → OfWrite ws s) → OfWrite (w ∷ ws) s
text_step w ws None e s c rest =
    later w ws s (rest (subst (λ (xs : List Pair). Contains xs s) (ap (λ (o : Option (List ℕ)). cons_option (option_map (λ t. (w.0, t)) o) (texts_of ws)) e) c))
text_step w ws (Some text) e s c rest =
    elim (Contains-cons_cases {A = Pair} (w.0, text) (texts_of ws) s (subst (λ (xs : List Pair). Contains xs s) (ap (λ (o : Option (List ℕ)). cons_option (option_map (λ t. (w.0, t)) o) (texts_of ws)) e) c)) [
      | inl same ↦ record { write = w; among = Contains-first {A = Write} w ws; path = ap (λ (p : Pair). p.0) same; text = e ∙ ap (λ (p : Pair). Some p.1) same }
      | inr l ↦ later w ws s (rest l)
    ]

of_write : (ws : List Write) (s : Pair) → Contains (texts_of ws) s → OfWrite ws s
of_write [] s c = absurd (none_in_empty {A = Pair} s c)
of_write (w ∷ ws) s c = text_step w ws w.1.text refl s c (λ d. of_write ws s d)

source_by : (w : Write) (s : Pair) → IsOfFile w → w.0 ≡ s.0 → w.1.text ≡ Some s.1 → IsFileSource s
source_by w s file path text = record { path = subst (λ p. is_path p ≡ true) path file.path; text = file.text s.1 text }

pub has_files : (m : Contents) → HoldsFiles m → (W : List Write) → StandsFor held_cmp m W → HasFiles W
has_files m files W stands S (n, also, is) s c =
    let one : n ≡ m = one_contents n m W W (SameMembers-itself W) also stands in
    let h = of_write (entries m) s (subst (λ (xs : List Pair). Contains xs s) (is ∙ ap (λ (x : Contents). texts_of (entries x)) one) c) in
    source_by h.write s (of_entries m files h.write h.among) h.path h.text

-- writes of files have sources at paths of files
pub all_have_files : (W : List Write) → ((w : Write) → Contains W w → IsOfFile w) → HasFiles W
all_have_files W all S is = has_files is.0 (of_writes is.0 W is.1 all) W is.1 S is
