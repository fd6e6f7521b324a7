-- What is asked to be built, one name with a directory after another.
use Rattle.std.proofs.Common.{◌≡◌, ◌+◌, ◌<◌, ℕ, suc, List, [], ◌∷◌, ◌++◌, map, length, take, drop, get_or, drop-cons, Option, None, Some, Bool, true, false, not, refl, sym, ap, ◌∙◌, cond, subst}
use Rattle.std.specs.Prelude.{is_some, ◌&&◌}
use Rattle.std.specs.List.{AllZip, list_all}
use Rattle.std.specs.Borrow.{Bor}
use Rattle.std.specs.Str.{is_utf8}
use Rattle.std.proofs.lemmas.List.{map-append, take_more, take-append-drop}
use Rattle.std.proofs.lemmas.List.Folds.{list_all-append}
use Rattle.std.proofs.lemmas.Slice.Zip.{all_zipped_more}
use Rattle.ws_session.specs.declared.replicas.SessionReplica.{SessionReplica}
use Rattle.ws_command.specs.declared.refusal.Refusal.TheVariants.{Unknown, NoPackage}
use Rattle.ws_session.specs.Representation.{replica_index, asked_of, IsTarget, targets_row}

abbrev all_known : List SessionReplica → List (List ℕ × List ℕ) → Bool
all_known ns asked = list_all (λ t. is_some (replica_index t.0 ns)) asked

abbrev all_texts : List (List ℕ × List ℕ) → Bool
all_texts asked = list_all (λ t. is_utf8 t.1) asked

-- all names so far are known; and the directories are texts, and these are the targets, or one of them isn't
pub record SoFar (ns : List SessionReplica) (asked : List (List ℕ × List ℕ)) (is_text : Bool) (targets : List (ℕ × List ℕ)) : Type 0 where
  pub known : list_all (λ t. is_some (replica_index t.0 ns)) asked ≡ true
  pub texts : list_all (λ t. is_utf8 t.1) asked ≡ is_text
  pub are : is_text ≡ true → AllZip (IsTarget ns) asked targets

pub none_so_far : (ns : List SessionReplica) → SoFar ns [] true []
none_so_far ns = record { known = refl; texts = refl; are = λ _. tt }

both : (a b c d : Bool) → a ≡ c → b ≡ d → (a && b) ≡ (c && d)
both a b c d e f = ap (λ z. z && b) e ∙ ap (λ z. c && z) f

and_false : (b : Bool) → (b && false) ≡ false
and_false true = refl
and_false false = refl

and_true : (b : Bool) → (b && true) ≡ b
and_true true = refl
and_true false = refl

module _ (ns : List SessionReplica) (asked : List (List ℕ × List ℕ)) (is_text : Bool) (targets : List (ℕ × List ℕ)) (so_far : SoFar ns asked is_text targets) (a : List ℕ × List ℕ) where
  known_more : (k : ℕ) → replica_index a.0 ns ≡ Some k → all_known ns (asked ++ a ∷ []) ≡ true
  known_more k e =
      list_all-append (λ t. is_some (replica_index t.0 ns)) asked (a ∷ []) ∙ both (all_known ns asked) (is_some (replica_index a.0 ns) && true) true true so_far.known (ap (λ (o : Option ℕ). is_some o && true) e)

  texts_more : (b : Bool) → is_utf8 a.1 ≡ b → all_texts (asked ++ a ∷ []) ≡ (is_text && b)
  texts_more b e =
      list_all-append (λ t. is_utf8 t.1) asked (a ∷ []) ∙ both (all_texts asked) (is_utf8 a.1 && true) is_text b so_far.texts (and_true (is_utf8 a.1) ∙ e)

  pub text_more : (k : ℕ) (directory : List ℕ) → replica_index a.0 ns ≡ Some k → is_utf8 a.1 ≡ true → a.1 ≡ directory → SoFar ns (asked ++ a ∷ []) is_text (targets ++ (k, directory) ∷ [])
  text_more k directory e u same = record {
    known = known_more k e;
    texts = texts_more true u ∙ and_true is_text;
    are = λ t. all_zipped_more (IsTarget ns) asked targets a (k, directory) (so_far.are t) (e, same);
  }

  pub other_more : (k : ℕ) → replica_index a.0 ns ≡ Some k → is_utf8 a.1 ≡ false → SoFar ns (asked ++ a ∷ []) false targets
  other_more k e u = record { known = known_more k e; texts = texts_more false u ∙ and_false is_text; are = λ t. cc }

  pub one_unknown : (rest : List (List ℕ × List ℕ)) → replica_index a.0 ns ≡ None → targets_row ns (asked ++ a ∷ rest) ≡ Some Unknown
  one_unknown rest e =
      let none : all_known ns (asked ++ a ∷ rest) ≡ false =
      list_all-append (λ t. is_some (replica_index t.0 ns)) asked (a ∷ rest)
      ∙ ap (λ (o : Option ℕ). all_known ns asked && (is_some o && all_known ns rest)) e ∙ and_false (all_known ns asked) in
      ap (λ b. cond (not b) (Some Unknown) (cond (not (all_texts (asked ++ a ∷ rest))) (Some NoPackage) None)) none

module _ (ns : List SessionReplica) (asked : List (List ℕ × List ℕ)) (is_text : Bool) (targets : List (ℕ × List ℕ)) (so_far : SoFar ns asked is_text targets) where
  row : targets_row ns asked ≡ cond (not is_text) (Some NoPackage) None
  row = ap (λ b. cond (not b) (Some Unknown) (cond (not (all_texts asked)) (Some NoPackage) None)) so_far.known ∙ ap (λ b. cond (not b) (Some NoPackage) None) so_far.texts

  pub no_text : is_text ≡ false → targets_row ns asked ≡ Some NoPackage
  no_text e = row ∙ ap (λ b. cond (not b) (Some NoPackage) None) e

  pub all_text : is_text ≡ true → (targets_row ns asked ≡ None) × AllZip (IsTarget ns) asked targets
  all_text e = (row ∙ ap (λ b. cond (not b) (Some NoPackage) None) e, so_far.are e)

-- the same of what is equal
pub same_so_far : (ns : List SessionReplica) (f g : List (List ℕ × List ℕ)) (a b : Bool) (s t : List (ℕ × List ℕ)) → SoFar ns f a s → g ≡ f → b ≡ a → t ≡ s → SoFar ns g b t
same_so_far ns f g a b s t so_far e h k =
    subst (λ x. SoFar ns x b t) (sym e) (subst (λ x. SoFar ns f x t) (sym h) (subst (λ x. SoFar ns f a x) (sym k) so_far))

-- ---- in the words that lie in the script

pub asked_more : (asked : List (Bor (List ℕ) × Bor (List ℕ))) (i : ℕ) (d : Bor (List ℕ) × Bor (List ℕ)) → i < length asked
    → map asked_of (take (i + 1) asked) ≡ map asked_of (take i asked) ++ asked_of (get_or asked i d) ∷ []
asked_more asked i d inside = ap (map asked_of) (take_more asked i d inside) ∙ map-append asked_of (take i asked) (get_or asked i d ∷ [])

pub asked_split : (asked : List (Bor (List ℕ) × Bor (List ℕ))) (i : ℕ) (d : Bor (List ℕ) × Bor (List ℕ)) → i < length asked
    → map asked_of asked ≡ map asked_of (take i asked) ++ asked_of (get_or asked i d) ∷ map asked_of (drop (suc i) asked)
asked_split asked i d inside =
    ap (map asked_of) (sym (take-append-drop i asked)) ∙ map-append asked_of (take i asked) (drop i asked)
    ∙ ap (λ xs. map asked_of (take i asked) ++ map asked_of xs) (drop-cons asked i d inside)
