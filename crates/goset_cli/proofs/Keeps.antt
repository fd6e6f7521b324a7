-- How a run ends that goes on from what is kept, by where it ends.
use Rattle.std.proofs.Common.{Vec, Global, ◌≡◌, ℕ, ◌≤◌, ◌+◌, List, length, Option, None, Some, Result, Ok, Err, sym, ◌∙◌, subst, refl, inl, inr, arith}
use Rattle.std.specs.Prelude.{IfErr}
use Rattle.go_text.specs.declared.edition.Edition.{Edition}
use Rattle.ws_keep.specs.Keeping.{Continues, IsClearBehind}
use Rattle.ws_keep.specs.Stored.{StoreBecomes, StoreHolds}
use Rattle.ws_keep.specs.declared.store.StoreError.{StoreError}
use Rattle.goset_cli.specs.Answers.{unanswered, unread}
use Rattle.goset_cli.specs.KeptRuns.{Begins, KeptNothing, KeptRun, NotLoaded, Resumed, ResumedSome, WentOn, with_edition_line}
use Rattle.goset_cli.specs.Failures.{unwritten_count}
use Rattle.goset_cli.specs.KeptStatuses.{kept_reads, kept_writes}
use Rattle.goset_cli.specs.Reading.{GaveAll, NotRead, failures_of, limit}
use Rattle.goset_cli.specs.Streams.{ReadResult, GrowsBy}
use Rattle.goset_cli.specs.declared.keeping.KeepError.{KeepError}
use Rattle.goset_cli.specs.declared.keeping.KeepError.TheVariants.{Session, Store, Full, Another}
use Rattle.goset_cli.specs.declared.reading.ReadError.{ReadError}
use Rattle.goset_cli.specs.declared.reading.ReadError.TheVariants as reads
use Rattle.goset_cli.specs.declared.running.AnswerError.{AnswerError}
use Rattle.goset_cli.specs.declared.running.AnswerError.TheVariants as answers
use Rattle.goset_cli.specs.declared.running.SessionError.TheVariants.{Memory, Read, Write, TooLong}
use Rattle.goset_cli.proofs.Outcomes.{stays}

-- what a store holds becomes the same bytes
pub becomes_same : (store : Option (List ℕ)) (kept new : List ℕ) → new ≡ kept → StoreHolds store kept → StoreBecomes store store new
becomes_same None kept new e h = tt
becomes_same (Some its) kept new e h = h ∙ sym e

-- ---- nothing was run

module _ {A : Type 0} (edition : Option Edition) (expected : Option (List ℕ)) (r : Result A KeepError) (store : Option (List ℕ)) (told told' : Option (List ReadResult)) (written : Option (List ℕ)) where
  -- what is known where nothing was run
  abbrev pub Unbegun : Type 0
  Unbegun = IfErr r (λ e. KeptNothing edition expected e store told told' written written)

  -- the script wasn't read
  pub begun_unread : (refusal : ReadError) → r ≡ Err (Session (unread refusal)) → NotRead refusal told told' → Unbegun
  begun_unread reads.Memory e h = rw e (inl (stays written))
  begun_unread reads.Read e h = rw e (h, stays written)
  begun_unread reads.TooLong e h = rw e (h, stays written)

  -- there was no memory
  pub begun_no_memory : r ≡ Err (Session Memory) → Unbegun
  begun_no_memory e = rw e (inl (stays written))

  -- what is kept wasn't loaded
  pub begun_unloaded : (error : KeepError) (script : List ℕ) → r ≡ Err error → NotLoaded expected error store → GaveAll told told' script → Unbegun
  begun_unloaded (Session Memory) script e h gave = rw e (inl (stays written))
  begun_unloaded (Session Read) script e h gave = absurd h
  begun_unloaded (Session Write) script e h gave = absurd h
  begun_unloaded (Session TooLong) script e h gave = absurd h
  begun_unloaded (Store failure) script e h gave = rw e (inl (stays written))
  begun_unloaded Full script e h gave = absurd h
  begun_unloaded Another script e h gave = rw e (h.0, script, h.1, h.2, gave, stays written)

-- ---- how a run ends

module _ {A : Type 0} (edition : Option Edition) (expected : Option (List ℕ)) (r : Result A KeepError) (store store' : Option (List ℕ)) (told told' : Option (List ReadResult)) (written written' : Option (List ℕ)) where
  pub kept_unbegun : (error : KeepError) → r ≡ Err error → store' ≡ store → KeptNothing edition expected error store told told' written written' → KeptRun edition expected r store store' told told' written written'
  kept_unbegun error e same h = rw e (same, h)

  -- what was run is the script, behind what is kept
  module _ (kept lines script ran_kept ran : List ℕ) (begins : Begins expected store told told' kept script) (is : lines ≡ with_edition_line edition script) (same_kept : ran_kept ≡ kept) (same : ran ≡ lines) where
    meant : (P : List ℕ → List ℕ → Type 0) → P ran_kept ran → P kept (with_edition_line edition script)
    meant P h = subst (λ (s : List ℕ). P kept s) is (subst (λ (s : List ℕ). P kept s) same (subst (λ (k : List ℕ). P k ran) same_kept h))

    -- the script's text wasn't written whole
    pub kept_unanswered : (refusal : AnswerError) → r ≡ Err (Session (unanswered refusal)) → store' ≡ store
        → (IsClearBehind ran_kept ran → ResumedSome ran_kept ran written written') → KeptRun edition expected r store store' told told' written written'
    kept_unanswered answers.Memory e still some = rw e (still, inr (kept, script, begins, meant (λ k s. IsClearBehind k s → ResumedSome k s written written') some))
    kept_unanswered answers.Write e still some = rw e (still, (kept, script, begins, meant (λ k s. IsClearBehind k s → ResumedSome k s written written') some))

    said_all : (new : List ℕ) → (IsClearBehind ran_kept ran → Resumed ran_kept ran written written' new)
        → IsClearBehind ran_kept ran → (text : List ℕ) × Continues ran_kept ran text × GrowsBy written written' text
    said_all new all clear = let resumed = all clear in (resumed.text, resumed.continues, resumed.wrote)

    -- the store failed behind all of it
    pub kept_unreplaced : (failure : StoreError) (new : List ℕ) → r ≡ Err (Store failure) → store' ≡ store
        → (IsClearBehind ran_kept ran → Resumed ran_kept ran written written' new) → KeptRun edition expected r store store' told told' written written'
    kept_unreplaced failure new e still all =
        rw e (still, inr (kept, script, begins, meant (λ k s. IsClearBehind k s → (text : List ℕ) × Continues k s text × GrowsBy written written' text) (said_all new all)))

went_on : (kept script new : List ℕ) (store store' written written' : Option (List ℕ)) → (IsClearBehind kept script → Resumed kept script written written' new)
    → (IsClearBehind kept script → length new ≤ length kept + length script + 2) → length kept + length script + 2 ≤ limit → StoreBecomes store store' new
    → IsClearBehind kept script → WentOn kept script store store' written written'
went_on kept script new store store' written written' all short fits becomes clear = record {
  new = new;
  resumed = all clear;
  fits = let few = short clear in omega (arith, few, fits);
  holds = becomes;
}

-- all was written and kept
pub kept_all : (edition : Option Edition) (expected store store' : Option (List ℕ)) (told told' : Option (List ReadResult)) (written written' : Option (List ℕ)) (kept lines script ran_kept ran new : List ℕ)
    → Begins expected store told told' kept script → lines ≡ with_edition_line edition script → ran_kept ≡ kept → ran ≡ lines → (IsClearBehind ran_kept ran → Resumed ran_kept ran written written' new)
    → (IsClearBehind ran_kept ran → length new ≤ length ran_kept + length ran + 2) → length kept + length lines + 2 ≤ limit → StoreBecomes store store' new
    → KeptRun {A = Unit {0}} edition expected (Ok tt) store store' told told' written written'
kept_all edition expected store store' told told' written written' kept lines script ran_kept ran new begins is same_kept same all short fits becomes =
    let fit : length ran_kept + length ran + 2 ≤ limit = rw (same_kept, same) fits in
    let went = went_on ran_kept ran new store store' written written' all short fit becomes in (
      kept,
      script,
      begins,
      subst (λ (s : List ℕ). IsClearBehind kept s → WentOn kept s store store' written written') is
          (subst (λ (s : List ℕ). IsClearBehind kept s → WentOn kept s store store' written written') same
          (subst (λ (k : List ℕ). IsClearBehind k ran → WentOn k ran store store' written written') same_kept went)),
    )

-- what a store holds becomes the new bytes, if it held what is kept
pub kept_becomes : (store found store' : Option (List ℕ)) (kept new ran_kept ran_new : List ℕ) → found ≡ store → ran_kept ≡ kept → ran_new ≡ new → StoreHolds store kept
    → (StoreHolds found ran_kept → StoreBecomes found store' ran_new) → StoreBecomes store store' new
kept_becomes store found store' kept new ran_kept ran_new still same_kept same holds becomes =
    let held : StoreHolds found ran_kept = subst (λ (k : List ℕ). StoreHolds found k) (sym same_kept) (subst (λ (s : Option (List ℕ)). StoreHolds s kept) (sym still) holds) in
    subst (λ (n : List ℕ). StoreBecomes store store' n) same (subst (λ (s : Option (List ℕ)). StoreBecomes s store' ran_new) still (becomes held))

-- ---- how many failures are counted

module _ {A : Type 0} (r : Result A KeepError) (n m : ℕ) where
  -- how many the reader counts where nothing was run
  abbrev pub Counted : Type 0
  Counted = n ≡ m + kept_reads r

  pub unread_counted : (refusal : ReadError) → r ≡ Err (Session (unread refusal)) → n ≡ m + failures_of {A = Vec ℕ Global} (Err refusal) → Counted
  unread_counted reads.Memory e h = rw e h
  unread_counted reads.Read e h = rw e h
  unread_counted reads.TooLong e h = rw e h

  pub memory_counted : r ≡ Err (Session Memory) → n ≡ m → Counted
  memory_counted e h = rw e (omega (arith, h))

  pub unloaded_counted : (error : KeepError) (expected store : Option (List ℕ)) → r ≡ Err error → NotLoaded expected error store → n ≡ m → Counted
  unloaded_counted (Session Memory) expected store e l h = rw e (omega (arith, h))
  unloaded_counted (Session Read) expected store e l h = absurd l
  unloaded_counted (Session Write) expected store e l h = absurd l
  unloaded_counted (Session TooLong) expected store e l h = absurd l
  unloaded_counted (Store failure) expected store e l h = rw e (omega (arith, h))
  unloaded_counted Full expected store e l h = absurd l
  unloaded_counted Another expected store e l h = rw e (omega (arith, h))

module _ {A : Type 0} (r : Result A KeepError) where
  -- how many the writer counts where nothing was run: none
  abbrev pub Unwrote : Type 0
  Unwrote = kept_writes r ≡ 0

  pub unread_unwrote : (refusal : ReadError) → r ≡ Err (Session (unread refusal)) → Unwrote
  unread_unwrote reads.Memory e = rw e refl
  unread_unwrote reads.Read e = rw e refl
  unread_unwrote reads.TooLong e = rw e refl

  pub memory_unwrote : r ≡ Err (Session Memory) → Unwrote
  memory_unwrote e = rw e refl

  pub unloaded_unwrote : (error : KeepError) (expected store : Option (List ℕ)) → r ≡ Err error → NotLoaded expected error store → Unwrote
  unloaded_unwrote (Session Memory) expected store e l = rw e refl
  unloaded_unwrote (Session Read) expected store e l = absurd l
  unloaded_unwrote (Session Write) expected store e l = absurd l
  unloaded_unwrote (Session TooLong) expected store e l = absurd l
  unloaded_unwrote (Store failure) expected store e l = rw e refl
  unloaded_unwrote Full expected store e l = absurd l
  unloaded_unwrote Another expected store e l = rw e refl

  -- where the script's text wasn't written whole
  pub unanswered_reads : (refusal : AnswerError) → r ≡ Err (Session (unanswered refusal)) → kept_reads r ≡ 0
  unanswered_reads answers.Memory e = rw e refl
  unanswered_reads answers.Write e = rw e refl

  pub unanswered_writes : (refusal : AnswerError) (n m : ℕ) → r ≡ Err (Session (unanswered refusal)) → n ≡ m + unwritten_count {A = Vec ℕ Global} (Err refusal) → n ≡ m + kept_writes r
  unanswered_writes answers.Memory n m e h = rw e h
  unanswered_writes answers.Write n m e h = rw e h

  -- where the store failed behind all of it
  pub unreplaced_counts : (failure : StoreError) → r ≡ Err (Store failure) → (kept_reads r ≡ 0) × (kept_writes r ≡ 0)
  unreplaced_counts failure e = rw e (refl, refl)
