-- What the replicas of a session took is of files: each write is a source text or a removal, at a path of a file.
use Rattle.std.proofs.Common.{◌≡◌, ℕ, List, [], ◌∷◌, ◌++◌, map, Option, None, Some, true, false, Bool, not, refl, sym, cond, subst, inl, inr}
use Rattle.std.specs.Prelude.{is_none, unwrap_or, if◌then◌else◌, ◌==◌}
use Rattle.std.specs.List.{Contains, flat_map, list_any}
use Rattle.std.specs.Str.{bytes_eq, is_utf8}
use Rattle.std.proofs.lemmas.Bool.{and_parts}
use Rattle.std.proofs.lemmas.List.Elements.{Contains-append_cases}
use Rattle.go_text.specs.declared.edition.Edition.{Edition}
use Rattle.go_text.specs.Texts.{text_error}
use Rattle.go_text.proofs.Texts.{valid_in_any}
use Rattle.go_text.specs.declared.text.TextError.{TextError}
use Rattle.ws_path.specs.Paths.{is_path}
use Rattle.ws_version.specs.Writes.{Write as AWrite, IsText, IsOfFile}
use Rattle.ws_register.specs.Sources.{top, HasFiles}
use Rattle.ws_register.proofs.Filed.{all_have_files}
use Rattle.ws_action.specs.Actions.{Action}
use Rattle.ws_action.proofs.Members.{none_in_empty, head_or_later}
use Rattle.ws_replica.specs.Reports.{TargetBuild}
use Rattle.ws_command.specs.declared.refusal.Refusal.{Refusal}
use Rattle.ws_command.specs.declared.refusal.Refusal.TheVariants.{Unknown, BadPath, NoFile, CounterFull, BadText}
use Rattle.ws_command.specs.Commands.{Command, Nothing, Bad, Create, Write, Remove, Apply, Merge, Settle, Build, Run, Ids, Show, Use}
use Rattle.ws_command.specs.Refusals.{first_of}
use Rattle.ws_session.specs.World.{World, ReplicaModel, replica_at, or_new, knows, writes_of, actions_held, lacks, taking, grown_by, sharing, after_builds, edit_of, removal_of, is_whole_text, is_path_word, is_content, content_in, refusals, Accepted, AfterBy, After}
use Rattle.ws_session.proofs.Bytes.{utf8_bytes}

-- each of these writes is of a file
abbrev pub OfFiles : List AWrite → Type 0
OfFiles W = (w : AWrite) → Contains W w → IsOfFile w

-- each write that each of these replicas took is
abbrev pub AreFiled : List ReplicaModel → Type 0
AreFiled [] = Unit {0}
AreFiled (r ∷ rs) = OfFiles r.writes × AreFiled rs

abbrev pub IsFiled : World → Type 0
IsFiled world = AreFiled world.replicas

-- ---- lists of writes

no_files : OfFiles []
no_files w c = absurd (none_in_empty w c)

one_file : (w : AWrite) → IsOfFile w → OfFiles (w ∷ [])
one_file w is v c = elim (head_or_later w [] v c) [ inl same ↦ subst IsOfFile same is | inr none ↦ absurd (none_in_empty v none) ]

both_files : (V W : List AWrite) → OfFiles V → OfFiles W → OfFiles (V ++ W)
both_files V W f g w c = elim (Contains-append_cases V W w c) [ inl l ↦ f w l | inr r ↦ g w r ]

all_files : (rs : List ReplicaModel) → AreFiled rs → OfFiles (flat_map (λ r. r.writes) rs)
all_files [] f = no_files
all_files (r ∷ rs) f = both_files r.writes (flat_map (λ s. s.writes) rs) f.0 (all_files rs f.1)

-- ---- lists of replicas

-- what a replica that grew took
grown_files : (r : ReplicaModel) (W : List AWrite) (E : List Action) → OfFiles r.writes → OfFiles W → OfFiles (grown_by r W E).writes
grown_files r W E f g = both_files r.writes W f g

taking_filed : (name : List ℕ) (W : List AWrite) (E : List Action) → OfFiles W → (rs : List ReplicaModel) → AreFiled rs → AreFiled (taking name W E rs)
taking_filed name W E g [] f = tt
taking_filed name W E g (r ∷ rs) f =
    let by : (b : Bool) → AreFiled (cond b (grown_by r W E ∷ rs) (r ∷ taking name W E rs)) =
    λ b. elim b as (λ z. AreFiled (cond z (grown_by r W E ∷ rs) (r ∷ taking name W E rs))) [
      | true ↦ (grown_files r W E f.0 g, f.1)
      | false ↦ (f.0, taking_filed name W E g rs f.1)
    ] in by (bytes_eq r.name name)

-- each with these writes
with_filed : (W : List AWrite) (E : List Action) → OfFiles W → (rs : List ReplicaModel) → AreFiled (map (λ r. record { name = r.name; number = r.number; writes = W; actions = E }) rs)
with_filed W E g [] = tt
with_filed W E g (r ∷ rs) = (g, with_filed W E g rs)

sharing_filed : (targets : List (List ℕ × List ℕ)) (E : List Action) (rs : List ReplicaModel) → AreFiled rs → AreFiled (sharing targets E rs)
sharing_filed targets E [] f = tt
sharing_filed targets E (r ∷ rs) f =
    let by : (b : Bool) → OfFiles (if b then grown_by r [] E else r).writes = λ b. elim b as (λ z. OfFiles (if z then grown_by r [] E else r).writes) [
      | true ↦ grown_files r [] E f.0 no_files
      | false ↦ f.0
    ] in (by (list_any (λ t. bytes_eq r.name t.0) targets), sharing_filed targets E rs f.1)

push_filed : (rs : List ReplicaModel) (r : ReplicaModel) → AreFiled rs → OfFiles r.writes → AreFiled (rs ++ r ∷ [])
push_filed [] r f g = (g, tt)
push_filed (q ∷ rs) r f g = (f.0, push_filed rs r f.1 g)

files_at : (name : List ℕ) (rs : List ReplicaModel) → AreFiled rs → OfFiles (or_new (replica_at name rs)).writes
files_at name [] f = no_files
files_at name (r ∷ rs) f =
    let by : (b : Bool) → OfFiles (or_new (cond b (Some r) (replica_at name rs))).writes = λ b. elim b as (λ z. OfFiles (or_new (cond z (Some r) (replica_at name rs))).writes) [
      | true ↦ f.0
      | false ↦ files_at name rs f.1
    ] in by (bytes_eq r.name name)

-- so what the replica of a name took has files
pub files_of : (name : List ℕ) (world : World) → IsFiled world → HasFiles (writes_of name world)
files_of name world f = all_have_files (writes_of name world) (files_at name world.replicas f)

-- ---- what a command that isn't refused writes

-- none of its refusals comes, so none of their reasons holds
write_passed : (a b c d : Bool) → cond a (Some Unknown) (cond b (Some BadPath) (cond c (Some CounterFull) (cond d (Some BadText) None))) ≡ None → (b ≡ false) × (d ≡ false)
write_passed true b c d e = cc
write_passed false true c d e = cc
write_passed false false true d e = cc
write_passed false false false true e = cc
write_passed false false false false e = (refl, refl)

remove_passed : (a b c d : Bool) → cond a (Some Unknown) (cond b (Some BadPath) (cond c (Some NoFile) (cond d (Some CounterFull) None))) ≡ None → b ≡ false
remove_passed true b c d e = cc
remove_passed false true c d e = cc
remove_passed false false c d e = refl

apply_passed : (a b c : Bool) → cond a (Some Unknown) (cond b (Some BadPath) (cond c (Some BadText) None)) ≡ None → (b ≡ false) × (c ≡ false)
apply_passed true b c e = cc
apply_passed false true c e = cc
apply_passed false false true e = cc
apply_passed false false false e = (refl, refl)

is_true : (b : Bool) → not b ≡ false → b ≡ true
is_true true e = refl
is_true false e = cc

no_error : (o : Option TextError) → is_none o ≡ true → o ≡ None
no_error None e = refl
no_error (Some x) e = cc

path_is : (path : List ℕ) → is_path_word path ≡ true → is_path path ≡ true
path_is path e = (and_parts (is_utf8 path) (is_path path) e).1

text_is : (edition : Edition) (text : Option (List ℕ)) (s : List ℕ) → is_whole_text edition text ≡ true → unwrap_or text [] ≡ s → IsText s
text_is edition None s e same = cc
text_is edition (Some t) s e same =
    let both = and_parts (is_utf8 t) (is_none (text_error edition t)) e in
    subst IsText same (record { valid = valid_in_any edition t (no_error (text_error edition t) both.1); bytes = utf8_bytes t both.0 })

some_same : (s t : List ℕ) → Some s ≡ Some t → s ≡ t
some_same s t e = cc

edit_is : (name path : List ℕ) (text : Option (List ℕ)) (world : World) → is_path_word path ≡ true → is_whole_text world.edition text ≡ true → IsOfFile (edit_of name path (unwrap_or text []) world)
edit_is name path text world p t = record { path = path_is path p; text = λ s e. text_is world.edition text s t (some_same (unwrap_or text []) s e) }

removal_is : (name path : List ℕ) (world : World) → is_path_word path ≡ true → IsOfFile (removal_of name path world)
removal_is name path world p = record { path = path_is path p; text = λ s e. cc }

content_is : (edition : Edition) (lines : Option ℕ) (text : Option (List ℕ)) (s : List ℕ) → is_content edition lines text ≡ true → content_in lines text ≡ Some s → IsText s
content_is edition None text s c e = cc
content_is edition (Some n) text s c e = text_is edition text s c (some_same (unwrap_or text []) s e)

applied_is : (edition : Edition) (path : List ℕ) (counter number : ℕ) (lines : Option ℕ) (text : Option (List ℕ)) → is_path_word path ≡ true → is_content edition lines text ≡ true → IsOfFile (path, record { counter = counter; number = number; text = content_in lines text })
applied_is edition path counter number lines text p c = record { path = path_is path p; text = λ s e. content_is edition lines text s c e }

-- ---- after a command

same_filed : (world next : World) → next ≡ world → IsFiled world → IsFiled next
same_filed world next e f = subst IsFiled (sym e) f

filed_builds : (world : World) (targets : List (List ℕ × List ℕ)) (builds : Option (List TargetBuild)) → IsFiled world → IsFiled (after_builds world targets builds)
filed_builds world targets None f = f
filed_builds world targets (Some builds) f = sharing_filed targets _ world.replicas f

filed_accepted : (command : Command) (text : Option (List ℕ)) (world next : World) → first_of (refusals command text world) ≡ None → Accepted command text world next → IsFiled world → IsFiled next
filed_accepted Nothing text world next none e f = same_filed world next e f
filed_accepted Bad text world next none e f = same_filed world next e f
filed_accepted (Create name) text world next none e f = subst IsFiled (sym e) (push_filed world.replicas _ f no_files)
filed_accepted (Write name path lines) text world next none e f =
    let w : AWrite = edit_of name path (unwrap_or text []) world in
    let is = write_passed (not (knows name world)) (not (is_path_word path)) (top (writes_of name world) == 18446744073709551615) (not (is_whole_text world.edition text)) none in
    let file : IsOfFile w = edit_is name path text world (is_true (is_path_word path) is.0) (is_true (is_whole_text world.edition text) is.1) in
    subst IsFiled (sym e) (taking_filed name (w ∷ []) [] (one_file w file) world.replicas f)
filed_accepted (Remove name path) text world next none e f =
    let w : AWrite = removal_of name path world in
    let is = remove_passed (not (knows name world)) (not (is_path_word path)) (lacks name path world) (top (writes_of name world) == 18446744073709551615) none in
    let file : IsOfFile w = removal_is name path world (is_true (is_path_word path) is) in
    subst IsFiled (sym e) (taking_filed name (w ∷ []) [] (one_file w file) world.replicas f)
filed_accepted (Apply name path counter number lines) text world next none e f =
    let w : AWrite = (path, record { counter = counter; number = number; text = content_in lines text }) in
    let is = apply_passed (not (knows name world)) (not (is_path_word path)) (not (is_content world.edition lines text)) none in
    let file : IsOfFile w = applied_is world.edition path counter number lines text (is_true (is_path_word path) is.0) (is_true (is_content world.edition lines text) is.1) in
    subst IsFiled (sym e) (taking_filed name (w ∷ []) [] (one_file w file) world.replicas f)
filed_accepted (Merge name other) text world next none e f = subst IsFiled (sym e) (taking_filed name (writes_of other world) (actions_held other world) (files_at other world.replicas f) world.replicas f)
filed_accepted Settle text world next none e f =
    subst IsFiled (sym e) (with_filed (flat_map (λ r. r.writes) world.replicas) (flat_map (λ r. r.actions) world.replicas) (all_files world.replicas f) world.replicas)
filed_accepted (Build targets) text world next none (builds, are, e) f = subst IsFiled (sym e) (filed_builds world targets builds f)
filed_accepted (Run name directory ticks) text world next none (build, is, e) f = subst IsFiled (sym e) f
filed_accepted (Ids name directory) text world next none (build, is, e) f = subst IsFiled (sym e) f
filed_accepted (Show name) text world next none e f = same_filed world next e f
filed_accepted (Use edition) text world next none e f = subst IsFiled (sym e) f

filed_by : (refusal : Option Refusal) (command : Command) (text : Option (List ℕ)) (world next : World) → first_of (refusals command text world) ≡ refusal → AfterBy refusal command text world next → IsFiled world → IsFiled next
filed_by None command text world next is after f = filed_accepted command text world next is after f
filed_by (Some refusal) command text world next is after f = same_filed world next after f

pub filed_after : (command : Command) (text : Option (List ℕ)) (world next : World) → After command text world next → IsFiled world → IsFiled next
unfolding After
filed_after command text world next after f = filed_by (first_of (refusals command text world)) command text world next refl after f
