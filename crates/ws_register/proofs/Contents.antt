-- Writes that ascend, and the map that they are.
use Rattle.std.specs.Prelude.{◌≡◌, ℕ, List}
use Rattle.std.specs.FinMap.{FinMap, entries, entries_sorted, entries-insert, get, get-entries, get-from_entries, insert, find, put, same_map}
use Rattle.std.proofs.Common.{sym, ap, subst, ◌∙◌}
use Rattle.ws_map.specs.Kept.{joined}
use Rattle.ws_map.proofs.Gathered.{entries-from_entries}
use Rattle.ws_version.specs.Writes.{Held, Write, path_cmp, greater_held}
use Rattle.ws_version.proofs.Writes.{path_cmp_total, path_cmp-IsAntisymmetric}
use Rattle.ws_register.specs.Pages.{Ascends, contents, joined_writes}
use Rattle.ws_register.proofs.Walks.{turned}

pub entries-contents : (W : List Write) → Ascends W → entries (contents W) ≡ W
entries-contents W h = entries-from_entries path_cmp_total path_cmp-IsAntisymmetric W h

contents-entries : (m : FinMap path_cmp Held) → contents (entries m) ≡ m
contents-entries m = same_map path_cmp_total path_cmp-IsAntisymmetric (contents (entries m)) m (λ q. get-from_entries path_cmp_total (entries m) q ∙ sym (get-entries m q))

pub get-contents : (W : List Write) (path : List ℕ) → get (contents W) path ≡ find path_cmp path W
get-contents W path = get-from_entries path_cmp_total W path

pub contents-joined : (V W all : List Write) → all ≡ joined_writes V W → contents all ≡ joined greater_held (contents V) (contents W)
contents-joined V W all e = ap contents e ∙ contents-entries (joined greater_held (contents V) (contents W))

pub joined-ascends : (V W all : List Write) → all ≡ joined_writes V W → Ascends all
joined-ascends V W all e = subst Ascends (sym e) (entries_sorted (joined greater_held (contents V) (contents W)))

put-entries : (W all : List Write) (path : List ℕ) (held : Held) → Ascends W → all ≡ put path_cmp path held W → all ≡ entries (insert (contents W) path held)
put-entries W all path held h e = e ∙ ap (put path_cmp path held) (sym (entries-contents W h)) ∙ sym (entries-insert path_cmp_total (contents W) path held)

pub contents-put : (W all : List Write) (path : List ℕ) (held : Held) → Ascends W → all ≡ put path_cmp path held W → contents all ≡ insert (contents W) path held
contents-put W all path held h e = ap contents (put-entries W all path held h e) ∙ contents-entries (insert (contents W) path held)

pub put-ascends : (W all : List Write) (path : List ℕ) (held : Held) → Ascends W → all ≡ put path_cmp path held W → Ascends all
put-ascends W all path held h e = subst Ascends (sym (put-entries W all path held h e)) (entries_sorted (insert (contents W) path held))

-- of the maps of two lists: where the second brings no news, where it has all of the first, and else
module _ (V W : List Write) (m n : FinMap path_cmp Held) (first : contents V ≡ m) (second : contents W ≡ n) where
  pub known-joined : joined_writes V W ≡ V → m ≡ joined greater_held m n
  known-joined known =
      sym first ∙ contents-joined V W V (sym known)
      ∙ ap (λ k. joined greater_held k (contents W)) first ∙ ap (joined greater_held m) second

  pub knows-joined : joined_writes W V ≡ W → n ≡ joined greater_held m n
  knows-joined knows =
      sym second ∙ contents-joined V W W (sym knows ∙ turned W V)
      ∙ ap (λ k. joined greater_held k (contents W)) first ∙ ap (joined greater_held m) second

  pub both-joined : (all : List Write) → all ≡ joined_writes V W → contents all ≡ joined greater_held m n
  both-joined all is =
      contents-joined V W all is
      ∙ ap (λ k. joined greater_held k (contents W)) first ∙ ap (joined greater_held m) second
