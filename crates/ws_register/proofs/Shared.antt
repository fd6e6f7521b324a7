-- Lists that several own: what clones of them hold.
use Rattle.std.specs.Prelude.{◌≡◌, List, [], ◌∷◌, ◌⊎◌, Vec, Result, Ok, Err, OnOk, OnErr}
use Rattle.std.specs.Arc.{arc_value}
use Rattle.std.specs.declared.sync.Arc.{Arc}
use Rattle.std.specs.List.{AllZip, flat_map}
use Rattle.std.proofs.Common.{refl, ap, ◌∙◌, inl, inr, vec_len}
use Rattle.ws_version.specs.Writes.{Write}
use Rattle.ws_register.specs.declared.node.Node.{Node}
use Rattle.ws_register.specs.Listed.{all_writes_of, writes_of}
use Rattle.ws_register.specs.Nodes.{writes_below}
use Rattle.ws_register.specs.Pages.{values}

module _ {X Z : Type 0} where
  pub same_values : (ps qs : List (Arc X Z)) → AllZip (λ p q. arc_value q ≡ arc_value p) ps qs → values qs ≡ values ps
  same_values [] [] h = refl
  same_values [] (q ∷ qs) h = absurd h
  same_values (p ∷ ps) [] h = absurd h
  same_values (p ∷ ps) (q ∷ qs) h = ap (λ z. z ∷ values qs) h.0 ∙ ap (λ zs. arc_value p ∷ zs) (same_values ps qs h.1)

  -- a list and its clone hold the same
  pub same_writes : {Y : Type 0} (held : X → List Write) (v w : Vec (Arc X Z) Y) → (w ≡ v) ⊎ (AllZip (λ p q. arc_value q ≡ arc_value p) v.items w.items × (vec_len w ≡ vec_len v)) → all_writes_of held w.items ≡ all_writes_of held v.items
  same_writes {Y = Y} held v w (inl same) = ap (λ (l : Vec (Arc X Z) Y). all_writes_of held l.items) same
  same_writes held v w (inr clone) = ap (flat_map held) (same_values v.items w.items clone.0)

-- a node and its clone do
pub same_below : (a b : Node) → (b ≡ a) ⊎ (values b.pages.items ≡ values a.pages.items) → writes_below b ≡ writes_below a
same_below a b (inl same) = ap writes_below same
same_below a b (inr clone) = ap (flat_map writes_of) clone

pub when_err : {A E P : Type 0} (r : Result A E) (e : E) → r ≡ Err e → OnErr r P → P
when_err (Ok a) e is p = cc
when_err (Err x) e is p = p

pub on_err : {A E P : Type 0} (r : Result A E) → P → OnErr r P
on_err (Ok a) p = tt
on_err (Err x) p = p

pub err_then : {A E P Q : Type 0} (r : Result A E) → (P → Q) → OnErr r P → OnErr r Q
err_then (Ok a) f p = tt
err_then (Err x) f p = f p

pub either : {A E P Q R : Type 0} (r : Result A E) → (P → R) → (Q → R) → OnOk r P → OnErr r Q → R
either (Ok a) f g p q = f p
either (Err x) f g p q = g q
