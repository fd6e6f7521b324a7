use Rattle.std.proofs.Common.{◌≡◌, ◌⊎◌, ℕ, List, Some, sym, ap, ◌∙◌, subst, inl, inr, arith}
use Rattle.std.proofs.lemmas.Bool.{cases_eq}
use Rattle.std.specs.List.{slice_get, Contains}
use Rattle.ws_reach.proofs.Marks.{grows_through, grows_contains}
use Rattle.ws_reach.proofs.Reached.{contains_get, get_contains}
use Rattle.ws_reach.proofs.worklists.note_all.Goals as goal

-- what comes from one more node comes from all of them
one_more : (nodes before new old : List ℕ) (i node : ℕ) → slice_get nodes i ≡ Some node → ((x : ℕ) → Contains new x → Contains before x ⊎ (x ≡ node)) → ((x : ℕ) → Contains before x → Contains old x ⊎ Contains nodes x)
    → (x : ℕ) → Contains new x → Contains old x ⊎ Contains nodes x
one_more nodes before new old i node at step from x k = elim (step x k) [
  | inl h ↦ from x h
  | inr e ↦ inr (subst (Contains nodes) (sym e) (get_contains nodes i node at))
]

pub note-requires-clause-below : goal.note-requires-clause-below
note-requires-clause-below c =
    let below = c.requires.below c.node_at.result (get_contains c.args.nodes.now c.loop-i.i c.node_at.result c.node_at.ensures) in
    omega (arith, below, c.loop-i.invariant.size)

pub returns-in_err-note-clause-from : goal.returns-in_err-note-clause-from
returns-in_err-note-clause-from c =
    one_more c.args.nodes.now c.loop-i.found.items c.note.new.found.items c.args.found.now.items c.loop-i.i c.node_at.result c.node_at.ensures c.note.ensures.from c.loop-i.invariant.from

pub loop-i-preserved : goal.loop-i-preserved
loop-i-preserved c =
    let inv = c.loop-i.invariant in
    let ens = c.in_ok-note.ensures in
    let nodes = c.args.nodes.now in
    let node = c.node_at.result in
    record {
      size = ens.size ∙ inv.size;
      marks = ens.kept;
      grows = grows_through c.args.found.now.items c.loop-i.found.items c.note.new.found.items inv.grows ens.grows;
      from = one_more nodes c.loop-i.found.items c.note.new.found.items c.args.found.now.items c.loop-i.i node c.node_at.ensures ens.from inv.from;
      taken = λ k x lt is. elim (cases_eq k c.loop-i.i) [
        | inl e ↦ (
            let same : Some node ≡ Some x = sym c.node_at.ensures ∙ sym (ap (slice_get nodes) e) ∙ is in
            let node_is : node ≡ x = cc in
            subst (Contains c.note.new.found.items) node_is ens.taken)
        | inr ne ↦ grows_contains c.loop-i.found.items c.note.new.found.items ens.grows x (inv.taken k x (omega (arith, lt, ne)) is)
      ];
    }

pub returns-clause-taken : goal.returns-clause-taken
returns-clause-taken c = λ x k. c.loop-i.invariant.taken k.0 x (let in_k = k.1 in omega (arith, in_k, c.loop-i-test.false)) (contains_get c.args.nodes.now x k)
