use Rattle.std.proofs.Common.{◌≡◌, ◌<◌, length, string_bytes, ◌++◌, ◌∷◌, [], List, ℕ, Some, None, subst, refl, ap, ◌∙◌, arith, get_or}
use Rattle.std.proofs.Math.ListN.{set}
use Rattle.ws_register.specs.Edits.{removed, removal_refusal, greatest_at, IsRefusal}
use Rattle.ws_register.specs.declared.EditError.{EditError}
use Rattle.ws_register.specs.declared.EditError.TheVariants.{BadPath, NoFile, CounterFull}
use Rattle.ws_register.specs.Sources.{top}
use Rattle.ws_replica.specs.Holdings.{Replica, ReplicaStandsFor}
use Rattle.ws_session.specs.declared.replicas.SessionReplica.{SessionReplica}
use Rattle.ws_session.specs.Representation.{Removed}
use Rattle.ws_session.proofs.Standings.{changed_one, one_element, set_same}
use Rattle.ws_session.proofs.Writing.{row_of_refusal}
use Rattle.ws_session.proofs.replicas.remove_at.Goals as goal

unchanged : (ns : List SessionReplica) (k : ℕ) (old : SessionReplica) (replica : Replica) → replica ≡ old.replica → old ≡ get_or ns k old → set ns k (record { name = old.name; number = old.number; replica = replica }) ≡ ns
unchanged ns k old replica e is = ap (λ (r : Replica). let n : SessionReplica = record { name = old.name; number = old.number; replica = r } in set ns k n) e ∙ set_same ns k old is

pub returns-in-Ok : goal.returns-in-Ok
returns-in-Ok c =
    let old : SessionReplica = c.index_mut-one.result.now in
    let new : SessionReplica = record { name = old.name; number = old.number; replica = c.remove.new.self } in
    let inside : c.args.index < length c.args.named.now.items = omega (arith, c.requires.index, c.args.named.now.ok.0) in
    record {
      refuses = λ n W E e h.
          let same = one_element c.args.named.now.items c.args.index n old inside e c.index_mut-one.ensures.value in
          row_of_refusal c.args.path.now W None c.requires.path
          (subst (λ (p : List ℕ). removal_refusal (top W) p (greatest_at p W) ≡ None) c.in_ok-path.ensures.ok (c.in-Ok.ensures.allowed W E (subst (λ (m : SessionReplica). ReplicaStandsFor m.replica W E) same h)));
      changes = changed_one (Removed c.args.path.now) c.args.named.now.items c.args.index old new inside c.index_mut-one.ensures.value
          (record {
            name = refl;
            number = refl;
            holds = λ W E h. subst (λ (p : List ℕ). ReplicaStandsFor c.remove.new.self (W ++ (p, removed (top W) old.number) ∷ []) E) c.in_ok-path.ensures.ok (c.in-Ok.ensures.stands W E h);
          });
    }

pub returns-in-Err-BadPath : goal.returns-in-Err-BadPath
returns-in-Err-BadPath c =
    let old : SessionReplica = c.index_mut-one.result.now in
    let inside : c.args.index < length c.args.named.now.items = omega (arith, c.requires.index, c.args.named.now.ok.0) in
    record {
      refuses = λ n W E e h.
          let same = one_element c.args.named.now.items c.args.index n old inside e c.index_mut-one.ensures.value in
          let refused : removal_refusal (top W) (string_bytes c.in_ok-path.path) (greatest_at (string_bytes c.in_ok-path.path) W) ≡ Some BadPath =
          subst (λ (x : EditError). IsRefusal x (removal_refusal (top W) (string_bytes c.in_ok-path.path) (greatest_at (string_bytes c.in_ok-path.path) W))) c.in-Err-BadPath.field-0-is
          (c.in-Err-BadPath.ensures.refused W E (subst (λ (m : SessionReplica). ReplicaStandsFor m.replica W E) same h)) in
          row_of_refusal c.args.path.now W (Some BadPath) c.requires.path (subst (λ (p : List ℕ). removal_refusal (top W) p (greatest_at p W) ≡ Some BadPath) c.in_ok-path.ensures.ok refused);
      changes = unchanged c.args.named.now.items c.args.index old c.remove.new.self c.in-Err-BadPath.ensures.err c.index_mut-one.ensures.value;
    }

pub returns-in-Err-NoFile : goal.returns-in-Err-NoFile
returns-in-Err-NoFile c =
    let old : SessionReplica = c.index_mut-one.result.now in
    let inside : c.args.index < length c.args.named.now.items = omega (arith, c.requires.index, c.args.named.now.ok.0) in
    record {
      refuses = λ n W E e h.
          let same = one_element c.args.named.now.items c.args.index n old inside e c.index_mut-one.ensures.value in
          let refused : removal_refusal (top W) (string_bytes c.in_ok-path.path) (greatest_at (string_bytes c.in_ok-path.path) W) ≡ Some NoFile =
          subst (λ (x : EditError). IsRefusal x (removal_refusal (top W) (string_bytes c.in_ok-path.path) (greatest_at (string_bytes c.in_ok-path.path) W))) c.in-Err-NoFile.field-0-is
          (c.in-Err-NoFile.ensures.refused W E (subst (λ (m : SessionReplica). ReplicaStandsFor m.replica W E) same h)) in
          row_of_refusal c.args.path.now W (Some NoFile) c.requires.path (subst (λ (p : List ℕ). removal_refusal (top W) p (greatest_at p W) ≡ Some NoFile) c.in_ok-path.ensures.ok refused);
      changes = unchanged c.args.named.now.items c.args.index old c.remove.new.self c.in-Err-NoFile.ensures.err c.index_mut-one.ensures.value;
    }

pub returns-in-Err-CounterFull : goal.returns-in-Err-CounterFull
returns-in-Err-CounterFull c =
    let old : SessionReplica = c.index_mut-one.result.now in
    let inside : c.args.index < length c.args.named.now.items = omega (arith, c.requires.index, c.args.named.now.ok.0) in
    record {
      refuses = λ n W E e h.
          let same = one_element c.args.named.now.items c.args.index n old inside e c.index_mut-one.ensures.value in
          let refused : removal_refusal (top W) (string_bytes c.in_ok-path.path) (greatest_at (string_bytes c.in_ok-path.path) W) ≡ Some CounterFull =
          subst (λ (x : EditError). IsRefusal x (removal_refusal (top W) (string_bytes c.in_ok-path.path) (greatest_at (string_bytes c.in_ok-path.path) W))) c.in-Err-CounterFull.field-0-is
          (c.in-Err-CounterFull.ensures.refused W E (subst (λ (m : SessionReplica). ReplicaStandsFor m.replica W E) same h)) in
          row_of_refusal c.args.path.now W (Some CounterFull) c.requires.path (subst (λ (p : List ℕ). removal_refusal (top W) p (greatest_at p W) ≡ Some CounterFull) c.in_ok-path.ensures.ok refused);
      changes = unchanged c.args.named.now.items c.args.index old c.remove.new.self c.in-Err-CounterFull.ensures.err c.index_mut-one.ensures.value;
    }
