use Rattle.std.proofs.Common.{◌++◌, sym, subst}
use Rattle.std.specs.Prelude.{Result, Ok, Err, IfOk}
use Rattle.std.specs.FinMap.{FinMap}
use Rattle.ws_map.specs.Kept.{StandsFor}
use Rattle.ws_version.specs.Writes.{Held, path_cmp, held_cmp}
use Rattle.ws_version_vector.specs.Taken.{Brings}
use Rattle.ws_replica.proofs.Membership.{same_writes, more_known, all_known}
use Rattle.ws_replica.proofs.sharing.registers_of.Goals as goal

if_ok : {A E : Type 0} {P Q : A → Type 0} (r : Result A E) → ((a : A) → P a → Q a) → IfOk r P → IfOk r Q
if_ok (Ok a) f h = f a h
if_ok (Err e) f h = tt

pub returns-in-Nothing : goal.returns-in-Nothing
returns-in-Nothing c = if_ok c.copy.result (λ both same V W brings mine theirs.
    let within = subst (λ n. Brings n V W) c.in-Nothing.is brings in
    subst (λ (m : FinMap path_cmp Held). StandsFor held_cmp m (V ++ W)) (sym same) (same_writes c.args.mine.now V (V ++ W) (more_known V W within) mine)) c.copy.ensures

pub returns-in-Everything : goal.returns-in-Everything
returns-in-Everything c = if_ok c.copy-in-Everything.result (λ both same V W brings mine theirs.
    let within = subst (λ n. Brings n V W) c.in-Everything.is brings in
    subst (λ (m : FinMap path_cmp Held). StandsFor held_cmp m (V ++ W)) (sym same) (same_writes c.args.theirs.now W (V ++ W) (all_known V W within) theirs)) c.copy-in-Everything.ensures
