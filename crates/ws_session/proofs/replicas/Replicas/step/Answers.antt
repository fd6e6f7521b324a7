use Rattle.std.proofs.Common.{ap, map, refl, subst, List, [], ℕ, None, Some, Option, Vec, Global, arith}
use Rattle.std.specs.Prelude.{unwrap_or, vec_len}
use Rattle.std.specs.Borrow.{Bor}
use Rattle.std.specs.Option.{option_map}
use Rattle.ws_command.specs.declared.refusal.Refusal.TheVariants.{BadCommand}
use Rattle.ws_session.specs.declared.replicas.Replicas.{Replicas}
use Rattle.ws_session.specs.declared.replicas.SessionReplica.{SessionReplica}
use Rattle.ws_session.specs.declared.clock.WriteClock.{WriteClock}
use Rattle.ws_command.specs.Commands.{Nothing, Bad, Create, Write, Remove, Apply, Merge, Settle, Build, Run, Ids, Show}
use Rattle.ws_command.specs.Views.{command_view}
use Rattle.ws_session.specs.Representation.{asked_of, replica_index, CountedResult}
use Rattle.ws_session.specs.World.{edit_of, removal_of, content_in}
use Rattle.ws_session.proofs.Standings.{if_ok_map}
use Rattle.ws_session.proofs.Counted.{same_counted, create_counted, write_counted, after_write, after_remove, after_apply, merge_counted, settle_counted, after_nothing, after_bad, after_show, after_run, after_ids}
use Rattle.ws_session.proofs.CountedBuild.{written_after}
use Rattle.ws_session.proofs.Telling.{after_by, settled_tells, stepped, prints_nothing, prints_bad, prints_create, prints_write, prints_remove, prints_apply, prints_merge, prints_settle, used, nothing_settles, bad_settles}
use Rattle.ws_session.proofs.replicas.Replicas.step.Goals as goal

abbrev given : Option (Vec ℕ Global) → Option (List ℕ)
given text = option_map (λ v. v.items) text

abbrev with_all : Replicas → Vec SessionReplica Global → WriteClock → List (List ℕ) → Replicas
with_all s named wrote compiled = record { alloc = s.alloc; edition = s.edition; named = named; wrote = wrote; compiled = compiled }

pub returns-in-Nothing : goal.returns-in-Nothing
returns-in-Nothing g c = λ world h. if_ok_map c.told.result (λ told e.
    let s = c.args.self.now in
    let t = settled_tells Nothing (given c.args.text) world None told.items s.named.items (prints_nothing world None) e (nothing_settles (given c.args.text) world s.named.items h.replicas) in
    stepped s (command_view c.args.asked.now) Nothing (given c.args.text) world told.items (ap command_view c.in-Nothing.is) h.edition h.apart t
    (same_counted s.wrote s.compiled world t.next (after_nothing (given c.args.text) world t.next t.after) h.kept)) c.told.ensures

pub returns-in-Bad : goal.returns-in-Bad
returns-in-Bad g c = λ world h. if_ok_map c.told-in-Bad.result (λ told e.
    let s = c.args.self.now in
    let t = settled_tells Bad (given c.args.text) world (Some BadCommand) told.items s.named.items (prints_bad world (Some BadCommand)) e (bad_settles (given c.args.text) world s.named.items h.replicas) in
    stepped s (command_view c.args.asked.now) Bad (given c.args.text) world told.items (ap command_view c.in-Bad.is) h.edition h.apart t
    (same_counted s.wrote s.compiled world t.next (after_bad (given c.args.text) world t.next t.after) h.kept)) c.told-in-Bad.ensures

pub returns-in_ok-refusal-in-Create : goal.returns-in_ok-refusal-in-Create
returns-in_ok-refusal-in-Create g c = λ world h. if_ok_map c.told-in-Create.result (λ told e.
    let s = c.args.self.now in
    let name = c.in-Create.name.now in
    let refusal = c.in_ok-refusal-in-Create.refusal in
    let settles = c.in_ok-refusal-in-Create.ensures (given c.args.text) world h.replicas in
    let t = settled_tells (Create name) (given c.args.text) world refusal told.items c.create.new.named.items (prints_create name world refusal) e settles in
    stepped (with_all s c.create.new.named s.wrote s.compiled) (command_view c.args.asked.now) (Create name) (given c.args.text) world told.items (ap command_view c.in-Create.is) h.edition h.apart t
    (create_counted refusal name (given c.args.text) world t.next s.wrote s.compiled (after_by (Create name) (given c.args.text) world t.next refusal settles.refuses t.after) h.kept)) c.told-in-Create.ensures

pub returns-in-Show : goal.returns-in-Show
returns-in-Show g c = λ world h. if_ok_map c.show.result (λ told tells.
    let s = c.args.self.now in
    let name = c.in-Show.name.now in
    let t = tells (given c.args.text) world h.replicas in
    stepped s (command_view c.args.asked.now) (Show name) (given c.args.text) world told.items (ap command_view c.in-Show.is) h.edition h.apart t
    (same_counted s.wrote s.compiled world t.next (after_show name (given c.args.text) world t.next t.after) h.kept)) c.show.ensures

pub returns-in-Use : goal.returns-in-Use
returns-in-Use g c = λ world h. if_ok_map c.told-in-Use.result (λ told e.
    let s = c.args.self.now in
    used (command_view c.args.asked.now) c.in-Use.edition (given c.args.text) world told.items s (ap command_view c.in-Use.is) e h) c.told-in-Use.ensures

pub returns-in-Run : goal.returns-in-Run
returns-in-Run g c = λ world h. if_ok_map c.run_target.result (λ told tells.
    let s = c.args.self.now in
    let name = c.in-Run.name.now in
    let directory = c.in-Run.directory.now in
    let t = tells (given c.args.text) world h.edition h.replicas in
    stepped s (command_view c.args.asked.now) (Run name directory c.in-Run.ticks) (given c.args.text) world told.items (ap command_view c.in-Run.is) h.edition h.apart t
    (same_counted s.wrote s.compiled world t.next (after_run name directory c.in-Run.ticks (given c.args.text) world t.next t.after) h.kept)) c.run_target.ensures

pub returns-in-Ids : goal.returns-in-Ids
returns-in-Ids g c = λ world h. if_ok_map c.ids_target.result (λ told tells.
    let s = c.args.self.now in
    let name = c.in-Ids.name.now in
    let directory = c.in-Ids.directory.now in
    let t = tells (given c.args.text) world h.edition h.replicas in
    stepped s (command_view c.args.asked.now) (Ids name directory) (given c.args.text) world told.items (ap command_view c.in-Ids.is) h.edition h.apart t
    (same_counted s.wrote s.compiled world t.next (after_ids name directory (given c.args.text) world t.next t.after) h.kept)) c.ids_target.ensures

pub returns-in-Build : goal.returns-in-Build
returns-in-Build g c = λ world h. if_ok_map c.build_targets.result (λ told tells.
    let s = c.args.self.now in
    let targets : List (List ℕ × List ℕ) = map asked_of c.in-Build.targets.items in
    let kept = h.kept in
    let writes = kept.writes in
    let t : CountedResult (Build targets) (given c.args.text) world told.items c.build_targets.new.named.items c.build_targets.new.compiled =
    subst (λ (words : List (Bor (List ℕ) × Bor (List ℕ))). CountedResult (Build (map asked_of words)) (given c.args.text) world told.items c.build_targets.new.named.items c.build_targets.new.compiled) c.as_slice.ensures.value
    (tells (given c.args.text) world h.edition h.replicas h.apart kept.actions) in
    let its = t.tells in
    stepped (with_all s c.build_targets.new.named s.wrote c.build_targets.new.compiled) (command_view c.args.asked.now) (Build targets) (given c.args.text) world told.items (ap command_view c.in-Build.is) h.edition h.apart its
    (record { writes = written_after targets (given c.args.text) world its.next s.wrote its.after writes; actions = t.counted })) c.build_targets.ensures

pub returns-in_ok-refusal-in-Write : goal.returns-in_ok-refusal-in-Write
returns-in_ok-refusal-in-Write g c = λ world h. if_ok_map c.told-in-Write.result (λ told e.
    let s = c.args.self.now in
    let name = c.in-Write.name.now in
    let path = c.in-Write.path.now in
    let lines = c.in-Write.field-2 in
    let refusal = c.in_ok-refusal-in-Write.refusal in
    let settles = c.in_ok-refusal-in-Write.ensures.settles lines world h.edition h.replicas in
    let t = settled_tells (Write name path lines) (given c.args.text) world refusal told.items c.write_counted.new.named.items (prints_write name path lines world refusal) e settles in
    let after = after_by (Write name path lines) (given c.args.text) world t.next refusal settles.refuses t.after in
    stepped (with_all s c.write_counted.new.named c.write_counted.new.wrote s.compiled) (command_view c.args.asked.now) (Write name path lines) (given c.args.text) world told.items (ap command_view c.in-Write.is) h.edition h.apart t
    (write_counted refusal (replica_index name s.named.items) (edit_of name path (unwrap_or (given c.args.text) []) world) path world t.next s.wrote c.write_counted.new.wrote s.compiled refl
    (after_write (given c.args.text) world t.next s.named.items h.replicas name path lines refusal after) c.in_ok-refusal-in-Write.ensures.counted h.kept)) c.told-in-Write.ensures

pub returns-in_ok-refusal-in-Remove : goal.returns-in_ok-refusal-in-Remove
returns-in_ok-refusal-in-Remove g c = λ world h. if_ok_map c.told-in-Remove.result (λ told e.
    let s = c.args.self.now in
    let name = c.in-Remove.name.now in
    let path = c.in-Remove.path.now in
    let refusal = c.in_ok-refusal-in-Remove.refusal in
    let settles = c.in_ok-refusal-in-Remove.ensures.settles (given c.args.text) world h.replicas in
    let t = settled_tells (Remove name path) (given c.args.text) world refusal told.items c.remove_counted.new.named.items (prints_remove name path world refusal) e settles in
    let after = after_by (Remove name path) (given c.args.text) world t.next refusal settles.refuses t.after in
    stepped (with_all s c.remove_counted.new.named c.remove_counted.new.wrote s.compiled) (command_view c.args.asked.now) (Remove name path) (given c.args.text) world told.items (ap command_view c.in-Remove.is) h.edition h.apart t
    (write_counted refusal (replica_index name s.named.items) (removal_of name path world) path world t.next s.wrote c.remove_counted.new.wrote s.compiled refl
    (after_remove (given c.args.text) world t.next s.named.items h.replicas name path refusal after) c.in_ok-refusal-in-Remove.ensures.counted h.kept)) c.told-in-Remove.ensures

pub returns-in_ok-refusal-in-Apply : goal.returns-in_ok-refusal-in-Apply
returns-in_ok-refusal-in-Apply g c = λ world h. if_ok_map c.told-in-Apply.result (λ told e.
    let s = c.args.self.now in
    let name = c.in-Apply.name.now in
    let path = c.in-Apply.path.now in
    let counter = c.in-Apply.counter in
    let number = c.in-Apply.number in
    let lines = c.in-Apply.lines in
    let refusal = c.in_ok-refusal-in-Apply.refusal in
    let settles = c.in_ok-refusal-in-Apply.ensures.settles world h.edition h.replicas in
    let t = settled_tells (Apply name path counter number lines) (given c.args.text) world refusal told.items c.apply_counted.new.named.items (prints_apply name path counter number lines world refusal) e settles in
    let after = after_by (Apply name path counter number lines) (given c.args.text) world t.next refusal settles.refuses t.after in
    stepped (with_all s c.apply_counted.new.named c.apply_counted.new.wrote s.compiled) (command_view c.args.asked.now) (Apply name path counter number lines) (given c.args.text) world told.items (ap command_view c.in-Apply.is) h.edition h.apart t
    (write_counted refusal (replica_index name s.named.items) (path, record { counter = counter; number = number; text = content_in lines (given c.args.text) }) path world t.next s.wrote c.apply_counted.new.wrote s.compiled refl
    (after_apply (given c.args.text) world t.next s.named.items h.replicas name path counter number lines refusal after) c.in_ok-refusal-in-Apply.ensures.counted h.kept)) c.told-in-Apply.ensures

pub returns-in_ok-refusal-in-Merge : goal.returns-in_ok-refusal-in-Merge
returns-in_ok-refusal-in-Merge g c = λ world h. if_ok_map c.told-in-Merge.result (λ told e.
    let s = c.args.self.now in
    let name = c.in-Merge.name.now in
    let other = c.in-Merge.other.now in
    let refusal = c.in_ok-refusal-in-Merge.refusal in
    let settles = c.in_ok-refusal-in-Merge.ensures.settles (given c.args.text) world h.replicas h.kept in
    let t = settled_tells (Merge name other) (given c.args.text) world refusal told.items c.merge_counted.new.named.items (prints_merge name other world refusal) e settles in
    let after = after_by (Merge name other) (given c.args.text) world t.next refusal settles.refuses t.after in
    stepped (with_all s c.merge_counted.new.named c.merge_counted.new.wrote c.merge_counted.new.compiled) (command_view c.args.asked.now) (Merge name other) (given c.args.text) world told.items (ap command_view c.in-Merge.is) h.edition h.apart t
    (merge_counted refusal name other (given c.args.text) world t.next s.named.items s.wrote c.merge_counted.new.wrote s.compiled c.merge_counted.new.compiled h.replicas after
    c.in_ok-refusal-in-Merge.ensures.wrote c.in_ok-refusal-in-Merge.ensures.compiled c.in_ok-refusal-in-Merge.ensures.logs h.kept)) c.told-in-Merge.ensures

pub returns-in_ok-settle_counted-in-Settle : goal.returns-in_ok-settle_counted-in-Settle
returns-in_ok-settle_counted-in-Settle g c = λ world h. if_ok_map c.told-in-Settle.result (λ told e.
    let s = c.args.self.now in
    let settles = c.in_ok-settle_counted-in-Settle.ensures.settles (given c.args.text) world h.replicas h.kept in
    let t = settled_tells Settle (given c.args.text) world None told.items c.settle_counted.new.named.items (prints_settle world None) e settles in
    let after = after_by Settle (given c.args.text) world t.next None settles.refuses t.after in
    stepped (with_all s c.settle_counted.new.named c.settle_counted.new.wrote c.settle_counted.new.compiled) (command_view c.args.asked.now) Settle (given c.args.text) world told.items (ap command_view c.in-Settle.is) h.edition h.apart t
    (settle_counted (given c.args.text) world t.next s.named.items (vec_len s.named) s.wrote c.settle_counted.new.wrote s.compiled c.settle_counted.new.compiled h.replicas (omega (arith, s.named.ok.0)) after
    c.in_ok-settle_counted-in-Settle.ensures.wrote c.in_ok-settle_counted-in-Settle.ensures.compiled c.in_ok-settle_counted-in-Settle.ensures.logs h.kept)) c.told-in-Settle.ensures
