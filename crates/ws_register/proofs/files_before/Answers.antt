use Rattle.std.proofs.Common.{◌++◌, sym, ap, subst, ◌∙◌, map, append-nil, List, ℕ}
use Rattle.std.specs.Option.{option_map}
use Rattle.ws_version.specs.Writes.{Held, path_cmp}
use Rattle.ws_register.specs.Pages.{Ascends}
use Rattle.ws_register.proofs.Order.{sorted-rest}
use Rattle.ws_register.specs.Between.{is_past}
use Rattle.ws_register.specs.Sources.{file_in, files_in, texts_of, pair_of}
use Rattle.ws_register.proofs.Ends.{files_ended}
use Rattle.ws_register.proofs.Files.{one_more_file}
use Rattle.ws_register.proofs.files_before.Goals as goal

pub returns-then-is_past : goal.returns-then-is_past
returns-then-is_past c =
    sym (append-nil (map pair_of c.writes.files.items))
    ∙ ap (λ l. map pair_of c.writes.files.items ++ l) (sym (files_ended c.args.directory.now c.args.end.now c.writes.left c.next.new.self c.in-Some.write.now c.in-Some.ensures c.writes.invariant.1
    (ap (is_past c.args.end.now) (sym c.path.ensures) ∙ sym c.is_past.ensures ∙ c.if-is_past.true) c.requires.before))
    ∙ c.writes.invariant.0

pub writes-preserved-in-Continue-branch-3 : goal.writes-preserved-in-Continue-branch-3
writes-preserved-in-Continue-branch-3 c = (
  one_more_file c.args.directory.now c.writes.files.items c.push.new.self.items c.in-Some-2.file
      c.in-Some.write.now c.writes.left c.next.new.self (files_in c.args.directory.now (texts_of c.args.rest))
      c.writes.invariant.0 c.in-Some.ensures
      (ap (option_map pair_of) (sym c.in-Some-2.is) ∙ c.in_ok-file.ensures
      ∙ ap (λ (path : List ℕ). file_in c.args.directory.now (path, c.held.result.now)) c.path-in-Some.ensures
      ∙ ap (λ (held : Held). file_in c.args.directory.now (c.in-Some.write.now.0, held)) c.held.ensures)
      c.in_ok-push.ensures.items,
  sorted-rest path_cmp c.in-Some.write.now c.next.new.self (subst Ascends c.in-Some.ensures c.writes.invariant.1),
)
