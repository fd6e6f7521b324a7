use Rattle.std.proofs.Common.{◌≡◌, [], ◌∷◌, ◌++◌, ap, ◌∙◌, rules}
use Rattle.std.specs.Vec.Iter.{into_iter_items}
use Rattle.ws_version.specs.Writes.{Held}
use Rattle.ws_run.specs.Files.{write_of, writes_of}
use Rattle.ws_run.proofs.Writing.{written_next}
use Rattle.ws_run.proofs.run.written.Goals as goal

pub loop-path-preserved : goal.loop-path-preserved
loop-path-preserved c =
    let before = c.loop-path.invariant in
    let left : into_iter_items c.loop-path.path-iterator ≡ (c.in-Some.path, c.in-Some.text) ∷ into_iter_items c.next.new.self = search rules in
    let write : c.new-in-loop-path.result ≡ write_of (c.in-Some.path, c.in-Some.text) = c.new-in-loop-path.ensures ∙ ap (λ (held : Held). (c.in-Some.path, held)) c.new.ensures in (
      before.0 ++ c.new-in-loop-path.result ∷ [],
      c.in_ok-apply.ensures.stands before.0 [] before.1,
      written_next before.0 c.new-in-loop-path.result (c.in-Some.path, c.in-Some.text) (into_iter_items c.loop-path.path-iterator) (into_iter_items c.next.new.self) (writes_of c.args.files.items) left write before.2,
    )
