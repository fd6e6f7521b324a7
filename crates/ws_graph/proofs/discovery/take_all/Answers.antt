use Rattle.std.proofs.lemmas.List.{nil_from_length}
use Rattle.std.proofs.lemmas.Grind.{common_steps}
use Rattle.std.proofs.Common.{rules, ◌≡◌, ◌∷◌, [], length, ap, sym, subst, arith}
use Rattle.ws_graph.specs.Discovery.{held_sources, string_texts, AreRead}
use Rattle.ws_graph.proofs.Walking.{none_taken, one_taken, all_taken}
use Rattle.ws_graph.proofs.discovery.take_all.Goals as goal

pub loop-directory-init : goal.loop-directory-init
loop-directory-init c = record {
  ordered = c.requires;
  takes = λ ed targets wave are w. none_taken ed (held_sources c.args.registers.now) targets wave c.args.met.now.entries (string_texts c.new-imported.result.items) c.into_iter-directory-iterator.result.rest.items (ap string_texts c.new-imported.ensures.items) (subst (AreRead ed (held_sources c.args.registers.now) wave) (sym c.into_iter-directory-iterator.ensures.into_iter_gives.0) are) w;
}

pub loop-directory-preserved : goal.loop-directory-preserved
loop-directory-preserved c =
    let rest : c.loop-directory.directory-iterator.rest.items ≡ c.in-Some.directory ∷ c.next.new.self.rest.items = search rules in
    record {
      ordered = c.in_ok-insert.ensures.ordered;
      takes = λ ed targets wave are w. one_taken ed (held_sources c.args.registers.now) targets wave c.args.met.now.entries c.loop-directory.met.entries c.insert.new.self.entries (string_texts c.loop-directory.imported.items) (string_texts c.add_imported.new.imported.items)
          c.loop-directory.directory-iterator.rest.items c.next.new.self.rest.items c.in-Some.directory c.in_ok-path.path c.in_ok-path.found rest (search rules) c.in_ok-insert.ensures.entries c.in_ok-add_imported.ensures (c.loop-directory.invariant.takes ed targets wave are w);
    }

pub loop-directory-preserved-in_ok-insert : goal.loop-directory-preserved-in_ok-insert
loop-directory-preserved-in_ok-insert c =
    let rest : c.loop-directory.directory-iterator.rest.items ≡ c.in-Some.directory ∷ c.next.new.self.rest.items = search rules in
    record {
      ordered = c.in_ok-insert.ensures.ordered;
      takes = λ ed targets wave are w. one_taken ed (held_sources c.args.registers.now) targets wave c.args.met.now.entries c.loop-directory.met.entries c.insert.new.self.entries (string_texts c.loop-directory.imported.items) (string_texts c.add_imported.new.imported.items)
          c.loop-directory.directory-iterator.rest.items c.next.new.self.rest.items c.in-Some.directory c.in_ok-path.path c.in_ok-path.found rest (search rules) c.in_ok-insert.ensures.entries c.in_ok-add_imported.ensures (c.loop-directory.invariant.takes ed targets wave are w);
    }

pub loop-directory-preserved-in_ok-insert-2 : goal.loop-directory-preserved-in_ok-insert-2
loop-directory-preserved-in_ok-insert-2 c =
    let rest : c.loop-directory.directory-iterator.rest.items ≡ c.in-Some.directory ∷ c.next.new.self.rest.items = search rules in
    record {
      ordered = c.in_ok-insert.ensures.ordered;
      takes = λ ed targets wave are w. one_taken ed (held_sources c.args.registers.now) targets wave c.args.met.now.entries c.loop-directory.met.entries c.insert.new.self.entries (string_texts c.loop-directory.imported.items) (string_texts c.add_imported.new.imported.items)
          c.loop-directory.directory-iterator.rest.items c.next.new.self.rest.items c.in-Some.directory c.in_ok-path.path c.in_ok-path.found rest (search rules) c.in_ok-insert.ensures.entries c.in_ok-add_imported.ensures (c.loop-directory.invariant.takes ed targets wave are w);
    }

pub returns-clause-ordered : goal.returns-clause-ordered
returns-clause-ordered c = c.loop-directory.invariant.ordered

pub returns-clause-takes : goal.returns-clause-takes
returns-clause-takes c = λ ed targets wave are w.
    let rest = c.loop-directory.directory-iterator.rest.items in
    let none : rest ≡ [] = (let long : length rest ≡ 0 = first_of (omega (arith, c.in-None.ensures.steps.0, c.loop-directory.directory-iterator.rest.ok), grind (arith, common_steps, c.in-None.ensures.steps.0, c.loop-directory.directory-iterator.rest.ok), search rules) in nil_from_length rest long) in
    all_taken ed (held_sources c.args.registers.now) targets wave c.args.met.now.entries c.loop-directory.met.entries (string_texts c.loop-directory.imported.items) rest none (c.loop-directory.invariant.takes ed targets wave are w)
