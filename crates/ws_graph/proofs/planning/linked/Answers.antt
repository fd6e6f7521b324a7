use Rattle.std.proofs.lemmas.List.{nil_from_length}
use Rattle.std.proofs.lemmas.Grind.{common_steps}
use Rattle.std.proofs.Common.{rules, ◌≡◌, ◌+◌, ◌++◌, ◌∷◌, [], length, map, ap, sym, ◌∙◌, subst, arith, append-nil, append_assoc}
use Rattle.std.proofs.lemmas.List.{map_push}
use Rattle.ws_graph.specs.declared.wave.Found.{Found}
use Rattle.ws_graph.specs.Node.{planned_of, directory_of}
use Rattle.ws_graph.specs.Discovery.{string_texts, AreLinks, AreTargetsOf, AreNumbersOf}
use Rattle.ws_graph.proofs.Linked.{AreLinkedFrom, below_founds, zip_length, linked_more, linked_length, length-directories, build_plan}
use Rattle.ws_graph.proofs.planning.linked.Goals as goal

pub linked_at-requires-clause-path : goal.linked_at-requires-clause-path
linked_at-requires-clause-path c =
    let inv = c.loop-found.invariant in
    let rest : c.loop-found.found-iterator.rest.items ≡ c.in-Some.found ∷ c.next.new.self.rest.items = search rules in
    let lt = below_founds (string_texts c.args.paths.now) c.in_ok-links.links c.args.founds.items inv.0 c.next.new.self.rest.items c.in-Some.found c.loop-found.directories.items (inv.1 ∙ ap (λ l. inv.0 ++ l) rest) inv.2 in
    omega (arith, lt, c.requires.length, c.len-here.ensures)

pub linked_at-requires-clause-targets : goal.linked_at-requires-clause-targets
linked_at-requires-clause-targets c =
    let inv = c.loop-found.invariant in
    let rest : c.loop-found.found-iterator.rest.items ≡ c.in-Some.found ∷ c.next.new.self.rest.items = search rules in
    let lt = below_founds (string_texts c.args.paths.now) c.in_ok-links.links c.args.founds.items inv.0 c.next.new.self.rest.items c.in-Some.found c.loop-found.directories.items (inv.1 ∙ ap (λ l. inv.0 ++ l) rest) inv.2 in
    let are : AreLinks (string_texts c.args.paths.now) c.args.founds.items c.in_ok-links.links = subst (λ fs. AreLinks (string_texts c.args.paths.now) fs c.in_ok-links.links) c.as_slice.ensures.value c.in_ok-links.ensures in
    omega (arith, lt, c.len-here.ensures, zip_length (λ (found : Found) ts. AreTargetsOf (string_texts c.args.paths.now) (planned_of found.node) ts.items) c.args.founds.items c.in_ok-links.links.targets.items are.targets)

pub linked_at-requires-clause-rows : goal.linked_at-requires-clause-rows
linked_at-requires-clause-rows c =
    let inv = c.loop-found.invariant in
    let rest : c.loop-found.found-iterator.rest.items ≡ c.in-Some.found ∷ c.next.new.self.rest.items = search rules in
    let lt = below_founds (string_texts c.args.paths.now) c.in_ok-links.links c.args.founds.items inv.0 c.next.new.self.rest.items c.in-Some.found c.loop-found.directories.items (inv.1 ∙ ap (λ l. inv.0 ++ l) rest) inv.2 in
    let are : AreLinks (string_texts c.args.paths.now) c.args.founds.items c.in_ok-links.links = subst (λ fs. AreLinks (string_texts c.args.paths.now) fs c.in_ok-links.links) c.as_slice.ensures.value c.in_ok-links.ensures in
    omega (arith, lt, c.len-here.ensures, zip_length (λ (found : Found) ts. AreTargetsOf (string_texts c.args.paths.now) (planned_of found.node) ts.items) c.args.founds.items c.in_ok-links.links.targets.items are.targets, zip_length AreNumbersOf c.in_ok-links.links.targets.items c.in_ok-links.links.rows.items are.rows)

pub loop-found-preserved : goal.loop-found-preserved
loop-found-preserved c =
    let inv = c.loop-found.invariant in
    let rest : c.loop-found.found-iterator.rest.items ≡ c.in-Some.found ∷ c.next.new.self.rest.items = search rules in
    let d = c.in_ok-linked_at.field-0 in
    let place : c.len-here.result ≡ 0 + length inv.0 =
    omega (arith, c.len-here.ensures, linked_length (string_texts c.args.paths.now) c.in_ok-links.links 0 inv.0 (map directory_of c.loop-found.directories.items) inv.2, length-directories c.loop-found.directories.items) in
    let new : map directory_of c.push.new.self.items ≡ map directory_of c.loop-found.directories.items ++ directory_of d ∷ [] = ap (map directory_of) c.in_ok-push.ensures.items ∙ map_push directory_of c.loop-found.directories.items d in (
      inv.0 ++ c.in-Some.found ∷ [],
      inv.1 ∙ ap (λ l. inv.0 ++ l) rest ∙ sym (append_assoc inv.0 (c.in-Some.found ∷ []) c.next.new.self.rest.items),
      subst (AreLinkedFrom (string_texts c.args.paths.now) c.in_ok-links.links 0 (inv.0 ++ c.in-Some.found ∷ [])) (sym new)
          (linked_more (string_texts c.args.paths.now) c.in_ok-links.links 0 c.len-here.result inv.0 (map directory_of c.loop-found.directories.items) c.in-Some.found (directory_of d) place inv.2 c.in_ok-linked_at.ensures),
    )

pub returns : goal.returns
returns c = λ ed sources targets all.
    let inv = c.loop-found.invariant in
    let none : c.loop-found.found-iterator.rest.items ≡ [] = (let long : length c.loop-found.found-iterator.rest.items ≡ 0 = first_of (omega (arith, c.in-None.ensures.steps.0, c.loop-found.found-iterator.rest.ok), grind (arith, common_steps, c.in-None.ensures.steps.0, c.loop-found.found-iterator.rest.ok), search rules) in nil_from_length c.loop-found.found-iterator.rest.items long) in
    let whole : c.args.founds.items ≡ inv.0 = inv.1 ∙ ap (λ l. inv.0 ++ l) none ∙ append-nil inv.0 in
    let are : AreLinks (string_texts c.args.paths.now) c.args.founds.items c.in_ok-links.links = subst (λ fs. AreLinks (string_texts c.args.paths.now) fs c.in_ok-links.links) c.as_slice.ensures.value c.in_ok-links.ensures in
    build_plan ed sources targets (string_texts c.args.paths.now) c.args.founds.items c.in_ok-links.links all are (map directory_of c.loop-found.directories.items)
    (subst (λ fs. AreLinkedFrom (string_texts c.args.paths.now) c.in_ok-links.links 0 fs (map directory_of c.loop-found.directories.items)) (sym whole) inv.2)
