use Rattle.std.proofs.Common.{map, sym, subst}
use Rattle.std.specs.Arc.{arc_value}
use Rattle.ws_action.specs.Imported.{AreImportPaths}
use Rattle.ws_action.proofs.ImportPaths.{imports_are, imports_differ}
use Rattle.ws_action.proofs.files.Files.are_imports.Goals as goal

-- what the files keep is what the paths are told of
kept : (c : goal.After-are_paths) → AreImportPaths c.args.self.now (map (λ p. p.items) c.deref.result.now)
kept c =
    subst (λ ps. AreImportPaths c.args.self.now (map (λ p. p.items) ps)) (sym c.deref.ensures.value)
    (subst (λ files. AreImportPaths files (map (λ p. p.items) c.self.inside.paths.items)) c.self.view_is c.self.invariant.1)

pub returns-clause-are : goal.returns-clause-are
returns-clause-are c = imports_are c.are_paths.result c.args.self.now (map arc_value c.args.summaries.now) _ (kept c) c.are_paths.ensures.same

pub returns-clause-other : goal.returns-clause-other
returns-clause-other c = imports_differ c.are_paths.result c.args.self.now (map arc_value c.args.summaries.now) _ (kept c) c.are_paths.ensures.other
