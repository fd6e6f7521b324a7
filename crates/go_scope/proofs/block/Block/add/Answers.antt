use Rattle.go_scope.proofs.Lookups.{added}
use Rattle.go_scope.proofs.block.Block.add.Goals as goal

pub returns-clause-ok : goal.returns-clause-ok
returns-clause-ok g c =
    added c.self.inside.names c.in_ok-name.name c.args.value c.args.name.now c.args.self.now c.insert.new.self.entries c.self.view_is c.in_ok-name.ensures.ok c.requires c.in_ok-insert.ensures.entries
