use Rattle.std.proofs.Common.{take}
use Rattle.ws_board.specs.Rows.{Adds}
use Rattle.ws_board.proofs.rows.add_importer.Given as goal

abbrev pub invariant-loop-import : goal.invariant-loop-import
invariant-loop-import l = Adds l.fn.importers.items l.importers.items (take l.import-index l.imports) l.job
