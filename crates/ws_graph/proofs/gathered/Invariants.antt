use Rattle.std.proofs.Common.{List}
use Rattle.std.specs.List.{AllZip}
use Rattle.go_text.specs.declared.edition.Edition.{Edition}
use Rattle.go_text.specs.Named.{Source}
use Rattle.ws_graph.specs.Discovery.{ParsesTo}
use Rattle.ws_graph.proofs.Reading.{ParsedSoFar}
use Rattle.ws_graph.proofs.gathered.Given as goal

-- what is read of files that come to this, whichever they are
abbrev pub invariant-loop-parsed : goal.invariant-loop-parsed
invariant-loop-parsed l = (ed : Edition) (files : List Source) → AllZip (ParsesTo ed) files l.fn.each.items → ParsedSoFar ed files l.all.items l.parsed-iterator.rest.items
