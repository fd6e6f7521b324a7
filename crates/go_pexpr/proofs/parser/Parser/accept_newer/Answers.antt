use Rattle.std.proofs.Common.{sym}
use Rattle.go_pexpr.specs.Reads.{left}
use Rattle.go_pexpr.proofs.Reading.{then_reads}
use Rattle.go_pexpr.proofs.Steps.{newer_old, newer_new}
use Rattle.go_pexpr.proofs.parser.Parser.accept_newer.Goals as goal

pub returns-then-not-has_slices-clause-reads : goal.returns-then-not-has_slices-clause-reads
returns-then-not-has_slices-clause-reads c = λ x some none refusing.
    record { by = newer_old c.args.self.now.edition c.args.kind 0 x some none (left c.args.self.now) (sym c.if-not-has_slices.ensures) refusing }

pub returns-clause-reads : goal.returns-clause-reads
returns-clause-reads c = λ x some none refusing.
    then_reads c.accept.result (newer_new c.args.self.now.edition c.args.kind 0 x some none (left c.args.self.now) (sym c.if-not-has_slices.ensures)) (c.accept.ensures.reads some none)
