use Rattle.std.proofs.Common.{Ok, refl}
use Rattle.std.specs.Prelude.{string_bytes}
use Rattle.goset_cli.proofs.AnswersOfFiles.{comes_of}
use Rattle.goset_cli.proofs.run.run_workspace.Goals as goal

pub returns-clause-comes : goal.returns-clause-comes
returns-clause-comes g c =
    comes_of c.args.edition c.args.workspace.files.items (string_bytes c.args.workspace.directory) c.as_str.result.now c.args.ticks c.in_ok-answer.answer
    (Ok c.in_ok-answer.answer) c.as_str.ensures.value refl c.in_ok-answer.ensures.means c.in_ok-answer.ensures.faulty
    c.in_ok-answer.ensures.no_package c.in_ok-answer.ensures.no_main
