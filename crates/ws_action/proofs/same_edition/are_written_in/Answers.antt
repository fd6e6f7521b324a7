use Rattle.std.proofs.Common.{rules, ◌≡◌, ◌≢◌, ◌<◌, ◌≤◌, length, arith}
use Rattle.std.specs.List.{Contains}
use Rattle.std.proofs.lemmas.List.Elements.{All-contains}
use Rattle.go_ast.specs.Parse.{Parsed}
use Rattle.ws_action.proofs.Walks.{one_more, of_all}
use Rattle.ws_action.proofs.same_edition.are_written_in.Goals as goal

pub returns-then-ne-clause-other : goal.returns-then-ne-clause-other
returns-then-ne-clause-other c = λ all.
    let among : Contains c.args.files.now c.file-item.result = search rules in
    let other : c.file-item.result.edition ≢ c.args.edition = search rules in
    other (All-contains (λ (file : Parsed). file.edition ≡ c.args.edition) c.args.files.now c.file-item.result all among)

pub loop-file-preserved : goal.loop-file-preserved
loop-file-preserved c =
    let within : c.loop-file.file-index < length c.args.files.now = omega arith in
    let here : c.file-item.result.edition ≡ c.args.edition = search rules in
    one_more (λ (file : Parsed). file.edition ≡ c.args.edition) c.args.files.now c.loop-file.file-index c.file-item.result within c.file-item.is c.loop-file.invariant here

pub returns-clause-are : goal.returns-clause-are
returns-clause-are c =
    let over : length c.args.files.now ≤ c.loop-file.file-index = omega arith in
    of_all (λ (file : Parsed). file.edition ≡ c.args.edition) c.args.files.now c.loop-file.file-index over c.loop-file.invariant
