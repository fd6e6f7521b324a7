use Rattle.std.proofs.lemmas.Result.{err_from_is_err_and}
use Rattle.go_package.specs.Views.{facts_of}
use Rattle.go_package.proofs.Several.{main_here, main_later}
use Rattle.go_package.proofs.check.check_main.Goals as goal

pub returns-in_err-check_all_reserved : goal.returns-in_err-check_all_reserved
returns-in_err-check_all_reserved c =
    let p = err_from_is_err_and c.from_residual.result c.from_residual.ensures.1 in
    let fails = rw c.text.ensures at c.in_err-check_all_reserved.ensures in
    rw (p.1, p.2) (main_here (facts_of c.args.facts.now) c.args.files.now c.in-Some.first.now _ c.in-Some.ensures.value fails)

pub returns : goal.returns
returns c =
    let none = rw c.text.ensures at c.in_ok-check_all_reserved.ensures in
    main_later (facts_of c.args.facts.now) c.args.files.now c.in-Some.first.now c.check_has_main.result c.in-Some.ensures.value none c.check_has_main.ensures
