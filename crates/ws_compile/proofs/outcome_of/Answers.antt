use Rattle.std.proofs.Common.{map}
use Rattle.std.specs.Arc.{arc_value}
use Rattle.go_check.specs.Names.{importable_by}
use Rattle.ws_cache.specs.Compiles.{IsResult, Compiles, compiled_of}
use Rattle.ws_compile.proofs.Results.{if_ok_map, compiles, unshown}
use Rattle.ws_compile.proofs.outcome_of.Goals as goal

pub returns-clause-ok : goal.returns-clause-ok
returns-clause-ok c =
    let action = c.args.action.now in
    let path = c.path.result.now in
    let files = c.files.result.now in
    let summaries = map arc_value c.imports.result.now in
    if_ok_map c.result_of.result (λ outcome. IsResult path files (map importable_by summaries) (compiled_of outcome)) (λ outcome. Compiles action (compiled_of outcome))
    (λ outcome h. compiles action path files summaries (compiled_of outcome) c.path.ensures c.files.ensures.value c.imports.ensures.value c.imports.ensures.written (record { of_files = c.files.ensures.edition; of_summaries = c.imports.ensures.edition }) h) c.result_of.ensures.ok

pub returns-clause-unshown : goal.returns-clause-unshown
returns-clause-unshown c = λ e.
    unshown c.args.action.now c.path.result.now c.files.result.now (map arc_value c.imports.result.now) c.path.ensures c.files.ensures.value c.imports.ensures.value c.imports.ensures.written (record { of_files = c.files.ensures.edition; of_summaries = c.imports.ensures.edition }) (c.result_of.ensures.unshown e)
