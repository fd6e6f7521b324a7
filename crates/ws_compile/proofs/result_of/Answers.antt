use Rattle.std.proofs.Common.{map}
use Rattle.std.specs.Arc.{arc_value}
use Rattle.go_typed.specs.Views.{typed_of}
use Rattle.go_check.specs.Names.{importable_by}
use Rattle.ws_cache.specs.Compiles.{IsResult, compiled_of}
use Rattle.ws_compile.specs.Ordered.{CompilesTo}
use Rattle.ws_compile.proofs.Results.{if_ok_map, typed_result}
use Rattle.ws_compile.proofs.result_of.Goals as goal

pub returns-in-Ok-clause-ok : goal.returns-in-Ok-clause-ok
returns-in-Ok-clause-ok c =
    let imports = map importable_by (map arc_value c.args.imports.now) in
    let typed = typed_of c.in-Ok.typed in
    if_ok_map c.ordered.result (λ outcome. CompilesTo typed (compiled_of outcome)) (λ outcome. IsResult c.args.path.now c.args.files.now imports (compiled_of outcome))
    (λ outcome h. typed_result c.args.path.now c.args.files.now imports typed c.in-Ok.ensures.typed (compiled_of outcome) h) c.ordered.ensures.ok

pub returns-in-Ok-clause-unshown : goal.returns-in-Ok-clause-unshown
returns-in-Ok-clause-unshown c = λ e. (
    let none = c.ordered.ensures.unshown e in
    (typed_of c.in-Ok.typed, record { are = c.in-Ok.ensures.typed; ordered = none.0 }, none.1))
