use Rattle.std.proofs.Common.{refl, subst}
use Rattle.go_ast.specs.Views.{function_of}
use Rattle.go_typed.specs.Views.{as_function as typed_function}
use Rattle.go_stmt.specs.Scopes.{Context}
use Rattle.go_stmt.specs.Functions.{function_at}
use Rattle.go_stmt.specs.Views.{Answered}
use Rattle.go_objects.specs.Packages.{package_of}
use Rattle.go_package.specs.Views.{facts_of}
use Rattle.go_package.proofs.Contexts.{context_same}
use Rattle.go_package.proofs.functions.check_inside.Goals as goal

pub returns : goal.returns
returns c =
    let p = c.package-package.result.now in
    let same = context_same (facts_of c.args.facts.now) (package_of p) c.imports_at-imports.result.now c.known.result.now p.path.now p.edition c.args.file refl refl c.imports_at-imports.ensures c.package-package.ensures c.known.ensures in
    subst (λ (x : Context). Answered typed_function c.check_body.result (function_at x (function_of c.args.function.now))) same c.check_body.ensures
