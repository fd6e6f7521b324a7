use Rattle.std.proofs.Common.{◌≡◌, ◌++◌, rules, arith, map, option_map, string_bytes}
use Rattle.std.proofs.lemmas.Grind.{common_steps}
use Rattle.std.proofs.lemmas.Result.{IfOk-weaker}
use Rattle.go_diagnostics.specs.Unknown.{predeclared}
use Rattle.go_diagnostics.proofs.Suggestions.{of_package}
use Rattle.go_diagnostics.proofs.unknown.suggestion.Goals as goal

pub returns : goal.returns
returns c =
    let same : c.as_bytes.result.now ≡ string_bytes c.args.file.now.directory = first_of (search rules, cc) in
    let knows : map (λ name. name.now) c.deref-2.result.now ≡ predeclared ++ map (λ name. name.now) c.in_ok-declared.declared.items =
    first_of (search rules, grind (arith, common_steps)) in
    IfOk-weaker c.suggestion_in.result _ _ (λ found within. of_package (string_bytes c.args.file.now.directory) c.as_bytes.result.now c.args.files.now
    (map (λ name. name.now) c.in_ok-declared.declared.items) (map (λ name. name.now) c.deref-2.result.now) c.args.file.now.source.text c.bytes.result.now
    c.args.tokens.now c.args.from.now (option_map (λ pair. (pair.unknown.now, pair.nearest.now)) found) same c.bytes.ensures c.in_ok-declared.ensures knows within)
    c.suggestion_in.ensures
