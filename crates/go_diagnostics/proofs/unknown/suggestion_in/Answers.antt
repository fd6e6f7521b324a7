use Rattle.std.proofs.Common.{◌≡◌, Some, rules, arith, map, option_map}
use Rattle.std.specs.List.{filter}
use Rattle.std.proofs.lemmas.Grind.{common_steps}
use Rattle.std.proofs.lemmas.Result.{IfOk-weaker}
use Rattle.go_diagnostics.specs.Unknown.{is_exported_name, selected_name}
use Rattle.go_diagnostics.proofs.Suggestions.{of_import}
use Rattle.go_diagnostics.proofs.unknown.suggestion_in.Goals as goal

pub returns-in_ok-exported-in-Some : goal.returns-in_ok-exported-in-Some
returns-in_ok-exported-in-Some c =
    let is : Some (c.in-Some.path.now, c.in-Some.rest.now) ≡ selected_name (map (λ name. name.now) c.args.known.now) c.args.text.now c.args.tokens.now c.args.from.now =
    first_of (search rules, cc) in
    let exports : map (λ name. name.now) c.deref-in-Some.result.now ≡ filter is_exported_name (map (λ name. name.now) c.in_ok-declared-in-Some.declared.items) =
    first_of (search rules, grind (arith, common_steps)) in
    IfOk-weaker c.suggestion_among.result _ _ (λ found among. of_import c.args.files.now (map (λ name. name.now) c.args.known.now) (map (λ name. name.now) c.in_ok-declared-in-Some.declared.items)
    (map (λ name. name.now) c.deref-in-Some.result.now) c.args.text.now c.args.from.now c.in-Some.rest.now c.in-Some.path.now _
    (option_map (λ pair. (pair.unknown.now, pair.nearest.now)) found) is c.in_ok-declared-in-Some.ensures exports among) c.suggestion_among.ensures
