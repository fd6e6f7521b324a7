use Rattle.std.proofs.Common.{ap, ◌∙◌}
use Rattle.std.specs.List.{filter}
use Rattle.ws_graph.specs.Packages.{is_built}
use Rattle.ws_graph.proofs.packages.package_files.Goals as goal

pub returns-clause-exact : goal.returns-clause-exact
returns-clause-exact c = c.keep_built.ensures ∙ ap (filter (λ file. is_built file.0)) c.in_ok-files.ensures.ok

pub returns-clause-stands : goal.returns-clause-stands
returns-clause-stands c W h =
    let found = c.in_ok-files.ensures.stands W h in
    (found.0, found.1, c.keep_built.ensures ∙ ap (filter (λ file. is_built file.0)) found.2)
