use Rattle.std.proofs.Common.{rules, ap, ◌∙◌, map}
use Rattle.std.proofs.lemmas.Fn.{filter_same}
use Rattle.ws_register.specs.Sources.{pair_of}
use Rattle.ws_graph.specs.Packages.{is_built}
use Rattle.ws_graph.proofs.Built.{map-filter}
use Rattle.ws_graph.proofs.packages.keep_built.Goals as goal

pub returns : goal.returns
returns c = ap (map pair_of) (filter_same _ (λ s. is_built s.name) _ (λ x b f' k. search rules) _ _ c.retain.ensures.filtered) ∙ map-filter c.args.files.now.items
