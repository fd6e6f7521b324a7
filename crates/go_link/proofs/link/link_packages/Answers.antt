use Rattle.std.proofs.Common.{◌∙◌, sym, map}
use Rattle.std.specs.Arc.{arc_value}
use Rattle.go_link.proofs.Linked.{allowed_by}
use Rattle.go_link.proofs.link.link_packages.Goals as goal

pub returns-clause-allowed : goal.returns-clause-allowed
returns-clause-allowed c =
    allowed_by (map arc_value c.args.packages.now) c.in_ok-names.names c.in_ok-places.places (sym c.has_main.ensures ∙ c.if-not-has_main.false) c.in_ok-names.ensures c.in_ok-places.ensures (sym c.name_missing.ensures ∙ c.if-name_missing.false) (sym c.editions_differ.ensures ∙ c.if-editions_differ.false)
