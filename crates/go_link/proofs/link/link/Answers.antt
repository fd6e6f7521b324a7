use Rattle.std.proofs.Common.{ap, ◌∙◌, map}
use Rattle.std.specs.Arc.{arc_value}
use Rattle.go_link.specs.Links.{objects_in_order}
use Rattle.go_link.proofs.Linked.{linked_as, refused_as}
use Rattle.go_link.proofs.link.link.Goals as goal

pub returns-clause-linked : goal.returns-clause-linked
returns-clause-linked c =
    linked_as c.link_packages.result (map arc_value c.deref.result.now) (objects_in_order (map arc_value c.args.objects.now) c.args.order.now)
    (ap (map arc_value) c.deref.ensures.value ∙ c.in_ok-packages.ensures) c.link_packages.ensures.linked c.link_packages.ensures.allowed

pub returns-clause-refused : goal.returns-clause-refused
returns-clause-refused c =
    refused_as c.link_packages.result (map arc_value c.deref.result.now) (objects_in_order (map arc_value c.args.objects.now) c.args.order.now)
    (ap (map arc_value) c.deref.ensures.value ∙ c.in_ok-packages.ensures) c.link_packages.ensures.refused
