use Rattle.std.proofs.Common.{◌∙◌, ◌++◌, ap}
use Rattle.go_packed.specs.Reading.{unpacked_object}
use Rattle.go_packed.specs.Spelling.{object_tokens}
use Rattle.go_packed.proofs.Back.{object_back}
use Rattle.go_packed.proofs.Whole.{same_parts}
use Rattle.go_packed.proofs.packed.Packed.of.Goals as goal

pub returns : goal.returns
returns c =
    ap unpacked_object (
    same_parts (c.in_ok-names.ensures ∙ c.all.ensures) c.shrink_to_fit-2.ensures.items c.shrink_to_fit-3.ensures.items c.shrink_to_fit-4.ensures.items c.shrink_to_fit-5.ensures.items
    c.shrink_to_fit.ensures.items
    ∙ c.sink.view_is ∙ c.in_ok-put_object.ensures ∙ ap (λ l. l ++ object_tokens c.args.object.now) c.new-sink.ensures)
    ∙ object_back c.args.object.now
