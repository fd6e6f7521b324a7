use Rattle.std.proofs.Common.{rules, arith, ◌≡◌, ◌<◌, ◌≤◌, ◌+◌, ◌*◌, max, ap, List, length, get_or}
use denote.Param.Weighed.{most, at_most}
use Rattle.go_types.specs.declared.types.Field.{Field}
use Rattle.go_types.specs.declared.types.Element.TheDeep.{deep-GoType, size-Field}
use Rattle.go_types.specs.Views.{fields_in}
use Rattle.go_types.specs.Sizes.{nodes_of}
use Rattle.go_types.proofs.Dropped.{most_left, size_left}
use Rattle.go_types.proofs.+dropping.Goals as goal

pub types::GoType::drop-drop-list-requires : goal.types::GoType::drop-drop-list-requires
types::GoType::drop-drop-list-requires t c κs =
    let xs : List Field = c.in-Some-into_inner.field-0.list.items in
    let same : fields_in xs ≡ c.in-Struct.fields.value = search rules in
    let whole : deep-GoType c.loop-self.self ≡ max (nodes_of c.in-Struct.fields.value + 1) 0 = ap deep-GoType c.in-Struct.is in
    let within : deep-GoType c.loop-self.self ≤ deep-GoType c.args.self = c.loop-self.invariant in
    let all : 3 * deep-GoType c.args.self + 1 ≡ t = c.decreases in
    let small : most size-Field xs < t = omega (arith, size_left xs, ap nodes_of same, whole, within, all) in
    search (rules, small)

pub types::GoType::drop-drop-list-requires-in-Struct : goal.types::GoType::drop-drop-list-requires-in-Struct
types::GoType::drop-drop-list-requires-in-Struct t c κs =
    let xs : List Field = c.in-Some-into_inner.field-0.list.items in
    let same : fields_in xs ≡ c.in-Struct.fields.value = search rules in
    let whole : deep-GoType c.loop-self.self ≡ max (nodes_of c.in-Struct.fields.value + 1) 0 = ap deep-GoType c.in-Struct.is in
    let within : deep-GoType c.loop-self.self ≤ deep-GoType c.args.self = c.loop-self.invariant in
    let all : 3 * deep-GoType c.args.self + 1 ≡ t = c.decreases in
    let d : Field = c.swap_remove-of.result in
    let there : c.widest-at.result < length xs = search rules in
    let value : size-Field d ≡ size-Field (get_or xs c.widest-at.result d) = ap size-Field c.swap_remove-of.ensures.value in
    let one : size-Field d ≤ most size-Field xs = omega (arith, value, at_most size-Field xs c.widest-at.result d there) in
    let rest = ap (most size-Field) c.swap_remove-of.ensures.items in
    let small : most size-Field c.swap_remove-of.new.self.items < t =
    omega (arith, rest, most_left size-Field xs c.widest-at.result d one, size_left xs, ap nodes_of same, whole, within, all) in
    search (rules, small)

pub types::GoType::drop-loop-self-smaller-in-Struct-1 : goal.types::GoType::drop-loop-self-smaller-in-Struct-1
types::GoType::drop-loop-self-smaller-in-Struct-1 t c =
    let xs : List Field = c.in-Some-into_inner.field-0.list.items in
    let same : fields_in xs ≡ c.in-Struct.fields.value = search rules in
    let whole : deep-GoType c.loop-self.self ≡ max (nodes_of c.in-Struct.fields.value + 1) 0 = ap deep-GoType c.in-Struct.is in
    let within : deep-GoType c.loop-self.self ≤ deep-GoType c.args.self = c.loop-self.invariant in
    let d : Field = c.swap_remove-of.result in
    let there : c.widest-at.result < length xs = search rules in
    let value : size-Field d ≡ size-Field (get_or xs c.widest-at.result d) = ap size-Field c.swap_remove-of.ensures.value in
    let one : size-Field d ≤ most size-Field xs = omega (arith, value, at_most size-Field xs c.widest-at.result d there) in
    let less : deep-GoType d.of < deep-GoType c.loop-self.self = omega (arith, one, size_left xs, ap nodes_of same, whole) in
    less

pub types::GoType::drop-loop-self-preserved-in-Struct-1 : goal.types::GoType::drop-loop-self-preserved-in-Struct-1
types::GoType::drop-loop-self-preserved-in-Struct-1 t c =
    let xs : List Field = c.in-Some-into_inner.field-0.list.items in
    let same : fields_in xs ≡ c.in-Struct.fields.value = search rules in
    let whole : deep-GoType c.loop-self.self ≡ max (nodes_of c.in-Struct.fields.value + 1) 0 = ap deep-GoType c.in-Struct.is in
    let within : deep-GoType c.loop-self.self ≤ deep-GoType c.args.self = c.loop-self.invariant in
    let d : Field = c.swap_remove-of.result in
    let there : c.widest-at.result < length xs = search rules in
    let value : size-Field d ≡ size-Field (get_or xs c.widest-at.result d) = ap size-Field c.swap_remove-of.ensures.value in
    let one : size-Field d ≤ most size-Field xs = omega (arith, value, at_most size-Field xs c.widest-at.result d there) in
    let less : deep-GoType d.of ≤ deep-GoType c.args.self = omega (arith, one, size_left xs, ap nodes_of same, whole, within) in
    less
