use Rattle.std.proofs.Common.{rules, ◌≡◌, ◌<◌, ◌+◌, false, Decides, length, get_or, drop, map}
use Rattle.go_types.specs.Texts.{IsWritable}
use Rattle.go_types.specs.Views.{go_type}
use Rattle.go_export.proofs.Shown.{refused, one_less, mapped}
use Rattle.go_export.proofs.written.are_writable.Goals as goal

pub returns-then-not-is_writable : goal.returns-then-not-is_writable
returns-then-not-is_writable c =
    let types = c.args.types.now in
    let i = c.loop-of.of-index in
    let of = c.of-item.result in
    let within : i < length types = search rules in
    let at : of ≡ get_or types i of = search rules in
    let tells : Decides c.is_writable.result (IsWritable (go_type of)) = search rules in
    let no : c.is_writable.result ≡ false = search rules in
    refused IsWritable (map go_type types) (map go_type (drop i types)) (map go_type (drop (i + 1) types)) (go_type of) (mapped go_type types i of within at) c.is_writable.result tells no c.loop-of.invariant

pub loop-of-preserved : goal.loop-of-preserved
loop-of-preserved c =
    let types = c.args.types.now in
    let i = c.loop-of.of-index in
    let of = c.of-item.result in
    let within : i < length types = search rules in
    let at : of ≡ get_or types i of = search rules in
    let here : IsWritable (go_type of) = search rules in
    one_less IsWritable (map go_type types) (map go_type (drop i types)) (map go_type (drop (i + 1) types)) (go_type of) (mapped go_type types i of within at) here c.loop-of.invariant
