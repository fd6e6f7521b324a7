use Rattle.std.proofs.Common.{rules, ◌≡◌, ◌∷◌, false, Decides}
use Rattle.std.specs.Map.{values_of}
use Rattle.go_export.specs.Views.{all_exports, export_of}
use Rattle.go_export.specs.Writable.{IsShown, HasSmall}
use Rattle.go_export.proofs.Shown.{refused, one_more, one_less}
use Rattle.go_export.proofs.written.are_shown.Goals as goal

pub returns-then-not-is_shown-clause-shown : goal.returns-then-not-is_shown-clause-shown
returns-then-not-is_shown-clause-shown c =
    let all = values_of (all_exports c.args.exports.now.entries) in
    let left = values_of (all_exports c.loop-export.export-iterator) in
    let rest = values_of (all_exports c.next.new.self) in
    let export = export_of c.in-Some.export.now in
    let is : left ≡ export ∷ rest = search rules in
    let tells : Decides c.is_shown.result (IsShown export) = search rules in
    let no : c.is_shown.result ≡ false = search rules in
    refused IsShown all left rest export is c.is_shown.result tells no c.loop-export.invariant.0

pub loop-export-preserved : goal.loop-export-preserved
loop-export-preserved c =
    let all = values_of (all_exports c.args.exports.now.entries) in
    let left = values_of (all_exports c.loop-export.export-iterator) in
    let rest = values_of (all_exports c.next.new.self) in
    let export = export_of c.in-Some.export.now in
    let is : left ≡ export ∷ rest = search rules in
    let here : IsShown export = search rules in
    let small : HasSmall export = search rules in
    (one_less IsShown all left rest export is here c.loop-export.invariant.0, λ h. c.loop-export.invariant.1 (one_more HasSmall all left rest export is small h))
