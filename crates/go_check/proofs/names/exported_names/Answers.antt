use Rattle.std.proofs.Common.{rules, ◌≡◌, ◌∷◌, ◌++◌, map, string_bytes, sym, ap, subst, ◌∙◌}
use Rattle.std.specs.List.Sorted.{IsStrictlySortedBy}
use Rattle.std.specs.Map.{keys_of}
use Rattle.go_expr.specs.Views.{declared_of}
use Rattle.go_export.specs.Views.{all_exports, export_of}
use Rattle.go_check.specs.Names.{export_declares, names_by, summary_names}
use Rattle.go_check.proofs.Found.{name_cmp, entry_of, ordered, keys_named, one_more}
use Rattle.go_check.proofs.names.exported_names.Goals as goal

pub loop-name-init : goal.loop-name-init
loop-name-init c =
    let summary = c.args.summary.now in
    let gives = c.into_iter-name-iterator.ensures.into_iter_gives in
    let exports = c.exports-name-items.result.now.entries in
    record {
      whole = ap (λ es. map entry_of es ++ names_by summary.path (all_exports c.into_iter-name-iterator.result)) c.new-names.ensures.empty
          ∙ ap (names_by summary.path) (ap all_exports gives.0 ∙ c.exports-name-items.ensures);
      ascends = subst (IsStrictlySortedBy name_cmp) (ap keys_of c.exports-name-items.ensures ∙ sym (keys_named summary.path summary.exports)) (ordered exports gives.5);
    }

pub loop-name-preserved : goal.loop-name-preserved
loop-name-preserved c =
    let summary = c.args.summary.now in
    let before = c.loop-name.invariant in
    let name = string_bytes c.in-Some.name.now in
    let export = export_of c.in-Some.export.now in
    let left : all_exports c.loop-name.name-iterator ≡ (name, export) ∷ all_exports c.next.new.self = search rules in
    let text : string_bytes c.in_ok-clone.field-0 ≡ name = search rules in
    let declares : declared_of c.in_ok-declared.declared ≡ export_declares summary.path name export = search rules in
    record {
      whole = one_more c.loop-name.names c.insert.new.self.entries c.in_ok-clone.field-0 c.in_ok-declared.declared summary.path name export
          (all_exports c.loop-name.name-iterator) (all_exports c.next.new.self) (summary_names summary) before.ascends before.whole left text declares c.in_ok-insert.ensures.entries;
      ascends = before.ascends;
    }
