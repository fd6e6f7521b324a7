use Rattle.std.proofs.Common.{◌≡◌, Some, None, length, map, refl, sym, ap, ◌∙◌}
use Rattle.std.specs.Prelude.{position}
use Rattle.std.specs.List.{slice_get}
use Rattle.std.specs.Option.{option_map}
use Rattle.std.specs.Str.{bytes_eq}
use Rattle.std.proofs.lemmas.Option.{slice_get-map, slice_get_past, slice_get_read}
use Rattle.go_package.specs.Imports.{importable_paths}
use Rattle.go_package.specs.Views.{importable_view}
use Rattle.go_package.proofs.ByPath.{none_at, one_at}
use Rattle.go_package.proofs.import.package_by.Goals as goal

pub returns-in_default : goal.returns-in_default
returns-in_default c =
    let path = c.args.path.now in
    let ps = map importable_view c.args.packages.now in
    let none : position (bytes_eq path) (importable_paths ps) ≡ None = ap (position (bytes_eq path)) (sym c.requires) ∙ sym c.get.ensures ∙ c.in_default.is in
    sym (none_at path ps none)

pub returns-in-Some-get : goal.returns-in-Some-get
returns-in-Some-get c =
    let path = c.args.path.now in
    let packages = c.args.packages.now in
    let ps = map importable_view packages in
    let n = c.in-Some.number in
    let is : position (bytes_eq path) (importable_paths ps) ≡ Some n = ap (position (bytes_eq path)) (sym c.requires) ∙ sym c.get.ensures ∙ c.in-Some.is in
    let p = c.in-Some-get.package.now in
    let at : slice_get packages n ≡ Some p = slice_get_read packages (length packages) n p refl c.in-Some-get.ensures.lookup.3.0 c.in-Some-get.ensures.lookup.1 in
    sym (one_at path ps n is ∙ slice_get-map importable_view packages n ∙ ap (option_map importable_view) at)

pub returns-in-None : goal.returns-in-None
returns-in-None c =
    let path = c.args.path.now in
    let packages = c.args.packages.now in
    let ps = map importable_view packages in
    let n = c.in-Some.number in
    let is : position (bytes_eq path) (importable_paths ps) ≡ Some n = ap (position (bytes_eq path)) (sym c.requires) ∙ sym c.get.ensures ∙ c.in-Some.is in
    let past : slice_get packages n ≡ None = slice_get_past packages n c.in-None.ensures.lookup.3 in
    sym (one_at path ps n is ∙ slice_get-map importable_view packages n ∙ ap (option_map importable_view) past)
