use Rattle.std.proofs.Common.{◌≡◌, Some, None, [], refl, sym, ap, ◌∙◌}
use Rattle.std.specs.Prelude.{bytes_eq}
use Rattle.std.specs.Map.{lookup}
use Rattle.std.specs.Option.{option_map}
use Rattle.go_text.specs.declared.edition.Edition.TheVariants.{Two}
use Rattle.go_text.specs.declared.fault.FaultKind.TheVariants.{Undeclared, LeftOut}
use Rattle.go_expr.specs.Known.{Known, Verdict, Fine, Breaks, slice_functions, others}
use Rattle.go_expr.specs.Views.{known_of}
use Rattle.go_expr.proofs.Lookups.{found_first_or, found_later_or}
use Rattle.go_expr.proofs.SliceFunctions.{with_slices, without_slices, no_function}
use Rattle.go_expr.proofs.universe.slice_function_or_other.Goals as goal

pub returns-then-not-has_slices : goal.returns-then-not-has_slices
returns-then-not-has_slices c =
    let x = c.args.name.now in
    let e = c.args.edition in
    let newer : lookup (bytes_eq x) (slice_functions Two) ≡ Some (Fine (known_of c.in-Some.known)) = sym c.slice_function.ensures ∙ ap (option_map (λ k. Fine (known_of k))) c.in-Some.is in
    let here : lookup (bytes_eq x) (slice_functions e) ≡ Some (Breaks LeftOut) =
    without_slices e (bytes_eq x) (sym c.if-not-has_slices.ensures) ∙ ap (option_map (λ (v : Verdict Known). Breaks LeftOut)) newer in
    rw (found_first_or (bytes_eq x) (slice_functions e) others (Breaks LeftOut) (Breaks Undeclared) here) ([], refl)

pub returns-in-Some : goal.returns-in-Some
returns-in-Some c =
    let x = c.args.name.now in
    let e = c.args.edition in
    let here : lookup (bytes_eq x) (slice_functions e) ≡ Some (Fine (known_of c.in-Some.known)) =
    ap (lookup (bytes_eq x)) (with_slices e (sym c.if-not-has_slices.ensures)) ∙ sym c.slice_function.ensures ∙ ap (option_map (λ k. Fine (known_of k))) c.in-Some.is in
    rw (found_first_or (bytes_eq x) (slice_functions e) others (Fine (known_of c.in-Some.known)) (Breaks Undeclared) here) (refl, refl)

pub returns-in-Some-other_named : goal.returns-in-Some-other_named
returns-in-Some-other_named c =
    let x = c.args.name.now in
    let e = c.args.edition in
    let none = no_function e (bytes_eq x) (sym c.slice_function.ensures ∙ ap (option_map (λ k. Fine (known_of k))) c.in_default.is) in
    let here : lookup (bytes_eq x) others ≡ Some (Fine (known_of c.in-Some-other_named.known)) = sym c.other_named.ensures ∙ ap (option_map (λ k. Fine (known_of k))) c.in-Some-other_named.is in
    rw (found_later_or (bytes_eq x) (slice_functions e) others (Breaks Undeclared) none, here) (refl, refl)

pub returns-in-None : goal.returns-in-None
returns-in-None c =
    let x = c.args.name.now in
    let e = c.args.edition in
    let none = no_function e (bytes_eq x) (sym c.slice_function.ensures ∙ ap (option_map (λ k. Fine (known_of k))) c.in_default.is) in
    let nothing : lookup (bytes_eq x) others ≡ None = sym c.other_named.ensures ∙ ap (option_map (λ k. Fine (known_of k))) c.in-None.is in
    rw (found_later_or (bytes_eq x) (slice_functions e) others (Breaks Undeclared) none, nothing) ([], refl)
