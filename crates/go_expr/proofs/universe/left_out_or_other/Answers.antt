use Rattle.std.proofs.Common.{◌≡◌, ℕ, ◌++◌, true, false, Some, None, List, [], map, refl, sym, ap, ◌∙◌, subst}
use Rattle.std.specs.Prelude.{bytes_eq, cond}
use Rattle.std.specs.List.{list_any}
use Rattle.std.specs.Map.{lookup}
use Rattle.go_text.specs.declared.fault.FaultKind.TheVariants.{Undeclared, LeftOut}
use Rattle.go_expr.specs.Known.{Known, Verdict, Breaks, left_out, slice_functions, others}
use Rattle.go_expr.specs.Views.{known_of, AnswersAt}
use Rattle.go_expr.proofs.Lookups.{found_among, found_first_or, found_later_or}
use Rattle.go_expr.proofs.universe.left_out_or_other.Goals as goal

abbrev left : List (List ℕ × Verdict Known)
left = map (λ x. (x, Breaks LeftOut)) left_out

pub returns-then-is_left_out : goal.returns-then-is_left_out
returns-then-is_left_out c =
    let x = c.args.name.now in
    let among : list_any (bytes_eq x) left_out ≡ true = cc in
    let here : lookup (bytes_eq x) left ≡ Some (Breaks LeftOut) = found_among (bytes_eq x) (Breaks LeftOut) left_out ∙ ap (λ b. cond b (Some (Breaks LeftOut)) None) among in
    rw (found_first_or (bytes_eq x) left (slice_functions c.args.edition ++ others) (Breaks LeftOut) (Breaks Undeclared) here) ([], refl)

pub returns : goal.returns
returns c =
    let x = c.args.name.now in
    let among : list_any (bytes_eq x) left_out ≡ false = cc in
    let none : lookup (bytes_eq x) left ≡ None = found_among (bytes_eq x) (Breaks LeftOut) left_out ∙ ap (λ b. cond b (Some (Breaks LeftOut)) None) among in
    subst (λ (v : Verdict Known). AnswersAt known_of c.slice_function_or_other.result c.args.place v)
    (sym (found_later_or (bytes_eq x) left (slice_functions c.args.edition ++ others) (Breaks Undeclared) none)) c.slice_function_or_other.ensures
