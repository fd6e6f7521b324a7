-- What compiling files comes to, from what the checker says of them and what order their variables have.
use Rattle.std.proofs.Common.{◌≡◌, ℕ, List, [], map, refl, sym, ap, subst, Result, Ok, Err, IfOk, inr}
use Rattle.std.specs.List.{All}
use Rattle.go_ast.specs.Parse.{Parsed}
use Rattle.go_typed.specs.Trees.{Package}
use Rattle.go_init.specs.Variables.{variable_order, in_order}
use Rattle.go_gen.specs.Translation.{object_in}
use Rattle.go_package.specs.Imports.{Importable}
use Rattle.go_check.specs.Names.{importable_by}
use Rattle.go_export.specs.Summaries.{Summary, summary_of}
use Rattle.go_export.specs.Writable.{IsWritten}
use Rattle.go_check.specs.Checked.{AreTyped}
use Rattle.ws_action.specs.Actions.{Action, source_with_name, parsed_of, named_summary, HaveEdition}
use Rattle.ws_action.proofs.Imports.{parsed_again}
use Rattle.ws_cache.specs.Compiles.{Compiled, Good, Faulty, IsResult, Compiles}
use Rattle.ws_compile.specs.Ordered.{CompilesTo}
use Rattle.ws_compile.specs.Unshown.{AreUnshown, IsUnshown}

pub if_ok_map : {X E : Type 0} (r : Result X E) (P Q : X → Type 0) → ((x : X) → P x → Q x) → IfOk r P → IfOk r Q
if_ok_map (Ok x) P Q f h = f x h
if_ok_map (Err e) P Q f h = tt

pub typed_result : (path : List ℕ) (files : List Parsed) (imports : List Importable) (typed : Package) → AreTyped path files imports typed → (result : Compiled) → CompilesTo typed result → IsResult path files imports result
typed_result path files imports typed are (Good summary object) h = (typed, record { are = are; ordered = h.0 }, h.1, h.2)
typed_result path files imports typed are (Faulty fault) h = inr (record { typed = typed; are = are; at = h.0; kind = h.1 })

pub good_comes : (typed : Package) (order : List ℕ) → in_order typed order ≡ (variable_order typed).0 → (variable_order typed).1 ≡ [] → (result : Compiled) → result ≡ Good (summary_of typed) (object_in (in_order typed order) typed) → CompilesTo typed result
good_comes typed order is whole result e = subst (CompilesTo typed) (sym e) (whole, refl, ap (λ is. object_in is typed) is)

pub compiles : (action : Action) (path : List ℕ) (files : List Parsed) (summaries : List Summary) (result : Compiled) → path ≡ action.path → map source_with_name files ≡ action.files → map named_summary summaries ≡ action.imports
    → All IsWritten summaries → HaveEdition action.edition files summaries → IsResult path files (map importable_by summaries) result → Compiles action result
compiles action path files summaries result at named texts written have is =
    let imports : List Importable = map importable_by summaries in
    let again = subst (λ (fs : List Parsed). IsResult path fs imports result) (sym (parsed_again action.edition files have.of_files)) is in
    record {
      summaries = summaries;
      imports = record { texts = texts; written = written; alike = have.of_summaries };
      is = subst (λ p. IsResult p (map (parsed_of action.edition) action.files) imports result) at (subst (λ ns. IsResult path (map (parsed_of action.edition) ns) imports result) named again);
    }

pub unshown : (action : Action) (path : List ℕ) (files : List Parsed) (summaries : List Summary) → path ≡ action.path → map source_with_name files ≡ action.files → map named_summary summaries ≡ action.imports
    → All IsWritten summaries → HaveEdition action.edition files summaries → AreUnshown path files (map importable_by summaries) → IsUnshown action
unshown action path files summaries at named texts written have are =
    let imports : List Importable = map importable_by summaries in
    let again = subst (λ (fs : List Parsed). AreUnshown path fs imports) (sym (parsed_again action.edition files have.of_files)) are in
    record {
      summaries = summaries;
      imports = record { texts = texts; written = written; alike = have.of_summaries };
      are = subst (λ p. AreUnshown p (map (parsed_of action.edition) action.files) imports) at (subst (λ ns. AreUnshown path (map (parsed_of action.edition) ns) imports) named again);
    }
