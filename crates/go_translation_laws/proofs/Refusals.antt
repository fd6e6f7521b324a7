-- When the linker finds a main: for the objects of a program, and of no other packages.
use Rattle.std.proofs.Common.{◌≡◌, ℕ, Bool, true, false, not, List, [], ◌∷◌, map, Option, Some, None, refl, sym, ap, ◌∙◌, ◌||◌, cond}
use Rattle.std.specs.Prelude.{codes, is_some, ◌&&◌, if◌then◌else◌}
use Rattle.std.specs.List.{list_any}
use Rattle.std.specs.Option.{option_map}
use Rattle.std.specs.Str.{bytes_eq}
use Rattle.std.proofs.lemmas.Slice.Eq.{bytes_eq-Decides}
use Rattle.go_code.specs.Packages.{PackageFunction}
use Rattle.go_link.specs.declared.link.LinkError.TheVariants.{NoMain, NameMissing, EditionsDiffer}
use Rattle.go_link.specs.Links.{editions_differ, has_main, has_main_in, name_missing, link_refusal}
use Rattle.go_link.proofs.Found.{allowed}
use Rattle.go_typed.specs.Trees.{Function, Package}
use Rattle.go_meaning.specs.Programs.{function_named, last_package, HasMain, IsProgram}
use Rattle.go_gen.specs.Translation.{translated_function, object_of}
use Rattle.go_translation_laws.proofs.FirstVariables.{text_other}
use Rattle.go_translation_laws.proofs.Images.{last_linked}

pub either : (b : Bool) (f : Function) (o : Option Function) → (b || is_some o) ≡ is_some (cond b (Some f) o)
either true f o = refl
either false f o = refl

any_is_some : (name : List ℕ) (fs : List Function) → list_any (λ (f : PackageFunction). bytes_eq f.name name) (map translated_function fs) ≡ is_some (function_named name fs)
any_is_some name [] = refl
any_is_some name (f ∷ fs) =
    ap (λ b. b || list_any (λ (g : PackageFunction). bytes_eq g.name name) (map translated_function fs)) (text_other f.name name)
    ∙ ap (λ b. bytes_eq name f.name || b) (any_is_some name fs)
    ∙ either (bytes_eq name f.name) f (function_named name fs)

-- the object's package has a main that can be linked
pub main_same : (typed : Package) → has_main_in (Some (object_of typed)) ≡ (bytes_eq typed.name (codes "main") && is_some (function_named (codes "main") typed.functions))
main_same typed = ap (λ b. bytes_eq typed.name (codes "main") && b) (any_is_some (codes "main") typed.functions)

both_true : (b c : Bool) → (b && c) ≡ true → (b ≡ true) × (c ≡ true)
both_true true c e = (refl, e)
both_true false c e = cc

main_if : (o : Option Package) → has_main_in (option_map object_of o) ≡ true → HasMain o
main_if None e = absurd (cc)
main_if (Some p) e =
    let h = both_true (bytes_eq p.name (codes "main")) (is_some (function_named (codes "main") p.functions)) (sym (main_same p) ∙ e) in
    ((bytes_eq-Decides p.name (codes "main")).0 h.0, h.1)

main_of : (o : Option Package) → HasMain o → has_main_in (option_map object_of o) ≡ true
main_of None h = absurd h
main_of (Some p) h =
    main_same p
    ∙ ap (λ b. b && is_some (function_named (codes "main") p.functions)) ((bytes_eq-Decides p.name (codes "main")).1 h.0)
    ∙ h.1

program_if_main : (packages : List Package) → has_main (map object_of packages) ≡ true → IsProgram packages
program_if_main packages e = main_if (last_package packages) (ap has_main_in (sym (last_linked packages)) ∙ e)

-- a program's last object has a main
pub has_main_if : (packages : List Package) → IsProgram packages → has_main (map object_of packages) ≡ true
has_main_if packages is = ap has_main_in (last_linked packages) ∙ main_of (last_package packages) is

-- what the linker doesn't refuse is a program
pub linked_program : (packages : List Package) → link_refusal (map object_of packages) ≡ None → IsProgram packages
linked_program packages e = program_if_main packages (allowed (map object_of packages) e).0

-- what isn't a program has no main
pub no_main : (packages : List Package) → (IsProgram packages → ⊥) → link_refusal (map object_of packages) ≡ Some NoMain
no_main packages h = by_main (has_main (map object_of packages)) refl
  where
    by_main : (b : Bool) → has_main (map object_of packages) ≡ b → (if not b then Some NoMain else (if name_missing (map object_of packages) then Some NameMissing else (if editions_differ (map object_of packages) then Some EditionsDiffer else None))) ≡ Some NoMain
    by_main true e = absurd (h (program_if_main packages e))
    by_main false e = refl
