-- What was answered of packages, said of the objects in their order.
use Rattle.std.proofs.Common.{◌≡◌, List, true, false, not, Some, None, Result, Ok, Err, IfOk, IfErr, OnOk, ap, ◌∙◌, subst}
use Rattle.std.specs.Prelude.{if◌then◌else◌}
use Rattle.std.specs.List.{flat_map, list_any}
use Rattle.go_symbol.specs.Symbols.{Symbol}
use Rattle.go_code.specs.Images.{Image}
use Rattle.go_code.specs.Packages.{Object}
use Rattle.go_link.specs.Links.{LinkedVariable, variables, IsLinkRefusal, code_of, editions_differ, has_main, is_missing_symbol, link_refusal, linked, name_missing, function_symbols}
use Rattle.go_link.specs.declared.link.LinkError.{LinkError}
use Rattle.go_link.specs.declared.link.LinkError.TheVariants.{NoMain, NameMissing, EditionsDiffer}

pub linked_as : (r : Result Image LinkError) (xs ys : List Object) → xs ≡ ys → IfOk r (λ image. image ≡ linked xs) → OnOk r (link_refusal xs ≡ None) → IfOk r (λ image. (link_refusal ys ≡ None) × (image ≡ linked ys))
linked_as (Ok image) xs ys e is allowed = (subst (λ zs. link_refusal zs ≡ None) e allowed, subst (λ zs. image ≡ linked zs) e is)
linked_as (Err error) xs ys e is allowed = tt

pub refused_as : (r : Result Image LinkError) (xs ys : List Object) → xs ≡ ys → IfErr r (λ error. IsLinkRefusal error (link_refusal xs)) → IfErr r (λ error. IsLinkRefusal error (link_refusal ys))
refused_as (Ok image) xs ys e is = tt
refused_as (Err error) xs ys e is = subst (λ zs. IsLinkRefusal error (link_refusal zs)) e is

-- packages with a main and of one edition, with no name missing, are not refused
pub allowed_by : (packages : List Object) (all : List Symbol) (held : List LinkedVariable) → has_main packages ≡ true → all ≡ function_symbols packages → held ≡ variables packages → list_any (is_missing_symbol all held) (flat_map code_of packages) ≡ false → editions_differ packages ≡ false → link_refusal packages ≡ None
allowed_by packages all held main same places whole alike =
    let missing : name_missing packages ≡ false = subst (λ vs. list_any (is_missing_symbol (function_symbols packages) vs) (flat_map code_of packages) ≡ false) places (subst (λ ns. list_any (is_missing_symbol ns held) (flat_map code_of packages) ≡ false) same whole) in
    ap (λ b. if not b then Some NoMain else (if name_missing packages then Some NameMissing else (if editions_differ packages then Some EditionsDiffer else None))) main
    ∙ ap (λ b. if b then Some NameMissing else (if editions_differ packages then Some EditionsDiffer else None)) missing
    ∙ ap (λ b. if b then Some EditionsDiffer else None) alike
