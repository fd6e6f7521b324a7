-- What tests tell of a file that an earlier plan parsed.
use denote.Enum.Bare.{same_true}
use Rattle.std.proofs.Common.{◌≡◌, ℕ, Bool, true, false, List, sym, subst, ap, ◌∙◌}
use Rattle.std.specs.Bool.{OnTrue}
use Rattle.std.specs.Str.{bytes_eq}
use Rattle.std.proofs.lemmas.Slice.Eq.{bytes_eq-Decides}
use Rattle.go_text.specs.contracts.edition.Edition as editions
use Rattle.go_text.specs.contracts.edition.EditionPartialEq.TheImpl as comparison
use Rattle.go_text.specs.declared.edition.Edition.{Edition}
use Rattle.go_text.specs.Named.{Source}
use Rattle.go_ast.specs.Trees.{File}
use Rattle.go_ast.specs.Parse.{Parsed, Derived, IsParse}
use Rattle.ws_graph.specs.Plan.{is_large}
use Rattle.ws_graph.specs.Discovery.{IsFileOf}

-- its edition
pub told_edition : (is : Bool) (own told edition : Edition) → told ≡ own → is ≡ (comparison.ghosts).eq told edition → OnTrue is (own ≡ edition)
told_edition true own told edition same e = sym same ∙ same_true editions.the_type tt told edition (sym e)
told_edition false own told edition same e = tt

-- its name, or its text
pub told_text : (is : Bool) (own told other : List ℕ) → told ≡ own → is ≡ bytes_eq told other → OnTrue is (own ≡ other)
told_text true own told other same e = sym same ∙ (bytes_eq-Decides told other).0 (sym e)
told_text false own told other same e = tt

-- where all are a source's it is what the source is parsed to
pub known_is : (edition : Edition) (source : Source) (file copy : Parsed) (tree : File) → file.edition ≡ edition → file.name ≡ source.name → file.text ≡ source.text → is_large edition source.text ≡ false → IsParse file.edition file.text (Derived tree) → copy ≡ file → IsFileOf edition source copy
known_is edition source file copy tree of name text short parse is =
    let here : IsFileOf edition source file = (
      ap (λ n. (n, file.text)) name ∙ ap (λ t. (source.name, t)) text,
      record {
        file = tree;
        short = subst (λ t. is_large edition t ≡ false) (sym text) short;
        parse = parse;
        of = of;
      },
    ) in
    subst (IsFileOf edition source) (sym is) here
