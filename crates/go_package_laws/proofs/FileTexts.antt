-- Files of the grammar have texts for string literals, where their tokens' bytes are texts.
use Rattle.std.proofs.Common.{List, [], ◌∷◌, subst, inl, inr}
use Rattle.go_text.specs.declared.edition.Edition.{Edition}
use Rattle.go_scan.specs.Words.{IsWord}
use Rattle.go_ast.specs.Trees.{constants, variables, types, TopLevel, declared, function, ImportSpec, File}
use Rattle.go_ast.specs.Grammar.{Lexeme, IsImportSpec, AreImports, IsTopLevel, AreTopLevels, IsFile}
use Rattle.go_package_laws.proofs.BodyTexts.{ConstantsHaveTexts, VariablesHaveTexts, FunctionHasTexts}
use Rattle.go_package_laws.proofs.Literals.{Every}
use Rattle.go_package_laws.proofs.Spelled.{AreTexts, behind_token}
use Rattle.go_package_laws.proofs.Written.{SpecHasTexts, group_texts, constants_texts, variables_texts, type_specs_texts, function_texts, function_named}

abbrev pub TopTexts : TopLevel → Type 0
TopTexts (declared (constants p ss)) = ConstantsHaveTexts ss
TopTexts (declared (variables p ss)) = VariablesHaveTexts ss
TopTexts (declared (types p ss)) = Every SpecHasTexts ss
TopTexts (function f) = FunctionHasTexts f × IsWord f.name.text

module _ (ed : Edition) where
  top_texts : (top : TopLevel) (us ws : List Lexeme) → IsTopLevel ed top us ws → AreTexts us → TopTexts top × AreTexts ws
  top_texts (declared (constants p ss)) us ws (k, vs, word, at, all) texts = constants_texts ed ss vs ws all (behind_token _ k us vs word texts)
  top_texts (declared (variables p ss)) us ws (k, vs, word, at, all) texts = variables_texts ed ss vs ws all (behind_token _ k us vs word texts)
  top_texts (declared (types p ss)) us ws (k, vs, word, at, all) texts = type_specs_texts ed ss vs ws all (behind_token _ k us vs word texts)
  top_texts (function f) us ws h texts = (let both = function_texts ed f us ws h texts in ((both.0, function_named ed f us ws h texts), both.1))

  tops_texts : (tops : List TopLevel) (us ws : List Lexeme) → AreTopLevels ed tops us ws → AreTexts us → Every TopTexts tops
  tops_texts [] us ws h texts = tt
  tops_texts (top ∷ tops) us ws (t, vs, xs, one, mark, rest) texts =
      let first = top_texts top us vs one texts in
      (first.0, tops_texts tops xs ws rest (behind_token _ t vs xs mark first.1))

abbrev Nothing : ImportSpec → Type 0
Nothing i = Unit {0}

import_texts : (i : ImportSpec) (us ws : List Lexeme) → IsImportSpec i us ws → AreTexts us → Nothing i × AreTexts ws
import_texts i us ws (n, t, vs, inl (none, same, at), path, value, other, place) texts = (tt, behind_token _ t vs ws path (subst AreTexts same texts))
import_texts i us ws (n, t, vs, inr (given, own, at), path, value, other, place) texts = (tt, behind_token _ t vs ws path (behind_token _ n us vs own texts))

imports_texts : (iss : List (List ImportSpec)) (us ws : List Lexeme) → AreImports iss us ws → AreTexts us → AreTexts ws
imports_texts [] us ws h texts = subst AreTexts h texts
imports_texts (is ∷ iss) us ws (k, t, vs, xs, ys, word, group, mark, rest) texts =
    imports_texts iss ys ws rest (behind_token _ t xs ys mark (group_texts IsImportSpec Nothing import_texts is vs xs group (behind_token _ k us vs word texts)).1)

module _ (ed : Edition) where
  -- each declaration of a file whose tokens are texts
  pub file_texts : (f : File) (us : List Lexeme) → IsFile ed f us → AreTexts us → Every TopTexts f.declarations
  file_texts f us (k, t, s, vs, xs, ys, zs, iss, word, own, named, is, mark, imports, also, tops) texts =
      tops_texts ed f.declarations zs [] tops
      (imports_texts iss ys zs imports (behind_token _ s xs ys mark (behind_token _ t vs xs own (behind_token _ k us vs word texts))))
