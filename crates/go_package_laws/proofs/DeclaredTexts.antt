-- Files whose string literals are texts, whose types are named by words, and where nothing is declared behind a turn of a loop.
use Rattle.std.specs.Prelude.{List, [], ◌∷◌}
use Rattle.go_scan.specs.Words.{IsWord}
use Rattle.go_ast.specs.Trees.{TypeSpec, constants, variables, types, TopLevel, declared, function, File}
use Rattle.go_package_laws.proofs.Texts.{TypeHasTexts}
use Rattle.go_package_laws.proofs.BodyTexts.{ConstantsHaveTexts, VariablesHaveTexts, FunctionHasTexts}

abbrev pub TypesHaveTexts : List TypeSpec → Type 0
TypesHaveTexts [] = Unit {0}
TypesHaveTexts (s ∷ ss) = TypeHasTexts s.type × TypesHaveTexts ss × IsWord s.name.text

abbrev pub TopHasTexts : TopLevel → Type 0
TopHasTexts (declared (constants p ss)) = ConstantsHaveTexts ss
TopHasTexts (declared (variables p ss)) = VariablesHaveTexts ss
TopHasTexts (declared (types p ss)) = TypesHaveTexts ss
TopHasTexts (function f) = FunctionHasTexts f

abbrev pub TopsHaveTexts : List TopLevel → Type 0
TopsHaveTexts [] = Unit {0}
TopsHaveTexts (top ∷ tops) = TopHasTexts top × TopsHaveTexts tops

abbrev pub FilesHaveTexts : List File → Type 0
FilesHaveTexts [] = Unit {0}
FilesHaveTexts (f ∷ fs) = TopsHaveTexts f.declarations × FilesHaveTexts fs
