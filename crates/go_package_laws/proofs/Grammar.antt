-- Files of texts declare no types in functions: the grammar has no such statement.
use Rattle.std.proofs.Common.{List, [], ◌∷◌}
use Rattle.go_text.specs.declared.edition.Edition.{Edition}
use Rattle.go_ast.specs.Trees.{TopLevel, declared, function, File}
use Rattle.go_package_laws.specs.Whole.{AreParsed}
use Rattle.go_package_laws.proofs.Completeness.Grammar.{AllLocal, parsed_local}
use Rattle.go_package_laws.proofs.Found.{LocalTops, LocalFiles}

local_tops : (tops : List TopLevel) → AllLocal tops → LocalTops tops
local_tops [] h = tt
local_tops (declared d ∷ tops) h = (tt, local_tops tops h)
local_tops (function f ∷ tops) h = (h.0, local_tops tops h.1)

pub local_files : (edition : Edition) (files : List File) → AreParsed edition files → LocalFiles files
local_files edition [] h = tt
local_files edition (f ∷ fs) h = (local_tops f.declarations (parsed_local edition (h.0).0 f (h.0).1), local_files edition fs h.1)
