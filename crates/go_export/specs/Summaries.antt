-- Summaries: what the importers of a package know of it, and the text that stands for it in a digest.
use Rattle.std.specs.Prelude.{ℕ, List, ◌++◌, length, codes, if◌then◌else◌}
use Rattle.std.specs.Fmt.{signed_decimal}
use Rattle.std.specs.List.{flat_map}
use Rattle.sha2.specs.Sha256.{sha256}
use Rattle.go_text.specs.declared.edition.Edition.{Edition}
use Rattle.go_const.specs.declared.constant.Const.{Const}
use Rattle.go_const.specs.declared.constant.Const.TheVariants.{Integer, Text, Bool as Truth}
use Rattle.go_export.specs.Fields.{be, field}
use Rattle.go_types.specs.Types.{Type'}
use Rattle.go_types.specs.Texts.{type_text}
use Rattle.go_typed.specs.Trees.{Package}
use Rattle.go_export.specs.Exports.{Export, constant, variable, function, type', Exports, exports_of}

-- the package's edition, its path, the name in its package clauses, and what it exports
pub record Summary : Type 0 where
  pub edition : Edition
  pub path : List ℕ
  pub «package» : List ℕ
  pub exports : Exports

-- what a checked package shows of itself
abbrev pub summary_of : Package → Summary
summary_of p = record { edition = p.edition; path = p.path; «package» = p.name; exports = exports_of p }

-- https://go.dev/ref/spec#Constants
-- an integer in decimal, the bytes of a string, or a truth value's name
abbrev pub value_text : Const → List ℕ
value_text (Integer z) = signed_decimal z
value_text (Text bytes) = bytes
value_text (Truth b) = if b then codes "true" else codes "false"

-- how many types there are, and each
abbrev pub types_text : List Type' → List ℕ
types_text ts = be (length ts) ++ flat_map (λ t. field (type_text t)) ts

-- a letter for the kind, and the parts
abbrev pub export_text : Export → List ℕ
export_text (constant t c) = field (codes "C") ++ field (type_text t) ++ field (value_text c)
export_text (variable t) = field (codes "V") ++ field (type_text t)
export_text (function parameters results) = field (codes "F") ++ types_text parameters ++ types_text results
export_text (type' t) = field (codes "T") ++ field (type_text t)

abbrev pub named_text : List ℕ × Export → List ℕ
named_text e = field e.0 ++ export_text e.1

-- the text that stands for a summary, whose edition is told beside it: the path, the name, how many exports there are, and each
unfoldable pub summary_text : Summary → List ℕ
summary_text s = field (codes "goset summary") ++ field s.path ++ field s.«package» ++ be (length s.exports) ++ flat_map named_text s.exports

-- its digest
unfoldable pub summary_digest : Summary → List ℕ
summary_digest s = sha256 (summary_text s)
