-- By a package's summary importers find what they find by its typed tree.
use Rattle.std.proofs.Common.{◌≡◌, refl}
use Rattle.go_typed.specs.Trees.{Package}
use Rattle.go_export.specs.Summaries.{summary_of}
use Rattle.go_check.specs.Names.{importable_by, importable_of}

pub same : (p : Package) → importable_by (summary_of p) ≡ importable_of p
same p = refl
