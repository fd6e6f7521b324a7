use Rattle.go_ast.proofs.Theorem.{taken_derived, derived_taken}
use Rattle.go_ast.proofs.law.law_file_computed.Goals as goal

pub returns : goal.returns
returns c = λ e levels ts f one. (derived_taken e levels ts f one, taken_derived e levels ts f one)
