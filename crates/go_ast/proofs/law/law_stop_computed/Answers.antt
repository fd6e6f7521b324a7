use Rattle.go_ast.proofs.Theorem.{refused_stops, stops_refused}
use Rattle.go_ast.proofs.law.law_stop_computed.Goals as goal

pub returns : goal.returns
returns c = λ e levels ts n bad one. (stops_refused e levels ts n bad one, refused_stops e levels ts n bad one)
