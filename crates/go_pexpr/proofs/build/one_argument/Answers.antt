use Rattle.std.proofs.Common.{ap, arith}
use Rattle.go_pexpr.specs.Tall.{exprs_tall}
use Rattle.go_pexpr.proofs.Pushed.{exprs_push}
use Rattle.go_pexpr.proofs.build.one_argument.Goals as goal

pub invariant_of-result : goal.invariant_of-result
invariant_of-result c = record {
  counted =
      omega (
        arith,
        ap (λ es. exprs_tall es) c.in_ok-push.ensures.items,
        exprs_push c.in_ok-items.items.items c.args.first.expr,
        ap (λ es. exprs_tall es) c.in_ok-items.ensures.items,
        c.args.first.counted,
      );
}
