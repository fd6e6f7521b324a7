use Rattle.std.proofs.Common.{inl, inr}
use Rattle.goset_cli.proofs.run.run_with.Goals as goal

pub returns-in-Ok-clause-ran : goal.returns-in-Ok-clause-ran
returns-in-Ok-clause-ran g c = λ not_70. record {
  account = c.in-Ok.account;
  is_account = c.in-Ok.ensures;
  prints = c.write_account.ensures.prints not_70;
  status_is = elim c.write_account.ensures.known [
    | inl is ↦ absurd (not_70 is)
    | inr is ↦ is
  ];
}
