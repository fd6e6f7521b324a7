use Rattle.std.proofs.Common.{arith}
use Rattle.ws_version.proofs.Bytes.{all_bytes}
use Rattle.ws_version.proofs.see_bytes.Goals as goal

pub returns : goal.returns
returns c = all_bytes c.args.bytes.now (λ i. omega (arith, c.type_inv.bytes i))
