use Rattle.std.proofs.Common.{◌<◌, length, sym, subst}
use Rattle.ws_register.specs.Listed.{all_writes}
use Rattle.ws_register.proofs.Edited.{put-some}
use Rattle.ws_register.proofs.Parts.{some-pages}
use Rattle.ws_register.proofs.Shared.{either}
use Rattle.ws_register.proofs.node.Node.put.Goals as goal

pub invariant_of-self : goal.invariant_of-self
invariant_of-self c =
    let old = c.args.self.now.pages.items in
    let new = c.put.new.pages.items in
    record {
      some =
          either c.put.result
          (λ is. some-pages new (subst (λ l. 0 < length l) (sym is) (put-some c.args.write.0 c.args.write.1 (all_writes old))))
          (λ same. subst (λ l. 0 < length l) (sym same) c.args.self.now.some)
          c.put.ensures.ok c.put.ensures.err;
    }
