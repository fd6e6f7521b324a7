use Rattle.std.proofs.Common.{rules, ◌≡◌}
use Rattle.ws_replica.proofs.SameFiles.{one_file}
use Rattle.ws_replica.proofs.previous.is_same.Goals as goal

pub returns : goal.returns
returns c =
    let p = c.args.one.now in
    let q = c.args.other.now in
    let of : p.edition ≡ q.edition = search rules in
    let name : p.name ≡ q.name = search rules in
    one_file c.have_one_text.result p q of name c.have_one_text.ensures
