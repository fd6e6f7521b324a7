use Rattle.std.proofs.Common.{rules, List, ℕ, ◌<◌, length, map, drop, Bor}
use Rattle.go_packed.proofs.Cuts.{Left, cut_here}
use Rattle.go_packed.proofs.joined.Joined.names.Goals as goal

pub split_at-requires : goal.split_at-requires
split_at-requires c =
    let lengths = c.deref-length-items.result.now in
    let i = c.loop-length.length-index in
    let names = map (λ (n : Bor (List ℕ)). n.now) c.loop-length.names.items in
    let within : i < length lengths = search rules in
    let left : Left c.args.self.now names (drop i lengths) c.loop-length.rest.now = search rules in
    cut_here c.args.self.now names lengths i c.loop-length.rest.now within left
