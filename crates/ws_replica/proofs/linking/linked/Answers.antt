use Rattle.std.proofs.Common.{◌≡◌, ◌<◌, ◌∙◌, ℕ, length, sym, subst}
use Rattle.std.specs.List.{All}
use Rattle.std.proofs.lemmas.List.{length-map}
use Rattle.std.specs.Global.{Global}
use Rattle.std.specs.Prelude.{Vec}
use Rattle.go_init.specs.Packages.{package_order}
use Rattle.go_init.proofs.Orders.{below}
use Rattle.ws_reach.specs.Reach.{rows_of}
use Rattle.ws_replica.proofs.linking.linked.Goals as goal

pub link-requires : goal.link-requires
link-requires c =
    let rows = c.args.rows.now in
    let order : c.deref.result.now ≡ package_order (rows_of rows) = c.deref.ensures.value ∙ c.in_ok-order.ensures in
    let size : length (rows_of rows) ≡ length c.args.objects.now = length-map rows (λ (v : Vec ℕ Global). v.items) ∙ sym c.requires in
    record { indexes = subst (All (λ k. k < length c.args.objects.now)) (sym order) (subst (λ n. All (λ k. k < n) (package_order (rows_of rows))) size (below (rows_of rows))) }
