use Rattle.std.proofs.Common.{reverse, is_some, sym, ap, ◌∙◌}
use Rattle.std.specs.List.{flat_map}
use Rattle.std.specs.Map.{lookup}
use Rattle.std.specs.Str.{bytes_eq}
use Rattle.go_scope.specs.Scopes.{look_up}
use Rattle.go_scope.proofs.Lookups.{look_inner, look_outer}
use Rattle.go_scope.proofs.scopes.Scopes.look_up.Goals as goal

pub returns-in-Some : goal.returns-in-Some
returns-in-Some g c =
    let q = c.args.name.now in
    let inside = c.self.inside in
    c.in-Some.ensures
    ∙ sym (look_inner (record { inner = inside.inner; outer = reverse inside.outer.items }) q (ap is_some (sym c.in-Some.ensures)))
    ∙ ap (λ env. look_up env q) c.self.view_is

pub returns-in-None : goal.returns-in-None
returns-in-None g c =
    let q = c.args.name.now in
    let inside = c.self.inside in
    c.find.ensures
    ∙ ap (λ blocks. lookup (bytes_eq q) (flat_map (λ block. block) (reverse blocks))) c.as_slice.ensures.value
    ∙ sym (look_outer (record { inner = inside.inner; outer = reverse inside.outer.items }) q (sym c.in-None.ensures))
    ∙ ap (λ env. look_up env q) c.self.view_is
