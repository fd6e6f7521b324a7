use Rattle.std.proofs.Common.{◌≡◌, ap, sym, ◌∙◌, option_map}
use Rattle.std.specs.Arc.{arc_value}
use Rattle.std.specs.FinMap.{empty}
use Rattle.ws_map.specs.Greater.{greater}
use Rattle.ws_map.specs.Kept.{joined}
use Rattle.ws_map.specs.Keyed.{by_key, contents_of}
use Rattle.ws_map.proofs.Gathered.{joined_empty}
use Rattle.ws_map.proofs.Greater.{greater-semilattice}
use Rattle.ws_map.proofs.Kept.{joined-commutative}
use Rattle.ws_map.proofs.Keyed.{bytes_cmp_total, bytes_cmp-IsAntisymmetric}
use Rattle.ws_map.proofs.SharedMap.merge.Goals as goal

pub returns-in_default-clause-ok : goal.returns-in_default-clause-ok
returns-in_default-clause-ok g c =
    let f = greater g.V.Ranked.rank in
    let mine = c.args.self.now in
    let none : c.args.other.now ≡ empty = sym c.other.view_is ∙ ap (λ shared. contents_of g.K.Key.bytes (option_map arc_value shared)) c.in_default.is in
    sym (ap (joined f mine) none
    ∙ joined-commutative bytes_cmp_total bytes_cmp-IsAntisymmetric (greater-semilattice g.met.V.Ranked.total g.met.V.Ranked.one) mine empty
    ∙ joined_empty bytes_cmp_total bytes_cmp-IsAntisymmetric f mine)

pub returns-in_ok-try_clone-in-None-clause-ok : goal.returns-in_ok-try_clone-in-None-clause-ok
returns-in_ok-try_clone-in-None-clause-ok g c =
    let bytes = g.K.Key.bytes in
    let f = greater g.V.Ranked.rank in
    let none : c.args.self.now ≡ empty = sym c.self.view_is ∙ ap (λ shared. contents_of bytes (option_map arc_value shared)) c.in-None.is in
    let others : c.args.other.now ≡ by_key bytes (arc_value c.in-Some.others).entries = sym c.other.view_is ∙ ap (λ shared. contents_of bytes (option_map arc_value shared)) c.in-Some.is in
    ap (λ m. by_key bytes m.entries) c.in_ok-try_clone-in-None.ensures ∙ sym others
    ∙ sym (ap (λ m. joined f m c.args.other.now) none ∙ joined_empty bytes_cmp_total bytes_cmp-IsAntisymmetric f c.args.other.now)
