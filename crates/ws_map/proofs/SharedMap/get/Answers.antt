use Rattle.std.proofs.Common.{ap, sym, ◌∙◌, option_copied}
use Rattle.std.specs.FinMap as map
use Rattle.ws_map.specs.Keyed.{bytes_cmp}
use Rattle.ws_map.proofs.Keyed.{get-at_key}
use Rattle.ws_map.proofs.SharedMap.get.Goals as goal

pub returns-in_err-map : goal.returns-in_err-map
returns-in_err-map g c =
    ap option_copied c.from_residual.ensures ∙ sym (map.get-empty bytes_cmp (g.K.Key.bytes c.args.key.now)) ∙ ap (λ m. map.get m (g.K.Key.bytes c.args.key.now)) (sym c.in_err-map.ensures)

pub returns : goal.returns
returns g c =
    c.get.ensures.value ∙ sym (get-at_key g.K.Ord.cmp g.K.Key.bytes g.met.K.Key.ordered c.in_ok-map.field-0.now.entries c.args.key.now) ∙ ap (λ m. map.get m (g.K.Key.bytes c.args.key.now)) c.in_ok-map.ensures
