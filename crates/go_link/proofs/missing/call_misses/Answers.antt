use Rattle.std.proofs.Common.{◌≡◌, ℕ, not, List, ap, ◌∙◌, sym}
use Rattle.std.specs.List.{list_any}
use Rattle.std.specs.Option.{is_some}
use Rattle.go_symbol.specs.Symbols.{Symbol, same_symbol}
use Rattle.go_link.specs.Links.{misses}
use Rattle.go_link.proofs.Numbered.{missing_is}
use Rattle.go_link.proofs.missing.call_misses.Goals as goal

pub returns-in-Call : goal.returns-in-Call
returns-in-Call c =
    let asked : Symbol = record { path = c.path.result.now; name = c.name.result.now } in
    let same : asked ≡ c.in-Call.symbol = ap (λ (p : List ℕ). record { path = p; name = c.name.result.now }) c.path.ensures ∙ ap (λ (n : List ℕ). record { path = c.in-Call.symbol.path; name = n }) c.name.ensures in
    missing_is c.args.names.now asked c.is_none.result (ap is_some (sym c.number.ensures) ∙ c.is_none.ensures)
    ∙ ap (λ s. not (list_any (same_symbol s) c.args.names.now)) same
    ∙ ap (misses c.args.names.now) (sym c.in-Call.is)
