use Rattle.std.proofs.Common.{◌≡◌, length, ap, ◌∙◌, sym}
use Rattle.std.proofs.lemmas.List.{length-map}
use Rattle.go_link.specs.Named.{symbol_at}
use Rattle.go_link.proofs.Numbered.{none_behind}
use Rattle.go_link.proofs.names.Names.number_of.Goals as goal

pub returns-in-None : goal.returns-in-None
returns-in-None c =
    let size : c.len.result ≡ length c.self.inside.all.items = cc in
    none_behind c.args.self.now (record { path = c.args.path.now; name = c.args.name.now }) c.len.result
    (size ∙ sym (length-map c.self.inside.all.items symbol_at) ∙ ap length c.self.view_is)
    (sym c.number.ensures ∙ c.in-None.is)
