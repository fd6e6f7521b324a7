use Rattle.std.proofs.Common.{◌≡◌, List, [], length, map, take, sym, subst, ◌∙◌, arith}
use Rattle.std.proofs.lemmas.List.{length-map, length-take-le, map_more}
use Rattle.go_symbol.specs.Symbols.{Symbol}
use Rattle.go_link.specs.Named.{SymbolParts, Numbers, symbol_at}
use Rattle.go_link.proofs.names.numbers_of.Goals as goal

pub loop-number-preserved : goal.loop-number-preserved
loop-number-preserved c =
    let none : SymbolParts = (record { ref_ptr = (0, 0); now = [] }, record { ref_ptr = (0, 0); now = [] }) in
    let before : List Symbol = map symbol_at (take c.loop-number.number c.args.names.now) in
    let passed : length (take c.loop-number.number c.args.names.now) ≡ c.loop-number.number = length-take-le c.loop-number.number c.args.names.now (omega arith) in
    let count : c.loop-number.number ≡ length before = sym (length-map (take c.loop-number.number c.args.names.now) symbol_at ∙ passed) in
    subst (Numbers c.add_name.new.numbers) (sym (map_more symbol_at c.args.names.now c.loop-number.number none c.loop-number-test.true))
    (c.in_ok-add_name.ensures before count c.loop-number.invariant)
