use Rattle.std.proofs.Common.{◌≡◌, ℕ, ◌+◌, ◌*◌, ◌≤◌, ◌<◌, Bool, true, false, nat_lt, pos, negsuc, List, take, drop, refl, sym, ap, ◌∙◌, arith}
use Rattle.std.specs.Prelude.{if◌then◌else◌}
use Rattle.std.proofs.lemmas.Bool.{ltb-true}
use Rattle.std.proofs.Math.Nat.{mul-le-mul_right}
use Rattle.go_code.specs.declared.cell.Cell.TheVariants.{Int, Bool as Truth, Text, Slice}
use Rattle.go_code.specs.declared.ending.PanicKind.TheVariants.{Index}
use Rattle.go_code.specs.Parts.{picked, index_below, bind_index}
use Rattle.go_code.specs.Operators.{Operated, Gives, Panics, Senseless}
use Rattle.go_code.specs.declared.cell.Cell.{Cell}
use Rattle.go_cells.specs.Results.{operated_index}
use Rattle.go_vm.proofs.Rows.{last_is, part_of_front}
use Rattle.go_vm.proofs.inside.picked_index.Goals as goal

index_same : (o : Operated ℕ) (count size : ℕ) (row : List Cell) → ((index : ℕ) → o ≡ Gives index → index * size + size ≤ count * size) → bind_index o (λ index. Gives (take size (drop (index * size) (take (count * size) row)))) ≡ bind_index o (λ index. Gives (take size (drop (index * size) row)))
index_same (Gives index) count size row within = ap Gives (part_of_front row (count * size) (index * size) size (within index refl))
index_same (Panics kind) count size row within = refl
index_same Senseless count size row within = refl

if_below : (b : Bool) (i index : ℕ) → (if b then Gives i else Panics Index) ≡ Gives index → (b ≡ true) × (i ≡ index)
if_below true i index e = (refl, cc)
if_below false i index e = cc

mul-add-le : (index size count : ℕ) → index + 1 ≤ count → index * size + size ≤ count * size
mul-add-le index size count le = let h : (index + 1) * size ≤ count * size = mul-le-mul_right size le in omega (arith, h)

within_count : (i index count size : ℕ) → i < count → i ≡ index → index * size + size ≤ count * size
within_count i index count size less is = omega (arith, mul-add-le index size count (omega (arith, less, is)))

first_below : (count size : ℕ) (c : Cell) (index : ℕ) → index_below count c ≡ Gives index → index * size + size ≤ count * size
first_below count size (Int (pos i)) index e =
    let parts = if_below (nat_lt i count) i index e in
    within_count i index count size (ltb-true i count parts.0) parts.1
first_below count size (Int (negsuc i)) index e = cc
first_below count size (Truth b) index e = cc
first_below count size (Text t) index e = cc
first_below count size (Slice r b n l) index e = cc

pub returns-clause-told : goal.returns-clause-told
returns-clause-told c =
    let row = c.args.cells.now in
    let n = c.args.count * c.args.size in
    ap (picked c.args.count c.args.size (take n row)) (last_is row n c.index-cells-count.result c.requires c.index-cells-count.is)
    ∙ ap (λ o. bind_index o (λ index. Gives (take c.args.size (drop (index * c.args.size) (take n row))))) (sym c.index_below.ensures)
    ∙ index_same (operated_index c.index_below.result) c.args.count c.args.size row
    (λ index e. first_below c.args.count c.args.size c.index-cells-count.result index (sym c.index_below.ensures ∙ e))
