use Rattle.std.proofs.Common.{◌≡◌, true, cond, [], sym, ap, ◌∙◌, rules}
use Rattle.std.proofs.lemmas.Result.{IfOk-weaker}
use Rattle.go_scan.specs.Fronts.{is_string_front, string_meaning}
use Rattle.go_scan.proofs.LiteralFronts.{string_valued}
use Rattle.go_scan.proofs.values.string_bytes.Goals as goal

pub returns-then-is_string-clause-means : goal.returns-then-is_string-clause-means
returns-then-is_string-clause-means c =
    let bytes = c.args.bytes.now in
    let whole : is_string_front bytes ≡ true = sym c.is_string.ensures ∙ c.if-is_string.true in
    IfOk-weaker c.string_meaning.result _ _ (λ v h. (string_valued bytes v.items).1 (h ∙ sym (ap (λ t. cond t (string_meaning bytes) []) whole))) c.string_meaning.ensures

pub returns-else-is_string-clause-means : goal.returns-else-is_string-clause-means
returns-else-is_string-clause-means c = (string_valued c.args.bytes.now c.new.result.items).1 (search rules)
