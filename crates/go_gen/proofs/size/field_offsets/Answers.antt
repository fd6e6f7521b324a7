use Rattle.std.proofs.Common.{suc, ◌+◌, drop, length, ap, ◌∙◌, arith}
use Rattle.std.proofs.lemmas.Grind.{common_steps}
use Rattle.std.proofs.lemmas.List.{length_push}
use Rattle.go_types.specs.Views.{fields_in}
use Rattle.go_gen.proofs.Offsets.{offsets_next}
use Rattle.go_gen.proofs.size.field_offsets.Goals as goal

pub loop-field-preserved : goal.loop-field-preserved
loop-field-preserved c =
    let inv = c.loop-field.invariant in
    let fields = c.args.fields.now in
    let i = c.loop-field.field-index in
    let pushed = c.in_ok-push.ensures.items in
    record {
      size = ap length pushed ∙ length_push c.loop-field.offsets.items c.loop-field.before ∙ ap (λ n. n + 1) inv.size;
      at = offsets_next (fields_in fields) (fields_in (drop i fields)) c.loop-field.offsets.items c.push.new.self.items c.loop-field.before i pushed inv.size (inv.rest 0) inv.at;
      rest = λ n. grind (arith, common_steps, inv.rest (suc n));
    }

pub returns : goal.returns
returns c = λ n lt. c.loop-field.invariant.at n (let s = c.loop-field.invariant.size in omega (arith, lt, s))
