use Rattle.std.proofs.Common.{◌∙◌, sym, ℕ, List, map, arith}
use Rattle.std.proofs.lemmas.List.{length-map}
use Rattle.ws_command.specs.Commands.{pairs_of}
use Rattle.ws_command.specs.Lines.{words_of}
use Rattle.ws_command.proofs.Targets.{taken, too_many, no_name}
use Rattle.ws_command.proofs.commands.asked_of_targets.Goals.{then-len-eq-MOST_TARGETS-via-then-len-eq-MOST_TARGETS, then-len-eq-MOST_TARGETS-via-else-len-eq-MOST_TARGETS+then-not-is_name}
use Rattle.ws_command.proofs.commands.asked_of_targets.Goals as goal

pub returns-then-len-eq-MOST_TARGETS : goal.returns-then-len-eq-MOST_TARGETS
returns-then-len-eq-MOST_TARGETS c =
    let before = map (λ target. (target.0.now, target.1.now)) c.targets.targets.items in
    let with_next = taken (words_of c.args.words.now) (words_of c.targets.rest.now) (words_of c.in-Some.behind.now) before c.in-Some.name.now c.in-Some-first_word.directory.now
    (words_of c.in-Some-first_word.behind.now) c.targets.invariant.whole c.in-Some.ensures c.in-Some-first_word.ensures in
    let pair : List ℕ × List ℕ = (c.in-Some.name.now, c.in-Some-first_word.directory.now) in
    elim c.then-len-eq-MOST_TARGETS.branch [
      | then-len-eq-MOST_TARGETS-via-then-len-eq-MOST_TARGETS w ↦
          too_many (words_of c.args.words.now) before pair (pairs_of (words_of c.in-Some-first_word.behind.now)) with_next
          (simp length-map (omega arith))
      | then-len-eq-MOST_TARGETS-via-else-len-eq-MOST_TARGETS+then-not-is_name w ↦
          no_name (words_of c.args.words.now) before pair (pairs_of (words_of c.in-Some-first_word.behind.now)) with_next
          (sym w.is_name.ensures ∙ w.if-not-is_name.true)
    ]
