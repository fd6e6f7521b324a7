use Rattle.std.proofs.Common.{◌≡◌, ◌+◌, ◌++◌, ◌∷◌, [], List, ℕ, Vec, Global, map, take, drop, get_or, suc, Some, false, sym, ap, ◌∙◌, subst}
use Rattle.std.specs.Borrow.{Bor}
use Rattle.std.proofs.lemmas.List.{map-append}
use Rattle.std.proofs.lemmas.Str.{is_utf8-from_IsUtf8}
use Rattle.ws_replica.specs.Builds.{target_of}
use Rattle.ws_replica.specs.declared.building.Target.{Target}
use Rattle.ws_command.specs.declared.refusal.Refusal.TheVariants.{Unknown}
use Rattle.ws_session.specs.Representation.{asked_of, targets_row}
use Rattle.ws_session.proofs.Asked.{text_more, other_more, one_unknown, same_so_far, asked_more, asked_split}
use Rattle.ws_session.proofs.Utf8.{not_utf8}
use Rattle.ws_session.proofs.replicas.targets_of.Goals as goal
use Rattle.ws_session.proofs.replicas.targets_of.Goals.{in-Ok+in_ok-push-in-Ok, in-Err}

abbrev words : Bor (List ℕ) × Bor (List ℕ)
words = (record { ref_ptr = (0, 0); now = [] }, record { ref_ptr = (0, 0); now = [] })

pub returns-in_default : goal.returns-in_default
returns-in_default c =
    let asked = c.args.asked.now in
    let i = c.loop-name.name-index in
    subst (λ all. targets_row c.args.named.now all ≡ Some Unknown) (sym (asked_split asked i words c.loop-name-test.true))
    (one_unknown c.args.named.now (map asked_of (take i asked)) c.loop-name.is_text (map target_of c.loop-name.targets.items) c.loop-name.invariant
    (asked_of (get_or asked i words)) (map asked_of (drop (suc i) asked)) (sym c.index_of.ensures.value ∙ c.in_default.is))

pub loop-name-preserved : goal.loop-name-preserved
loop-name-preserved c =
    let ns = c.args.named.now in
    let asked = c.args.asked.now in
    let i = c.loop-name.name-index in
    let front : List (List ℕ × List ℕ) = map asked_of (take i asked) in
    let one : List ℕ × List ℕ = asked_of (get_or asked i words) in
    let targets : List (ℕ × List ℕ) = map target_of c.loop-name.targets.items in
    let more = asked_more asked i words c.loop-name-test.true in
    elim c.match-from_utf8.branch [
      | in-Ok+in_ok-push-in-Ok w ↦
          let grown = ap (λ (v : Vec Target Global). map target_of v.items) w.targets-is ∙ ap (map target_of) w.in_ok-push-in-Ok.ensures.items ∙ map-append target_of c.loop-name.targets.items (record { replica = c.in-Some.replica; directory = w.in-Ok.directory } ∷ []) in
          same_so_far ns (front ++ one ∷ []) (map asked_of (take (c.loop-name.name-index + 1) asked)) c.loop-name.is_text c.match-from_utf8.is_text (targets ++ (c.in-Some.replica, w.in-Ok.directory.now) ∷ []) (map target_of c.match-from_utf8.targets.items)
          (text_more ns front c.loop-name.is_text targets c.loop-name.invariant one c.in-Some.replica w.in-Ok.directory.now (sym c.in-Some.ensures.value) (is_utf8-from_IsUtf8 one.1 w.in-Ok.ensures.cases.1) (sym w.in-Ok.ensures.cases.0))
          more w.is_text-is grown
      | in-Err w ↦
          same_so_far ns (front ++ one ∷ []) (map asked_of (take (c.loop-name.name-index + 1) asked)) false c.match-from_utf8.is_text targets (map target_of c.match-from_utf8.targets.items)
          (other_more ns front c.loop-name.is_text targets c.loop-name.invariant one c.in-Some.replica (sym c.in-Some.ensures.value) (not_utf8 one.1 w.in-Err.ensures.cases.0))
          more w.is_text-is (ap (λ (v : Vec Target Global). map target_of v.items) w.targets-is)
    ]
