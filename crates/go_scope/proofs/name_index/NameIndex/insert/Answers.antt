use Rattle.std.proofs.Common.{◌≡◌, ◌∷◌, [], is_some, map, List, ℕ, sym, ap, ◌∙◌, rules, length}
use Rattle.std.specs.Borrow.{Bor}
use Rattle.std.specs.Prelude.{position}
use Rattle.std.specs.Str.{bytes_eq}
use Rattle.std.proofs.lemmas.List.{map-append, length-map}
use Rattle.go_scope.proofs.Indexes.{first_added, first_kept}
use Rattle.go_scope.proofs.name_index.NameIndex.insert.Goals as goal

pub invariant_of-self-then-is_some : goal.invariant_of-self-then-is_some
invariant_of-self-then-is_some c =
    let names = map (λ (n : Bor (List ℕ)). n.now) c.self.inside.names.items in
    first_kept c.args.name names (map (λ n. n.now) c.push.new.self.items) c.self.inside.firsts.entries c.self.invariant
    (ap (λ l. is_some (position (bytes_eq c.args.name.now) l)) c.self.view_is ∙ ap is_some (sym c.get-first.ensures) ∙ sym c.is_some.ensures ∙ c.if-is_some.true)
    (ap (map (λ (n : Bor (List ℕ)). n.now)) c.in_ok-push.ensures.items ∙ map-append (λ (n : Bor (List ℕ)). n.now) c.self.inside.names.items (c.args.name ∷ []))

pub invariant_of-self-in-Ok : goal.invariant_of-self-in-Ok
invariant_of-self-in-Ok c =
    let number : c.len-number.result ≡ length c.self.inside.names.items = search rules in
    let names = map (λ (n : Bor (List ℕ)). n.now) c.self.inside.names.items in
    first_added c.self.inside.firsts c.args.name c.len-number.result names (map (λ n. n.now) c.push.new.self.items) c.insert.new.self.entries c.self.invariant
    (ap (λ l. is_some (position (bytes_eq c.args.name.now) l)) c.self.view_is ∙ ap is_some (sym c.get-first.ensures) ∙ sym c.is_some.ensures ∙ c.if-is_some.false)
    (number ∙ sym (length-map c.self.inside.names.items (λ (n : Bor (List ℕ)). n.now)))
    c.in-Ok.ensures.entries
    (ap (map (λ (n : Bor (List ℕ)). n.now)) c.in_ok-push.ensures.items ∙ map-append (λ (n : Bor (List ℕ)). n.now) c.self.inside.names.items (c.args.name ∷ []))
