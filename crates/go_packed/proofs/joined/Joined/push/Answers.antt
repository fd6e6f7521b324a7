use Rattle.std.proofs.Common.{rules, ◌∙◌, List, ℕ, [], ◌∷◌, ◌++◌, length, ap, string_bytes, IsUtf8}
use Rattle.go_packed.proofs.Cuts.{pushed}
use Rattle.go_packed.proofs.joined.Joined.push.Goals as goal

pub invariant_of-self-2 : goal.invariant_of-self-2
invariant_of-self-2 c =
    let name = c.args.name.now in
    let utf8 : IsUtf8 name = search rules in
    (pushed c.self.inside.lengths.items (string_bytes c.self.inside.text) name c.push_reserved.new.self.items (string_bytes c.push_str.new.self)
    (c.push_reserved.ensures.items ∙ ap (λ (l : List ℕ). l ++ length name ∷ []) c.in_ok-reserve.ensures.items) c.in_ok-push_str.ensures.bytes c.self.invariant utf8).0

pub returns : goal.returns
returns c =
    let name = c.args.name.now in
    let utf8 : IsUtf8 name = search rules in
    (pushed c.self.inside.lengths.items (string_bytes c.self.inside.text) name c.push_reserved.new.self.items (string_bytes c.push_str.new.self)
    (c.push_reserved.ensures.items ∙ ap (λ (l : List ℕ). l ++ length name ∷ []) c.in_ok-reserve.ensures.items) c.in_ok-push_str.ensures.bytes c.self.invariant utf8).1
    ∙ ap (λ (xs : List (List ℕ)). xs ++ name ∷ []) c.self.view_is
