-- The order of actions is total, and actions that it ties are one.
use Rattle.std.specs.Prelude.{◌≡◌, ℕ, List}
use Rattle.std.specs.Ordering.{nat_cmp, ordering_then}
use Rattle.std.specs.Cmp.{IsTotalOrder, nat_cmp_total}
use Rattle.std.specs.Cmp.Lexicographic.{slice_cmp}
use Rattle.std.specs.FinMap.{IsAntisymmetric, nat_cmp-IsAntisymmetric, slice_cmp-IsAntisymmetric}
use Rattle.std.proofs.lemmas.Cmp.{on_total, then_total, lists_total, nat_list_cmp_total}
use Rattle.std.proofs.lemmas.Map.Lookups.{exact_pairs, exact_bytes}
use Rattle.std.proofs.Common.{ap, ◌∙◌}
use Rattle.go_text.specs.declared.edition.Edition.{Edition}
use Rattle.go_text.specs.Editions.{edition_number}
use Rattle.ws_action.proofs.Editions.{one_number}
use Rattle.ws_action.specs.Actions.{Named, text_cmp, named_cmp, import_cmp, contents_cmp, action_cmp}

named_cmp_total : IsTotalOrder named_cmp
named_cmp_total = then_total (on_total (λ n. n.0) nat_list_cmp_total) (on_total (λ n. n.1) nat_list_cmp_total)

import_cmp_total : IsTotalOrder import_cmp
import_cmp_total = then_total (on_total (λ n. n.1) nat_list_cmp_total) (on_total (λ n. n.0) nat_list_cmp_total)

pub action_cmp_total : IsTotalOrder action_cmp
action_cmp_total =
    then_total (on_total (λ a. edition_number a.edition) nat_cmp_total)
    (then_total (on_total (λ a. a.path) nat_list_cmp_total)
    (then_total (on_total (λ a. a.files) (lists_total named_cmp_total)) (on_total (λ a. a.imports) (lists_total import_cmp_total))))

named_cmp-IsAntisymmetric : IsAntisymmetric named_cmp
named_cmp-IsAntisymmetric = exact_pairs text_cmp text_cmp exact_bytes exact_bytes

import_cmp-IsAntisymmetric : IsAntisymmetric import_cmp
import_cmp-IsAntisymmetric m n e =
    let turned : ◌≡◌ {A = Named} (m.1, m.0) (n.1, n.0) = exact_pairs text_cmp text_cmp exact_bytes exact_bytes (m.1, m.0) (n.1, n.0) e in
    ap (λ (p : Named). (p.1, p.0)) turned

pub action_cmp-IsAntisymmetric : IsAntisymmetric action_cmp
action_cmp-IsAntisymmetric a b e =
    let files = slice_cmp-IsAntisymmetric named_cmp-IsAntisymmetric in
    let imports = slice_cmp-IsAntisymmetric import_cmp-IsAntisymmetric in
    let parts : ◌≡◌ {A = ℕ × (List ℕ × (List Named × List Named))} (edition_number a.edition, (a.path, (a.files, a.imports))) (edition_number b.edition, (b.path, (b.files, b.imports))) =
    exact_pairs nat_cmp (λ p q. ordering_then (text_cmp p.0 q.0) (contents_cmp p.1 q.1)) nat_cmp-IsAntisymmetric
    (exact_pairs text_cmp contents_cmp exact_bytes (exact_pairs (slice_cmp named_cmp) (slice_cmp import_cmp) files imports))
    (edition_number a.edition, (a.path, (a.files, a.imports))) (edition_number b.edition, (b.path, (b.files, b.imports))) e in
    let edition = one_number a.edition b.edition (ap (λ (p : ℕ × (List ℕ × (List Named × List Named))). p.0) parts) in
    ap (λ (n : Edition). record { edition = n; path = a.path; files = a.files; imports = a.imports }) edition
    ∙ ap (λ (p : ℕ × (List ℕ × (List Named × List Named))). record { edition = b.edition; path = p.1.0; files = p.1.1.0; imports = p.1.1.1 }) parts
