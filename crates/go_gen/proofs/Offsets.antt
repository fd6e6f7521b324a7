-- How many cells lie before the fields of a struct, field by field.
use Rattle.std.proofs.Common.{◌≡◌, ℕ, ◌+◌, ◌<◌, List, [], ◌∷◌, ◌++◌, length, slice_index, refl, sym, ap, ◌∙◌, inl, inr, arith}
use Rattle.std.proofs.Math.ListN.{get_or-append}
use Rattle.std.proofs.lemmas.Bool.{cases_eq}
use Rattle.std.proofs.lemmas.List.{get_or_push}
use Rattle.go_types.specs.Types.{Fields, no_fields, field}
use Rattle.go_gen.specs.Translation.{field_offset}

none_before : (fs : Fields) → field_offset fs 0 ≡ 0
none_before no_fields = refl
none_before (field p x t fs) = refl

pub offsets_next : (fs rest : Fields) (offsets offsets' : List ℕ) (before i : ℕ) → offsets' ≡ offsets ++ before ∷ [] → length offsets ≡ i → before + field_offset rest 0 ≡ field_offset fs (i + 0)
    → ((n : ℕ) → n < i → slice_index offsets n ≡ field_offset fs n) → (n : ℕ) → n < i + 1 → slice_index offsets' n ≡ field_offset fs n
offsets_next fs rest offsets offsets' before i pushed size here at n lt = elim (cases_eq n i) [
  | inl same ↦ (
      let last : slice_index offsets' n ≡ before = ap (λ (l : List ℕ). slice_index l n) pushed ∙ get_or_push offsets before 0 n (size ∙ sym same) in
      let whole : before ≡ before + field_offset rest 0 = (let none = none_before rest in omega (arith, none)) in
      let place : i + 0 ≡ n = omega (arith, same) in
      last ∙ whole ∙ here ∙ ap (field_offset fs) place)
  | inr ne ↦ (
      let less : n < i = omega (arith, lt, ne) in
      ap (λ (l : List ℕ). slice_index l n) pushed ∙ get_or-append offsets (before ∷ []) 0 n (omega (arith, less, size)) ∙ at n less)
]
