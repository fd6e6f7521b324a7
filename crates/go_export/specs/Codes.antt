-- By what proofs tell exports and summaries apart.
use Rattle.std.specs.Prelude.{◌≡◌, ℕ, List, refl}
use Rattle.std.specs.Coded.{Coded, code_by, coded_list, coded×, coded⊎}
use mathlib.Core.Logic.{◌⊎◌, inl, inr}
use Rattle.go_text.specs.contracts.edition.Edition as editions
use Rattle.go_text.specs.declared.edition.Edition.{Edition}
use Rattle.go_const.specs.contracts.constant.Const as constants
use Rattle.go_const.specs.declared.constant.Const.{Const}
use Rattle.go_types.specs.Codes.{bytes_code, type_code}
use Rattle.go_types.specs.Types.{Type'}
use Rattle.go_export.specs.Exports.{Export, constant, variable, function, type', Exports}
use Rattle.go_export.specs.Summaries.{Summary}

abbrev pub ExportTold : Type 0
ExportTold = (Type' × Const) ⊎ (Type' ⊎ ((List Type' × List Type') ⊎ Type'))

abbrev pub export_sum : Export → ExportTold
export_sum (constant t c) = inl (t, c)
export_sum (variable t) = inr (inl t)
export_sum (function parameters results) = inr (inr (inl (parameters, results)))
export_sum (type' t) = inr (inr (inr t))

abbrev pub export_of_sum : ExportTold → Export
export_of_sum (inl p) = constant p.0 p.1
export_of_sum (inr (inl t)) = variable t
export_of_sum (inr (inr (inl p))) = function p.0 p.1
export_of_sum (inr (inr (inr t))) = type' t

pub meant_same : (e : Export) → export_of_sum (export_sum e) ≡ e
meant_same (constant t c) = refl
meant_same (variable t) = refl
meant_same (function parameters results) = refl
meant_same (type' t) = refl

abbrev pub export_code : Coded Export
export_code =
    code_by ExportTold
    (coded⊎ (coded× type_code constants.the_row.coded) (coded⊎ type_code (coded⊎ (coded× (coded_list type_code) (coded_list type_code)) type_code)))
    export_sum export_of_sum meant_same

abbrev pub summary_code : Coded Summary
summary_code =
    code_by (Edition × (List ℕ × (List ℕ × Exports))) (coded× editions.the_row.coded (coded× bytes_code (coded× bytes_code (coded_list (coded× bytes_code export_code)))))
    (λ s. (s.edition, (s.path, (s.«package», s.exports)))) (λ p. record { edition = p.0; path = p.1.0; «package» = p.1.1.0; exports = p.1.1.1 }) (λ _. refl)
