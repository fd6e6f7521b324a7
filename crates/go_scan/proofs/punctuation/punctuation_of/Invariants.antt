use Rattle.std.proofs.Common.{◌≡◌, drop}
use Rattle.std.specs.List.{find}
use Rattle.std.specs.Str.{bytes_eq}
use Rattle.go_scan.specs.Punctuations.{punctuation_spelling}
use Rattle.go_scan.specs.Fronts.{punctuation_in}
use Rattle.go_scan.proofs.punctuation.punctuation_of.Given as goal

abbrev pub invariant-loop-punctuation : goal.invariant-loop-punctuation
invariant-loop-punctuation l = find (λ p. bytes_eq (punctuation_spelling p) l.word) (drop l.punctuation-index l.punctuation-items) ≡ punctuation_in l.word
