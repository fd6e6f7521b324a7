use Rattle.std.proofs.Common.{◌≡◌, drop}
use Rattle.std.specs.List.{find}
use Rattle.std.specs.Str.{bytes_eq}
use Rattle.go_scan.specs.Keywords.{spelling}
use Rattle.go_scan.specs.Fronts.{keyword_in}
use Rattle.go_scan.proofs.keyword.keyword_of.Given as goal

abbrev pub invariant-loop-keyword : goal.invariant-loop-keyword
invariant-loop-keyword l = find (λ k. bytes_eq (spelling k) l.word) (drop l.keyword-index l.keyword-items) ≡ keyword_in l.word
