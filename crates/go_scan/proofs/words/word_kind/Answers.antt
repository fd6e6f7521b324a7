use Rattle.std.proofs.Common.{sym, ap}
use Rattle.go_scan.specs.Fronts.{word_kind}
use Rattle.go_scan.proofs.Keys.{no_keyword_in, keyword_some}
use Rattle.go_scan.proofs.words.word_kind.Goals as goal

pub returns-in-None : goal.returns-in-None
returns-in-None c = ap word_kind (sym (no_keyword_in c.args.word.now (c.keyword_of.ensures.none c.in-None.is)))

pub returns-in-Some : goal.returns-in-Some
returns-in-Some c = ap word_kind (sym (keyword_some c.args.word.now c.in-Some.keyword c.in-Some.ensures.some))
