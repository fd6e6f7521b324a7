use Rattle.std.proofs.Common.{rules, ap, ◌∙◌, leb}
use borrow.Author.Tests.{tests}
use Rattle.std.proofs.lemmas.Iterator.Consumers.{count_from_yields_List}
use Rattle.std.proofs.lemmas.Iterator.Splits.{YieldsList-from_slice_split}
use Rattle.ws_path.specs.Paths.{is_slash}
use Rattle.ws_path.proofs.has_two_elements.Goals as goal

pub returns : goal.returns
returns c = ap (leb 2) (count_from_yields_List _ _ c.count.ensures.ran (YieldsList-from_slice_split _ is_slash c.args.path.now (c.split.ensures.rest ∙ c.as_bytes.ensures.value) c.split.ensures.done c.split.ensures.closure (λ x r q k. search (rules, tests))))
