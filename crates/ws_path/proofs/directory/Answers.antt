use Rattle.std.proofs.Common.{sym, ap, ◌∙◌, refl, lit<}
use Rattle.ws_path.specs.Paths.{directory, is_slash}
use Rattle.ws_path.proofs.Cuts.{before_last_none, before_last_at, lacks, around, behind}
use Rattle.ws_path.proofs.directory.Goals as goal

pub returns-in-None : goal.returns-in-None
returns-in-None c = sym (before_last_none is_slash c.args.path.now (lacks 47 c.args.path.now c.in-None.ensures.cases (lit< tt)))

pub returns-in-Some : goal.returns-in-Some
returns-in-Some c =
    let front = c.in-Some.directory.now in
    let back = c.in-Some.field-0-1.now in
    let cut = c.in-Some.ensures.cases in
    sym (ap directory (around 47 c.args.path.now front back cut (lit< tt)) ∙ before_last_at is_slash front 47 back refl (behind 47 c.args.path.now front back cut (lit< tt)))
