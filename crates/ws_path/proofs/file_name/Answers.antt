use Rattle.std.proofs.Common.{sym, ap, ◌∙◌, refl, lit<}
use Rattle.ws_path.specs.Paths.{file_name, is_slash}
use Rattle.ws_path.proofs.Cuts.{after_last_none, after_last_at, lacks, around, behind}
use Rattle.ws_path.proofs.file_name.Goals as goal

pub returns-in-None : goal.returns-in-None
returns-in-None c = sym (after_last_none is_slash c.args.path.now (lacks 47 c.args.path.now c.in-None.ensures.cases (lit< tt)))

pub returns-in-Some : goal.returns-in-Some
returns-in-Some c =
    let front = c.in-Some.field-0-0.now in
    let back = c.in-Some.name.now in
    let cut = c.in-Some.ensures.cases in
    sym (ap file_name (around 47 c.args.path.now front back cut (lit< tt)) ∙ after_last_at is_slash front 47 back refl (behind 47 c.args.path.now front back cut (lit< tt)))
