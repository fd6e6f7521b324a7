use Rattle.std.proofs.Common.{ap, sym, ◌∙◌}
use Rattle.std.proofs.lemmas.Str.{is_utf8-from_IsUtf8}
use Rattle.ws_path.specs.Paths.{is_path}
use Rattle.ws_session.proofs.Utf8.{not_utf8, and_false, and_right}
use Rattle.ws_session.proofs.replicas.path_of.Goals as goal

pub returns-in-Err : goal.returns-in-Err
returns-in-Err c = and_false _ _ (not_utf8 c.args.word.now c.in-Err.ensures.cases.0)

pub returns-then-is_path : goal.returns-then-is_path
returns-then-is_path c =
    let same = c.in-Ok.ensures.cases.0 in
    (and_right _ _ _ (is_utf8-from_IsUtf8 c.args.word.now c.in-Ok.ensures.cases.1) (ap is_path (sym same) ∙ sym c.is_path.ensures ∙ c.if-is_path.true), same)
