use Rattle.std.proofs.Common.{◌∙◌}
use Rattle.std.proofs.lemmas.Str.{is_utf8-from_IsUtf8}
use Rattle.ws_session.proofs.Utf8.{not_utf8, and_false, made_path}
use Rattle.ws_session.proofs.replicas.file_path_of.Goals as goal

pub returns-in-Err : goal.returns-in-Err
returns-in-Err c = and_false _ _ (not_utf8 c.args.word.now c.in-Err.ensures.cases.0)

pub returns-in_ok-text-in-Ok : goal.returns-in_ok-text-in-Ok
returns-in_ok-text-in-Ok c =
    made_path c.args.word.now _ c.new.result (is_utf8-from_IsUtf8 c.args.word.now c.in-Ok.ensures.cases.1) (c.in_ok-text-in-Ok.ensures.ok ∙ c.in-Ok.ensures.cases.0)
    c.new.ensures.path c.new.ensures.allowed c.new.ensures.refused
