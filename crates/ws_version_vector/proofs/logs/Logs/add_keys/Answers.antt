use Rattle.std.proofs.Common.{◌≡◌, [], List, map, ap, ◌∙◌, subst}
use Rattle.std.specs.Prelude.{Result, Ok, Err, IfOk}
use Rattle.std.proofs.lemmas.List.{get_or_default}
use Rattle.ws_version_vector.specs.Keyed.{Log, log_at, HasKeys}
use Rattle.ws_version_vector.proofs.logs.Logs.add_keys.Goals as goal

if_ok : {A E : Type 0} {P Q : A → Type 0} (r : Result A E) → ((a : A) → P a → Q a) → IfOk r P → IfOk r Q
if_ok (Ok a) f h = f a h
if_ok (Err e) f h = tt

pub returns-in-Some-clause-all : goal.returns-in-Some-clause-all
returns-in-Some-clause-all c =
    let log : Log = c.in-Some.log.now in
    let look = c.in-Some.ensures.lookup in
    let read : log ≡ log_at c.args.at c.args.self.now = look.1 ∙ get_or_default c.deref.result.now c.args.at log (0, []) look.3.0 ∙ ap (λ (logs : List Log). log_at c.args.at logs) (c.deref.ensures.value ∙ c.self.view_is) in
    if_ok c.add_keys.result (λ all h e. subst (λ (l : Log). HasKeys l c.args.from c.args.to (map (λ k. k.now) c.add_keys.new.keys.items)) read (h e)) c.add_keys.ensures.all
