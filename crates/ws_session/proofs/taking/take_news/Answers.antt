use Rattle.std.proofs.Common.{List, ℕ, sym, subst}
use Rattle.ws_register.specs.News.{HasNewsAt}
use Rattle.ws_session.specs.Representation.{IsBrought}
use Rattle.ws_session.proofs.Standings.{on_ok_map}
use Rattle.ws_session.proofs.taking.take_news.Goals as goal

pub returns-in-None : goal.returns-in-None
returns-in-None c =
    on_ok_map c.merge_news.result (λ stands V W E F written compiled h k. stands V W E F (subst (λ paths. IsBrought c.args.writes paths V W) c.in-None.is written) compiled h k) c.merge_news.ensures.stands

pub returns-in-Some : goal.returns-in-Some
returns-in-Some c =
    on_ok_map c.merge_at.result (λ stands V W E F written compiled h k.
    let at = subst (λ paths. IsBrought c.args.writes paths V W) c.in-Some.is written in
    stands V W E F (subst (λ (paths : List (List ℕ)). HasNewsAt paths V W) (sym c.as_slice.ensures.value) at) compiled h k) c.merge_at.ensures.stands
