use Rattle.std.proofs.Common.{◌≡◌, ◌<◌, ◌∙◌, ℕ, List, cond, length, count_by, ap, sym, subst, arith}
use Rattle.std.proofs.Math.ListN.{set}
use Rattle.std.proofs.lemmas.List.{get_or_read}
use Rattle.ws_board.specs.declared.table.Row.{Row}
use Rattle.ws_board.specs.Machine.{is_open}
use Rattle.ws_board.specs.Table.{blank, row_at, job_states_of}
use Rattle.ws_board.proofs.Standing.{opens_stood, opens_some, opens_few}
use Rattle.ws_board.proofs.table.Table.open_with.Goals as goal

pub recounted-requires-clause-some : goal.recounted-requires-clause-some
recounted-requires-clause-some c = λ hit.
    (let R = c.self.inside.rows.items in
    let k = c.args.k in
    let inside : k < length R = subst (λ (l : List Row). k < length l) (sym c.self.view_is) c.requires in
    let row : c.index.result.now ≡ row_at R k = get_or_read R _ _ inside c.index.ensures blank in
    let some = opens_some R k inside (ap (λ (r : Row). is_open r.status) (sym row) ∙ sym c.is_open.ensures ∙ hit) in
    omega (arith, some, c.self.invariant))

pub recounted-requires-clause-room : goal.recounted-requires-clause-room
recounted-requires-clause-room c =
    let R = c.self.inside.rows.items in
    omega (arith, opens_few R, c.self.invariant, c.self.inside.rows.ok.0, c.self.inside.rows.ok.1, c.self.inside.rows.small)

pub returns : goal.returns
returns c =
    let R = c.self.inside.rows.items in
    let k = c.args.k in
    let inside : k < length R = subst (λ (l : List Row). k < length l) (sym c.self.view_is) c.requires in
    let row : c.index.result.now ≡ row_at R k = get_or_read R _ _ inside c.index.ensures blank in
    let was : ◌≡◌ {A = ℕ} (cond c.is_open.result 1 0) (cond (is_open (row_at R k).status) 1 0) = ap (λ b. cond b 1 0) (c.is_open.ensures ∙ ap (λ (r : Row). is_open r.status) row) in
    let now : ◌≡◌ {A = ℕ} (cond c.is_open-2.result 1 0) (cond (is_open c.args.status) 1 0) = ap (λ b. cond b 1 0) c.is_open-2.ensures in
    let count : c.recounted.result ≡ count_by is_open (set (job_states_of R).statuses k c.args.status) = omega (arith, opens_stood R k c.args.status inside, c.recounted.ensures, c.self.invariant, was, now) in
    count ∙ ap (λ (l : List Row). count_by is_open (set (job_states_of l).statuses k c.args.status)) c.self.view_is
