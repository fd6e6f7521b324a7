use Rattle.std.proofs.Common.{◌++◌, List, ℕ, length, sym, ap, ◌∙◌, append-nil}
use Rattle.std.proofs.lemmas.Slice.Zip.{zip_end}
use Rattle.ws_session.proofs.Lines.{lines_end}
use Rattle.ws_session.proofs.replicas.all_lines.Goals as goal

pub returns : goal.returns
returns c =
    let targets = c.args.targets.now in
    let reports = c.args.reports.now in
    let told : List ℕ = c.loop-target.told.items in
    let finish = zip_end targets reports c.loop-target.yielded c.into_iter-target-iterator.result c.loop-target.target-iterator c.next.new.self c.next.result (cc) (cc) c.loop-target.yielded_by c.in-None.is c.next.ensures.steps in
    sym (append-nil told) ∙ ap (λ (l : List ℕ). told ++ l) (sym (lines_end c.args.named.now targets reports (length c.loop-target.yielded) finish)) ∙ c.loop-target.invariant
