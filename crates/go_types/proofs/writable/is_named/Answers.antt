use Rattle.std.proofs.Common.{rules, ◌≡◌, false, Decides}
use Rattle.std.proofs.lemmas.Bool.Decides.{Decides-like}
use Rattle.go_types.specs.Texts.{Lacks}
use Rattle.go_types.proofs.Spelled.{spelled, no_path, no_name}
use Rattle.go_types.proofs.writable.is_named.Goals as goal
use Rattle.go_types.proofs.writable.is_named.Goals.{then-not-is_plain-via-then-not-is_plain, then-not-is_plain-via-else-not-is_plain+then-not-is_plain-2}

pub returns-then-not-is_plain : goal.returns-then-not-is_plain
returns-then-not-is_plain c = elim c.then-not-is_plain.branch [
  | then-not-is_plain-via-then-not-is_plain w ↦ (
      let refused : c.is_plain.result ≡ false = search rules in
      let tells : Decides c.is_plain.result (Lacks 32 c.args.path.now × Lacks 125 c.args.path.now) = search rules in
      no_path c.args.path.now c.args.name.now c.is_plain.result tells refused)
  | then-not-is_plain-via-else-not-is_plain+then-not-is_plain-2 w ↦ (
      let refused : w.is_plain-else-not-is_plain.result ≡ false = search rules in
      let tells : Decides w.is_plain-else-not-is_plain.result (Lacks 32 c.args.name.now × Lacks 125 c.args.name.now) = search rules in
      no_name c.args.path.now c.args.name.now w.is_plain-else-not-is_plain.result tells refused)
]

pub returns : goal.returns
returns c =
    let p : Lacks 32 c.args.path.now × Lacks 125 c.args.path.now = search rules in
    let n : Lacks 32 c.args.name.now × Lacks 125 c.args.name.now = search rules in
    let tells : Decides c.lacks.result (Lacks 46 c.args.name.now) = search rules in
    Decides-like c.lacks.result (λ dot. spelled c.args.path.now c.args.name.now (p, n, dot)) (λ h. h.2) tells
