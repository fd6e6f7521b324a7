use Rattle.std.proofs.Common.{◌≡◌, ◌++◌, true, false, rules, arith, map}
use Rattle.std.proofs.lemmas.Grind.{common_steps}
use Rattle.go_diagnostics.specs.Packages.{lies_in_directory}
use Rattle.go_diagnostics.proofs.Packages.{all_taken, passed, taken}
use Rattle.go_diagnostics.proofs.package.package_names.Goals as goal
use Rattle.go_diagnostics.proofs.package.package_names.Goals.{then-eq+in_ok-more+in_ok-extend_from_slice, else-eq}

pub loop-file-preserved : goal.loop-file-preserved
loop-file-preserved c = elim c.if-eq.branch [
  | then-eq+in_ok-more+in_ok-extend_from_slice w ↦
      let is : lies_in_directory c.args.directory.now c.file-item.result ≡ true = first_of (search rules, grind (arith, common_steps)) in
      let grows : map (λ name. name.now) c.if-eq.names.items ≡ map (λ name. name.now) c.loop-file.names.items ++ map (λ name. name.now) w.in_ok-more.more.items =
      first_of (search rules, grind (arith, common_steps)) in
      taken c.args.directory.now c.args.files.now c.loop-file.file-index c.file-item.result (map (λ name. name.now) c.loop-file.names.items)
      (map (λ name. name.now) w.in_ok-more.more.items) (map (λ name. name.now) c.if-eq.names.items) (omega arith) c.file-item.is is
      w.in_ok-more.ensures grows c.loop-file.invariant
  | else-eq w ↦
      let isnt : lies_in_directory c.args.directory.now c.file-item.result ≡ false = first_of (search rules, grind (arith, common_steps)) in
      let same : map (λ name. name.now) c.if-eq.names.items ≡ map (λ name. name.now) c.loop-file.names.items =
      first_of (search rules, grind (arith, common_steps)) in
      passed c.args.directory.now c.args.files.now c.loop-file.file-index c.file-item.result (map (λ name. name.now) c.loop-file.names.items)
      (map (λ name. name.now) c.if-eq.names.items) (omega arith) c.file-item.is isnt same c.loop-file.invariant
]

pub returns : goal.returns
returns c = all_taken c.args.directory.now c.args.files.now c.loop-file.file-index (map (λ name. name.now) c.loop-file.names.items) (omega arith) c.loop-file.invariant
