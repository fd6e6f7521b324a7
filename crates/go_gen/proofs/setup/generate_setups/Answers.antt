use Rattle.std.proofs.Common.{◌≡◌, ◌+◌, ◌++◌, ◌∷◌, [], Some, None, refl, sym, ap, ◌∙◌, drop, length, map, get_or}
use Rattle.std.specs.Prelude.{slice_get}
use Rattle.std.proofs.lemmas.List.{drop_more}
use Rattle.std.proofs.lemmas.Option.{slice_get_past, slice_get_read}
use Rattle.go_gen.proofs.Listed.{setup, listed, one_listed, none_listed}
use Rattle.go_gen.proofs.setup.generate_setups.Goals as goal
use Rattle.go_gen.proofs.setup.generate_setups.Goals.{in-Some+in_ok-generate_setup+in_ok-push, in_default}

pub loop-index-preserved : goal.loop-index-preserved
loop-index-preserved c =
    let path = c.args.path.now in
    let is = c.args.initializations.now in
    let order = c.args.order.now in
    let n = c.loop-index.index-index in
    let made = c.loop-index.made.items in
    let k = get_or order n 0 in
    let rest = drop (n + 1) order in
    let whole = ap (λ ks. made ++ map (setup path) (listed is ks)) (sym (drop_more order n 0 c.loop-index-test.true)) ∙ c.loop-index.invariant in
    elim c.match-get.branch [
      | in-Some+in_ok-generate_setup+in_ok-push w ↦ (
          let i = w.in-Some.initialization.now in
          let found : slice_get is k ≡ Some i = slice_get_read is (length is) k i refl w.in-Some.ensures.lookup.3.0 w.in-Some.ensures.lookup.1 in
          ap (λ m. m.items ++ map (setup path) (listed is rest)) w.made-is
          ∙ ap (λ l. l ++ map (setup path) (listed is rest)) (w.in_ok-push.ensures.items ∙ ap (λ s. made ++ s ∷ []) w.in_ok-generate_setup.ensures)
          ∙ one_listed path is made k rest i found ∙ whole)
      | in_default w ↦ (
          let past : slice_get is k ≡ None = slice_get_past is k w.in_default.ensures.lookup.3 in
          ap (λ m. m.items ++ map (setup path) (listed is rest)) w.made-is ∙ none_listed path is made k rest past ∙ whole)
    ]
