use Rattle.std.proofs.Common.{ap, ◌∙◌, ◌≡◌, ◌≤◌, map, sym, refl, codes, arith}
use Rattle.std.specs.Prelude.{unwrap_or}
use Rattle.std.specs.Str.Parse.{ParsesUnsigned, ExplainsUnsignedError, HasUnsignedDigitsIfOk}
use Rattle.clap.specs.Simple.{App}
use Rattle.clap.specs.Faults.{fault_of, is_simple_and_free}
use Rattle.goset_cli.specs.CommandLine.{edition_at, goset, option_number, workers_of}
use Rattle.goset_cli.proofs.Numbers.{number_read, workers_option, edition_option}
use Rattle.goset_cli.proofs.words.read_options.Goals as goal

workers_read : (g : _) (c : goal.Joined-matches g) → (unwrap_or c.get_one.result 4 ≡ workers_of (map g.S.AsStr.text c.args.words.now))
    × (1 ≤ unwrap_or c.get_one.result 4) × (unwrap_or c.get_one.result 4 ≤ 64)
workers_read g c = number_read goset (codes "workers") 64 0 workers_option refl refl 4 (omega arith) (omega arith) (omega arith) c.in_ok-program.program c.in_ok-matches.matches (map g.S.AsStr.text c.args.words.now) c.in_ok-matches.ensures.parsed
    c.in_ok-program.ensures.app c.in_ok-program.ensures.plain c.in_ok-matches.ensures.matches _
    (λ bs r. ParsesUnsigned 8 10 bs r × ExplainsUnsignedError 10 bs r × HasUnsignedDigitsIfOk bs r) c.get_one.result
    c.get_one.ensures.none c.get_one.ensures.value (λ u x h. h.0)

edition_read : (g : _) (c : goal.Joined-matches g) → unwrap_or c.get_one-2.result 1 ≡ option_number goset (codes "edition") 1 (map g.S.AsStr.text c.args.words.now)
edition_read g c =
    let read = number_read goset (codes "edition") 2 1 edition_option refl refl 1 (omega arith) (omega arith) (omega arith) c.in_ok-program.program c.in_ok-matches.matches (map g.S.AsStr.text c.args.words.now) c.in_ok-matches.ensures.parsed
    c.in_ok-program.ensures.app c.in_ok-program.ensures.plain c.in_ok-matches.ensures.matches _
    (λ bs r. ParsesUnsigned 8 10 bs r × ExplainsUnsignedError 10 bs r × HasUnsignedDigitsIfOk bs r) c.get_one-2.result
    c.get_one-2.ensures.none c.get_one-2.ensures.value (λ u x h. h.0) in
    read.0

pub returns-clause-workers : goal.returns-clause-workers
returns-clause-workers g c = c.from.ensures ∙ (c.unwrap_or-workers.ensures ∙ (workers_read g c).0)

pub returns-clause-some : goal.returns-clause-some
returns-clause-some g c = let some = (workers_read g c).1 in omega (arith, some, c.from.ensures, c.unwrap_or-workers.ensures)

pub returns-clause-few : goal.returns-clause-few
returns-clause-few g c = let few = (workers_read g c).2 in omega (arith, few, c.from.ensures, c.unwrap_or-workers.ensures)

pub returns-clause-edition : goal.returns-clause-edition
returns-clause-edition g c = c.edition_at.ensures ∙ ap edition_at (c.unwrap_or-edition.ensures ∙ edition_read g c)

pub returns-clause-refusals : goal.returns-clause-refusals
returns-clause-refusals g c =
    let app = c.in_ok-program.ensures.app in
    sym (ap (λ (a : App). fault_of a (map g.S.AsStr.text c.args.words.now)) app) ∙ c.in_ok-matches.ensures.kinds (ap is_simple_and_free app)
