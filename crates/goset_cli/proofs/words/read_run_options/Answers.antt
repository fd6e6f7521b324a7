use Rattle.std.proofs.Common.{ap, ◌∙◌, List, [], ℕ, Option, map, sym, refl, codes, arith}
use Rattle.std.specs.Prelude.{unwrap_or}
use Rattle.std.specs.Str.Parse.{ParsesUnsigned, ExplainsUnsignedError, HasUnsignedDigitsIfOk}
use Rattle.clap.specs.Simple.{App}
use Rattle.clap.specs.Faults.{fault_of, is_simple_and_free}
use Rattle.goset_cli.specs.CommandLine.{all_ticks, edition_at, run_app}
use Rattle.goset_cli.proofs.Numbers.{count_read, flag_read, number_read, plain_flag, run_edition_option, ticks_option, values_are}
use Rattle.goset_cli.proofs.words.read_run_options.Goals as goal

pub returns-clause-edition : goal.returns-clause-edition
returns-clause-edition g c =
    let read = number_read run_app (codes "edition") 2 1 run_edition_option refl refl 1 (omega arith) (omega arith) (omega arith) c.in_ok-program.program c.in_ok-matches.matches (map g.S.AsStr.text c.args.words.now) c.in_ok-matches.ensures.parsed
    c.in_ok-program.ensures.app c.in_ok-program.ensures.plain c.in_ok-matches.ensures.matches _
    (λ bs r. ParsesUnsigned 8 10 bs r × ExplainsUnsignedError 10 bs r × HasUnsignedDigitsIfOk bs r) c.get_one.result
    c.get_one.ensures.none c.get_one.ensures.value (λ u x h. h.0) in
    c.edition_at.ensures ∙ ap edition_at (c.unwrap_or-edition.ensures ∙ read.0)

pub returns-clause-ticks : goal.returns-clause-ticks
returns-clause-ticks g c =
    let read = count_read run_app (codes "ticks") 0 ticks_option refl refl all_ticks c.in_ok-program.program c.in_ok-matches.matches (map g.S.AsStr.text c.args.words.now) c.in_ok-matches.ensures.parsed
    c.in_ok-program.ensures.app c.in_ok-program.ensures.plain c.in_ok-matches.ensures.matches _
    (λ bs r. ParsesUnsigned 64 10 bs r × ExplainsUnsignedError 10 bs r × HasUnsignedDigitsIfOk bs r) c.get_one-2.result
    c.get_one-2.ensures.none c.get_one-2.ensures.value (λ u x h. h.0) in
    c.unwrap_or-ticks.ensures ∙ read

pub returns-clause-plain : goal.returns-clause-plain
returns-clause-plain g c = flag_read run_app (codes "plain") 2 plain_flag refl refl c.in_ok-program.program c.in_ok-matches.matches (map g.S.AsStr.text c.args.words.now) c.in_ok-matches.ensures.parsed
    c.in_ok-program.ensures.app c.in_ok-program.ensures.plain c.in_ok-matches.ensures.matches c.get_flag.result c.get_flag.ensures.none c.get_flag.ensures.value c.get_flag.ensures.other

pub returns-clause-files : goal.returns-clause-files
returns-clause-files g c =
    c.in_ok-files.ensures ∙ ap (λ (o : Option (List (List ℕ))). unwrap_or o [])
    (values_are run_app (codes "file") refl c.in_ok-program.program c.in_ok-matches.matches (map g.S.AsStr.text c.args.words.now) c.in_ok-program.ensures.app c.in_ok-matches.ensures.matches)

pub returns-clause-refusals : goal.returns-clause-refusals
returns-clause-refusals g c =
    let app = c.in_ok-program.ensures.app in
    sym (ap (λ (a : App). fault_of a (map g.S.AsStr.text c.args.words.now)) app) ∙ c.in_ok-matches.ensures.kinds (ap is_simple_and_free app)
