use Rattle.std.proofs.Common.{ap, ◌∙◌, ◌≡◌, ◌≤◌, map, sym, refl, codes, arith, Bor, List, [], ℕ, Option, None, Some}
use Rattle.std.specs.Prelude.{unwrap_or, option_map}
use Rattle.std.specs.Str.Parse.{ParsesUnsigned, ExplainsUnsignedError, HasUnsignedDigitsIfOk}
use Rattle.clap.specs.Simple.{App}
use Rattle.clap.specs.Faults.{fault_of, is_simple_and_free}
use Rattle.goset_cli.specs.CommandLine.{edition_at, keep, keep_workers_of}
use Rattle.goset_cli.proofs.Numbers.{keep_edition_option, keep_workers_option, named_read, number_read, text_read_of}
use Rattle.goset_cli.proofs.words.read_keep_options.Goals as goal

workers_read : (g : _) (c : goal.Joined-matches g) → (unwrap_or c.get_one.result 4 ≡ keep_workers_of (map g.S.AsStr.text c.args.words.now))
    × (1 ≤ unwrap_or c.get_one.result 4) × (unwrap_or c.get_one.result 4 ≤ 64)
workers_read g c = number_read keep (codes "workers") 64 1 keep_workers_option refl refl 4 (omega arith) (omega arith) (omega arith) c.in_ok-program.program c.in_ok-matches.matches (map g.S.AsStr.text c.args.words.now) c.in_ok-matches.ensures.parsed
    c.in_ok-program.ensures.app c.in_ok-program.ensures.plain c.in_ok-matches.ensures.matches _
    (λ bs r. ParsesUnsigned 8 10 bs r × ExplainsUnsignedError 10 bs r × HasUnsignedDigitsIfOk bs r) c.get_one.result
    c.get_one.ensures.none c.get_one.ensures.value (λ u x h. h.0)

-- what a text has, where there is one
now_or : (o : Option (Bor (List ℕ))) (none : Bor (List ℕ)) → (unwrap_or o none).now ≡ unwrap_or (option_map (λ v. v.now) o) none.now
now_or None none = refl
now_or (Some text) none = refl

pub returns-clause-name : goal.returns-clause-name
returns-clause-name g c =
    ap (λ (v : Bor (List ℕ)). v.now) c.unwrap_or.ensures
    ∙ (now_or c.get_str.result _
    ∙ ap (λ (o : Option (List ℕ)). unwrap_or o [])
    (c.get_str.ensures ∙ text_read_of keep (codes "keep") refl c.in_ok-program.program c.in_ok-matches.matches (map g.S.AsStr.text c.args.words.now) c.in_ok-program.ensures.app c.in_ok-matches.ensures.matches))

pub returns-clause-workers : goal.returns-clause-workers
returns-clause-workers g c = c.from.ensures ∙ (c.unwrap_or-workers.ensures ∙ (workers_read g c).0)

pub returns-clause-some : goal.returns-clause-some
returns-clause-some g c = let some = (workers_read g c).1 in omega (arith, some, c.from.ensures, c.unwrap_or-workers.ensures)

pub returns-clause-few : goal.returns-clause-few
returns-clause-few g c = let few = (workers_read g c).2 in omega (arith, few, c.from.ensures, c.unwrap_or-workers.ensures)

pub returns-clause-edition : goal.returns-clause-edition
returns-clause-edition g c =
    c.named_edition.ensures ∙ ap (option_map edition_at)
    (named_read keep (codes "edition") 2 2 keep_edition_option refl refl (omega arith) c.in_ok-program.program c.in_ok-matches.matches (map g.S.AsStr.text c.args.words.now) c.in_ok-matches.ensures.parsed
    c.in_ok-program.ensures.app c.in_ok-program.ensures.plain c.in_ok-matches.ensures.matches _
    (λ bs r. ParsesUnsigned 8 10 bs r × ExplainsUnsignedError 10 bs r × HasUnsignedDigitsIfOk bs r) c.get_one-2.result
    c.get_one-2.ensures.none c.get_one-2.ensures.value (λ u x h. h.0))

pub returns-clause-expected : goal.returns-clause-expected
returns-clause-expected g c =
    c.get_str-2.ensures ∙ text_read_of keep (codes "expect") refl c.in_ok-program.program c.in_ok-matches.matches (map g.S.AsStr.text c.args.words.now) c.in_ok-program.ensures.app c.in_ok-matches.ensures.matches

pub returns-clause-refusals : goal.returns-clause-refusals
returns-clause-refusals g c =
    let app = c.in_ok-program.ensures.app in
    sym (ap (λ (a : App). fault_of a (map g.S.AsStr.text c.args.words.now)) app) ∙ c.in_ok-matches.ensures.kinds (ap is_simple_and_free app)
