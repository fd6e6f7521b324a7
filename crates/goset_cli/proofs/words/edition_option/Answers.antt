use Rattle.std.proofs.Common.{rules, ap, ◌∙◌, ◌≡◌, codes}
use Rattle.std.specs.Prelude.{pos}
use Rattle.clap.specs.declared.builder.value_parser.ValueParser.TheVariants.{Signed}
use Rattle.goset_cli.specs.CommandLine.{value_option}
use Rattle.goset_cli.proofs.words.edition_option.Goals as goal

pub returns : goal.returns
returns c =
    let most_2 : c.range.result ≡ Signed (pos 1) (pos 2) = rw (c.value_parser.ensures, c.new.ensures.start, c.new.ensures.end) at c.range.ensures in
    record {
      rule = c.option.ensures.rule ∙ ap (value_option (codes "edition")) most_2;
      plain = search rules;
      local = search rules;
    }
