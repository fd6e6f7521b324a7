use Rattle.std.proofs.Common.{rules, ap, ap₂, ◌∙◌, ◌≡◌, codes, true, [], subst, sym}
use Rattle.std.proofs.lemmas.Result.{IfOk-weaker}
use Rattle.clap.specs.Simple.{app_of, app_of_fields, on_top, with_rule}
use Rattle.clap.specs.declared.builder.value_parser.ValueParser.TheVariants.{Unsigned}
use Rattle.std.specs.List.{All}
use Rattle.std.proofs.lemmas.List.Elements.{All-nil}
use Rattle.clap.specs.Facts.{args_of, groups_of}
use Rattle.clap.specs.Built.{IsPlain, IsPlainArg}
use Rattle.clap.proofs.CallerLemmas.{added_plain}
use Rattle.goset_cli.specs.CommandLine.{all_ticks, value_option, versioned}
use Rattle.goset_cli.proofs.words.run_command.Goals as goal

pub returns : goal.returns
returns c =
    let any : c.value_parser.result ≡ Unsigned 0 all_ticks = search rules in
    let ticks_is = c.option-ticks.ensures.rule ∙ ap (value_option (codes "ticks")) any in
    let named = ap app_of_fields c.in_ok-bin_name.ensures.0 ∙ c.new.ensures.app in
    let start_is : app_of c.about.result ≡ versioned (codes "goset") =
    ap app_of_fields c.about.ensures ∙ (ap app_of_fields c.version.ensures ∙ ap (on_top (λ top. record top { has_version = true })) named) in
    let no_args : args_of c.about.result ≡ [] = search rules in
    let no_groups : groups_of c.about.result ≡ [] = search rules in
    let start_plain : IsPlain c.about.result = (subst (All IsPlainArg) (sym no_args) (All-nil IsPlainArg), no_groups) in
    let ticks_plain = added_plain _ _ _ c.in_ok-arg.ensures start_plain c.option-ticks.ensures.plain in
    let edition_plain = added_plain _ _ _ c.in_ok-arg-2.ensures ticks_plain c.edition_option.ensures.plain in
    let plain_plain = added_plain _ _ _ c.in_ok-arg-3.ensures edition_plain c.plain_option.ensures.plain in
    let with_ticks = c.in_ok-arg.ensures.shape c.option-ticks.ensures.local ∙ ap₂ with_rule start_is ticks_is in
    let with_edition = c.in_ok-arg-2.ensures.shape c.edition_option.ensures.local ∙ ap₂ with_rule with_ticks c.edition_option.ensures.rule in
    let with_plain = c.in_ok-arg-3.ensures.shape c.plain_option.ensures.local ∙ ap₂ with_rule with_edition c.plain_option.ensures.rule in
    record {
      app = IfOk-weaker c.arg-4.result _ _ (λ command h. h.shape c.file_argument.ensures.local ∙ ap₂ with_rule with_plain c.file_argument.ensures.rule) c.arg-4.ensures;
      plain = IfOk-weaker c.arg-4.result _ _ (λ command h. added_plain _ _ _ h plain_plain c.file_argument.ensures.plain) c.arg-4.ensures;
    }
