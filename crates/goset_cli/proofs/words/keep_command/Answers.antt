use Rattle.std.proofs.Common.{rules, ap, ap₂, ◌∙◌, ◌≡◌, codes, true, [], subst, sym}
use Rattle.std.proofs.lemmas.Result.{IfOk-weaker}
use Rattle.clap.specs.Simple.{app_of, app_of_fields, on_top, with_rule}
use Rattle.std.specs.List.{All}
use Rattle.std.proofs.lemmas.List.Elements.{All-nil}
use Rattle.clap.specs.Facts.{args_of, groups_of}
use Rattle.clap.specs.Built.{IsPlain, IsPlainArg}
use Rattle.clap.proofs.CallerLemmas.{added_plain}
use Rattle.goset_cli.specs.CommandLine.{versioned}
use Rattle.goset_cli.proofs.words.keep_command.Goals as goal

pub returns : goal.returns
returns c =
    let start_is : app_of c.about.result ≡ versioned (codes "goset") =
    ap app_of_fields c.about.ensures ∙ (ap app_of_fields c.version.ensures ∙ ap (on_top (λ top. record top { has_version = true })) c.new.ensures.app) in
    let no_args : args_of c.about.result ≡ [] = search rules in
    let no_groups : groups_of c.about.result ≡ [] = search rules in
    let start_plain : IsPlain c.about.result = (subst (All IsPlainArg) (sym no_args) (All-nil IsPlainArg), no_groups) in
    let keep_plain = added_plain _ _ _ c.in_ok-arg.ensures start_plain c.keep_option.ensures.plain in
    let workers_plain = added_plain _ _ _ c.in_ok-arg-2.ensures keep_plain c.workers_option.ensures.plain in
    let edition_plain = added_plain _ _ _ c.in_ok-arg-3.ensures workers_plain c.edition_option.ensures.plain in
    let with_keep = c.in_ok-arg.ensures.shape c.keep_option.ensures.local ∙ ap₂ with_rule start_is c.keep_option.ensures.rule in
    let with_workers = c.in_ok-arg-2.ensures.shape c.workers_option.ensures.local ∙ ap₂ with_rule with_keep c.workers_option.ensures.rule in
    let with_edition = c.in_ok-arg-3.ensures.shape c.edition_option.ensures.local ∙ ap₂ with_rule with_workers c.edition_option.ensures.rule in
    record {
      app = IfOk-weaker c.arg-4.result _ _ (λ command h. h.shape c.expect_option.ensures.local ∙ ap₂ with_rule with_edition c.expect_option.ensures.rule) c.arg-4.ensures;
      plain = IfOk-weaker c.arg-4.result _ _ (λ command h. added_plain _ _ _ h edition_plain c.expect_option.ensures.plain) c.arg-4.ensures;
    }
