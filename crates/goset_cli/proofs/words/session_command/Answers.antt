use Rattle.std.proofs.Common.{rules, ap, ap₂, ◌∙◌, ◌≡◌, codes, true, [], subst, sym}
use Rattle.std.proofs.lemmas.Result.{IfOk-weaker}
use Rattle.clap.specs.Simple.{app_of, app_of_fields, on_top, with_rule}
use Rattle.std.specs.List.{All}
use Rattle.std.proofs.lemmas.List.Elements.{All-nil}
use Rattle.clap.specs.Facts.{args_of, groups_of}
use Rattle.clap.specs.Built.{IsPlain, IsPlainArg}
use Rattle.clap.proofs.CallerLemmas.{added_plain}
use Rattle.goset_cli.specs.CommandLine.{versioned}
use Rattle.goset_cli.proofs.words.session_command.Goals as goal

pub returns : goal.returns
returns c =
    let start_is : app_of c.after_help.result ≡ versioned (codes "goset") =
    ap app_of_fields c.after_help.ensures ∙ (ap app_of_fields c.about.ensures ∙ (ap app_of_fields c.version.ensures ∙ ap (on_top (λ top. record top { has_version = true })) c.new.ensures.app)) in
    let no_args : args_of c.after_help.result ≡ [] = search rules in
    let no_groups : groups_of c.after_help.result ≡ [] = search rules in
    let start_plain : IsPlain c.after_help.result = (subst (All IsPlainArg) (sym no_args) (All-nil IsPlainArg), no_groups) in
    record {
      app = IfOk-weaker c.arg-2.result _ _ (λ command h. h.shape c.edition_option.ensures.local
          ∙ ap₂ with_rule (c.in_ok-arg.ensures.shape c.workers_option.ensures.local ∙ ap₂ with_rule start_is c.workers_option.ensures.rule) c.edition_option.ensures.rule) c.arg-2.ensures;
      plain = IfOk-weaker c.arg-2.result _ _ (λ command h. added_plain _ _ _ h (added_plain _ _ _ c.in_ok-arg.ensures start_plain c.workers_option.ensures.plain) c.edition_option.ensures.plain) c.arg-2.ensures;
    }
