use Rattle.std.proofs.Common.{◌≡◌, ap, sym, ◌∙◌, Option, Some, Vec, Global, List, ℕ}
use Rattle.std.specs.Prelude.{is_none}
use Rattle.std.specs.Str.{is_utf8}
use Rattle.std.specs.Option.{option_map}
use Rattle.std.proofs.lemmas.Str.{is_utf8-from_IsUtf8, IsUtf8-string_bytes}
use Rattle.go_text.specs.Named.{Source}
use Rattle.go_text.specs.Texts.{text_error}
use Rattle.go_text.specs.declared.text.TextError.{TextError}
use Rattle.ws_session.specs.World.{is_whole_text}
use Rattle.std.proofs.lemmas.Bool.{false≢true}
use Rattle.ws_session.proofs.Utf8.{not_utf8, and_false, and_right}
use Rattle.ws_session.proofs.replicas.source_of.Goals as goal

pub returns-in_default-from_utf8 : goal.returns-in_default-from_utf8
returns-in_default-from_utf8 c =
    ap (λ (t : Option (Vec ℕ Global)). is_whole_text c.args.edition (option_map (λ v. v.items) t)) c.in-Some.is
    ∙ and_false _ _ (not_utf8 c.in-Some.bytes.items (λ u. false≢true (c.in_default-from_utf8.ensures.succeeds u)))

pub returns-in-Ok-new_in : goal.returns-in-Ok-new_in
returns-in-Ok-new_in c =
    let bytes : List ℕ = c.in-Some.bytes.items in
    let same : c.in-Ok.text.bytes.items ≡ bytes = ap (λ (v : Vec ℕ Global). v.items) c.in-Ok.ensures.ok in
    let valid : is_utf8 bytes ≡ _ = ap is_utf8 (sym same) ∙ is_utf8-from_IsUtf8 _ (IsUtf8-string_bytes c.in-Ok.text) in
    let sound = ap (λ (o : Option TextError). is_none o) (ap (text_error c.args.edition) (sym same) ∙ c.in-Ok-new_in.ensures.allowed) in (
      ap (λ (t : Option (Vec ℕ Global)). is_whole_text c.args.edition (option_map (λ v. v.items) t)) c.in-Some.is ∙ and_right _ _ _ valid sound,
      ap (λ (s : Source). s.name) c.in-Ok-new_in.ensures.ok ∙ c.in_ok-name.ensures.ok ∙ c.file_name.ensures,
      ap (λ (t : List ℕ). Some t) (ap (λ (s : Source). s.text) c.in-Ok-new_in.ensures.ok ∙ same) ∙ sym (ap (λ (t : Option (Vec ℕ Global)). option_map (λ v. v.items) t) c.in-Some.is),
    )
