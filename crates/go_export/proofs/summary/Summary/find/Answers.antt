use Rattle.std.proofs.Common.{ap, ◌∙◌}
use Rattle.std.specs.Prelude.{bytes_eq}
use Rattle.std.specs.Map.{lookup}
use Rattle.std.specs.Option.{option_map}
use Rattle.go_export.specs.Summaries.{Summary}
use Rattle.go_export.specs.Views.{export_of}
use Rattle.go_export.proofs.Ordered.{looked, seen_through}
use Rattle.go_export.proofs.summary.Summary.find.Goals as goal

pub returns : goal.returns
returns c =
    seen_through c.get.result ∙ ap (option_map export_of) c.get.ensures.value ∙ looked c.args.name.now c.self.inside.named.entries
    ∙ ap (λ (s : Summary). lookup (bytes_eq c.args.name.now) s.exports) c.self.view_is
