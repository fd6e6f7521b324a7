use Rattle.std.proofs.Common.{refl}
use Rattle.go_text.specs.declared.edition.Edition.TheVariants.{One, Two}
use Rattle.go_ast.specs.Parse.{IsParse, most_levels}
use Rattle.go_ast.specs.Tokens.{lexemes}
use Rattle.go_package_laws.proofs.LaterEdition.{derives_later}
use Rattle.go_package_laws.proofs.edition.law_first_edition_is_kept.Goals as goal

pub returns-clause-tokens : goal.returns-clause-tokens
returns-clause-tokens c levels ts f derives = derives_later One Two (λ has. refl) levels ts f derives

pub returns-clause-texts : goal.returns-clause-texts
unfolding IsParse
returns-clause-texts c text f (ts, lexes, derives) = (ts, lexes, derives_later One Two (λ has. refl) most_levels (lexemes text ts) f derives)
