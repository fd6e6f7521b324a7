use Rattle.std.proofs.Common.{ap, ◌∙◌, Some, None}
use Rattle.std.specs.Prelude.{Err}
use Rattle.ws_replica.specs.Reports.{actions_of}
use Rattle.ws_run.specs.Files.{writes_of}
use Rattle.ws_run.proofs.Running.{has_image, some_files}
use Rattle.ws_run.proofs.run.image_of.Goals as goal

pub returns-in-Ok : goal.returns-in-Ok
returns-in-Ok g c files h =
    let sources = c.see_files.ensures (writes_of files) (actions_of c.args.edition h.build) h.stands in
    let is = c.in-Ok.ensures.ok (writes_of files) (actions_of c.args.edition h.build) h.stands h.sized in
    has_image c.args.edition files c.args.directory.now c.args.replica.now h sources c.in-Ok.image is
    (c.law_one_build.ensures c.args.edition (writes_of files) (writes_of files) c.args.directory.now (Some is.build) (Some h.build) (λ x. ((λ m. m), (λ m. m))) is.are h.are)

pub returns-in-Err-NoPackage : goal.returns-in-Err-NoPackage
returns-in-Err-NoPackage g c files h =
    let none = c.image.ensures.none (c.in-Err-NoPackage.is ∙ ap (λ x. Err x) c.in-Err-NoPackage.field-0-is) (writes_of files) (actions_of c.args.edition h.build) h.stands in
    absurd (some_files h.build
    (c.law_one_build.ensures c.args.edition (writes_of files) (writes_of files) c.args.directory.now (Some h.build) None (λ x. ((λ m. m), (λ m. m))) h.are none))
