use Rattle.std.proofs.Common.{rules, ◌≡◌, ◌<◌, length, map, sym, ap, ◌∙◌, arith}
use Rattle.std.proofs.lemmas.Option.{get_or_from_slice_get}
use Rattle.ws_action.proofs.Hashed.{text_digest, digest_at}
use Rattle.ws_action.proofs.files.Files.digest_of.Goals as goal

pub returns : goal.returns
returns c =
    let shown = c.as_slice-parsed.result.now in
    let hashed = c.as_slice-digests.result.now in
    let number = c.in-Ok.number in
    let one = c.index-parsed-number.result in
    let are : hashed ≡ map text_digest shown = c.as_slice-digests.ensures.value ∙ c.self.invariant.2 ∙ ap (map text_digest) (sym c.as_slice-parsed.ensures.value) in
    let within : number < length shown = omega arith in
    let same : one.text ≡ c.args.file.now.text = search rules in
    let d = c.hash_at.result.now in
    digest_at shown hashed number one c.args.file.now d are within c.index-parsed-number.is (sym (get_or_from_slice_get hashed number d d c.hash_at.ensures)) same
