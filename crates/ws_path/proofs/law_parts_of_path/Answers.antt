use Rattle.std.proofs.Common.{refl}
use Rattle.ws_path.specs.Paths.{is_slash}
use Rattle.ws_path.proofs.Cuts.{before_last_at, after_last_at}
use Rattle.ws_path.proofs.law_parts_of_path.Goals as goal

pub returns : goal.returns
returns c = record {
  directory = λ front back h. before_last_at is_slash front 47 back refl h;
  file_name = λ front back h. after_last_at is_slash front 47 back refl h;
}
