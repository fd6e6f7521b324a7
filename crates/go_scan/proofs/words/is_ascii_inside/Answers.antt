use Rattle.go_scan.proofs.WordFronts.{is_inside_byte}
use Rattle.go_scan.proofs.words.is_ascii_inside.Goals as goal

pub returns-else-is_ascii_letter : goal.returns-else-is_ascii_letter
returns-else-is_ascii_letter c =
    is_inside_byte c.args.byte c.is_ascii_digit.result c.is_ascii_letter.result c.requires c.is_ascii_letter.ensures c.if-is_ascii_letter.false c.is_ascii_digit.ensures.value
