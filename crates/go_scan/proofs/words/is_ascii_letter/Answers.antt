use Rattle.go_scan.proofs.WordFronts.{is_letter_byte}
use Rattle.go_scan.proofs.words.is_ascii_letter.Goals as goal

pub returns-else-byte-eq95 : goal.returns-else-byte-eq95
returns-else-byte-eq95 c = is_letter_byte c.args.byte c.is_ascii_alphabetic.result c.requires c.if-byte-eq95.false c.is_ascii_alphabetic.ensures.value
