-- Places of bytes in a text.
use Rattle.std.specs.Prelude.{ℕ, ◌+◌, ◌-◌, nat_eq, not, List, take, drop, length, if◌then◌else◌}
use Rattle.std.specs.List.{count_by, suffix_len}
use Rattle.go_text.specs.Texts.{mark, starts_with_mark}
use Rattle.go_text.specs.declared.place.Place.{Place}

-- the place behind some bytes: one line on for each newline, one column on for each byte behind the last newline
abbrev pub place_after : List ℕ → Place
place_after bytes = record {
  line = 1 + count_by (λ b. nat_eq b 10) bytes;
  column = 1 + suffix_len (λ b. not (nat_eq b 10)) bytes;
}

-- how many bytes of a text are a mark at its start
abbrev pub mark_size : List ℕ → ℕ
mark_size text = if starts_with_mark text then length mark else 0

-- the place of the byte at an offset of a text; a mark at the start takes no column
abbrev pub place_at : List ℕ → ℕ → Place
place_at text offset = place_after (take (offset - mark_size text) (drop (mark_size text) text))
