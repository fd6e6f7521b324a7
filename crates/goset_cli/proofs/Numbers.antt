-- What is read of options that may be left out.
use Rattle.std.proofs.Common.{◌&&◌, zero, suc, ◌≡◌, ◌∙◌, ◌<◌, ◌≤◌, ◌^◌, ap, ℕ, Bool, true, false, not, List, [], ◌∷◌, length, map, Option, Some, None, Result, Ok, Err, refl, sym, subst, inl, inr, arith, codes}
use Rattle.std.specs.List.{All, slice_index_or}
use Rattle.std.specs.Option.{option_map_or}
use Rattle.std.specs.Str.{bytes_eq}
use Rattle.std.specs.Prelude.{option_map, option_and_then, slice_get, unwrap_or, pos, ◌||◌}
use Rattle.std.specs.Borrow.{Bor}
use Rattle.std.specs.Str.Parse.{ParsesUnsigned, digits_value, without_leading_plus}
use Rattle.std.proofs.lemmas.Slice.Eq.{bytes_eq-Decides}
use Rattle.std.proofs.lemmas.List.Elements.{All-get_or}
use Rattle.clap.specs.Facts.{Entry, EntryPasses, HasReading, PassesArg, ValuesPass, args_of, groups_of, parser_of, parser_of_value}
use Rattle.clap.specs.Built.{IsAuto, IsParsedFrom, IsPlain}
use Rattle.clap.specs.Matches.{ReadsOne, first_value, found_of, matched_of, one_text, raw_values}
use Rattle.clap.specs.Simple.{App, HasMatchesOf, app_of, is_simple, matches_of}
use Rattle.clap.specs.Values.{Accepts, read_as, reading_of}
use Rattle.clap.specs.Walk.{Rule, Text, all_of, one_of, rule_of}
use Rattle.clap.specs.declared.builder.arg.Arg.{Arg}
use Rattle.clap.specs.declared.builder.command.Command.{Command}
use Rattle.clap.specs.declared.builder.value_parser.Reading.{Reading}
use Rattle.clap.specs.declared.builder.value_parser.ValueParser.{ValueParser}
use Rattle.clap.specs.declared.builder.value_parser.ValueParser.TheVariants as parsers
use Rattle.clap.specs.declared.parser.matches.ArgMatches.{ArgMatches}
use Rattle.clap.specs.declared.parser.matches.Found.{Found}
use Rattle.clap.specs.declared.parser.matches.MatchedArg.{MatchedArg}
use Rattle.clap.proofs.CallerLemmas.{entry_by_id, same_rules_by_id}
use Rattle.clap.proofs.CallerReads.{signed_reads}
use Rattle.clap.proofs.WalkLemmas.{one_text-rows, raw_values-rows}
use Rattle.goset_cli.specs.CommandLine.{all_ticks, goset, keep, named_number, option_number, run_app}
use Rattle.goset_cli.specs.CommandLine.{named_text as named_text_of}

-- ---- a text that is read of an entry passed its argument's parser

text_read : (c : Command) (f : Found) (id : List ℕ) (Q : List ℕ → Type 0) (how : Reading) → ValuesPass c f → groups_of c ≡ [] → (id ≡ [] → ⊥)
    → ((r : Reading) → HasReading c id r → r ≡ how) → ((v : Bor (List ℕ)) → PassesArg c id v.now → Q v.now)
    → (t : List ℕ) → one_text f id ≡ Some t → (u : List ℕ) × (t ≡ read_as how u) × Q u
text_read c f id Q how values no_groups named reads read t is = go (matched_of f id) refl is
  where
    head : (vs : List (Bor (List ℕ))) → All (λ v. PassesArg c id v.now) vs → option_map (λ s. read_as how s.now) (slice_get vs 0) ≡ Some t
        → (u : List ℕ) × (t ≡ read_as how u) × Q u
    head [] all h = cc
    head (v ∷ vs) all h = (v.now, ap (λ (o : Option (List ℕ)). unwrap_or o t) (sym h), read v (All-get_or (λ w. PassesArg c id w.now) (v ∷ vs) 0 v (omega arith) all))

    step : (x : MatchedArg) → option_map (λ s. read_as x.reading s.now) (slice_get x.vals.items 0) ≡ Some t → (e : Entry) → e.1 ≡ x → e.0.now ≡ id
        → EntryPasses c e → (u : List ℕ) × (t ≡ read_as how u) × Q u
    step x first e same_x key_id pass =
        let no_group : e.1.is_group ≡ true → ⊥ = λ g. elim (pass.3 g) [
          | inl empty ↦ named (sym key_id ∙ empty)
          | inr lots ↦
              let bad : 0 < 0 = rw no_groups at lots in
              absurd (omega arith)
        ] in
        let all : All (λ v. PassesArg c id v.now) x.vals.items = elim pass.0 [
          | inl g ↦ absurd (no_group g)
          | inr vals ↦ subst (λ (w : List ℕ). All (λ v. PassesArg c w v.now) x.vals.items) key_id (rw same_x at vals)
        ] in
        let is_how : e.1.reading ≡ how = elim pass.4 [
          | inl g ↦ absurd (no_group g)
          | inr h ↦ reads e.1.reading (subst (λ (w : List ℕ). HasReading c w e.1.reading) key_id h)
        ] in
        let reading : x.reading ≡ how = ap (λ (y : MatchedArg). y.reading) (sym same_x) ∙ is_how in
        head x.vals.items all (subst (λ (r : Reading). option_map (λ s. read_as r s.now) (slice_get x.vals.items 0) ≡ Some t) reading first)

    go : (o : Option MatchedArg) → matched_of f id ≡ o
        → option_and_then (λ a. option_map (λ s. read_as a.reading s.now) (slice_get a.vals.items 0)) o ≡ Some t → (u : List ℕ) × (t ≡ read_as how u) × Q u
    go None e h = cc
    go (Some x) e h =
        let got = entry_by_id (EntryPasses c) f.entries.items id x values e in
        step x h got.0 got.1 ((bytes_eq-Decides got.0.0.now id).0 got.2) got.3

-- ---- the arguments of a command are those of its rules

rule_at : (xs : List Arg) (k : ℕ) (d : Arg) → rule_of (slice_index_or xs k d) ≡ slice_index_or (map rule_of xs) k (rule_of d)
rule_at [] k d = refl
rule_at (x ∷ xs) zero d = refl
rule_at (x ∷ xs) (suc k) d = rule_at xs k d

rules_count : (xs : List Arg) → length (map rule_of xs) ≡ length xs
rules_count [] = refl
rules_count (x ∷ xs) = ap suc (rules_count xs)

-- of the rules the one of this number alone is the option's, which has this parser, and clap makes no argument of its name
pub record IsOption (rules : List Rule) (name : List ℕ) (parser : ValueParser) (place : ℕ) : Type 0 where
  pub below : place < length rules
  pub parser_is : (d : Rule) → (slice_index_or rules place d).parser ≡ Some parser
  pub name_is : (d : Rule) → (slice_index_or rules place d).id ≡ name
  pub alone : (j : ℕ) (d : Rule) → j < length rules → bytes_eq (slice_index_or rules j d).id name ≡ true → j ≡ place
  pub not_help : name ≡ codes "help" → ⊥
  pub not_version : name ≡ codes "version" → ⊥
  pub some : name ≡ [] → ⊥

pub workers_option : IsOption goset.top.rules (codes "workers") (parsers.Signed (pos 1) (pos 64)) 0
workers_option = record {
  below = omega arith;
  parser_is = λ d. refl;
  name_is = λ d. refl;
  alone = alone;
  not_help = λ e. let bad : 119 ≡ 104 = ap (λ (l : List ℕ). slice_index_or l 0 0) e in absurd (omega (arith, bad));
  not_version = λ e. let bad : 119 ≡ 118 = ap (λ (l : List ℕ). slice_index_or l 0 0) e in absurd (omega (arith, bad));
  some = λ e. let bad : 7 ≡ 0 = ap length e in absurd (omega (arith, bad));
}
  where
    alone : (j : ℕ) (d : Rule) → j < length goset.top.rules → bytes_eq (slice_index_or goset.top.rules j d).id (codes "workers") ≡ true → j ≡ 0
    alone zero d lt same = refl
    alone (suc zero) d lt same = cc
    alone (suc (suc j)) d lt same = absurd (omega (arith, lt))

pub edition_option : IsOption goset.top.rules (codes "edition") (parsers.Signed (pos 1) (pos 2)) 1
edition_option = record {
  below = omega arith;
  parser_is = λ d. refl;
  name_is = λ d. refl;
  alone = alone;
  not_help = λ e. let bad : 101 ≡ 104 = ap (λ (l : List ℕ). slice_index_or l 0 0) e in absurd (omega (arith, bad));
  not_version = λ e. let bad : 101 ≡ 118 = ap (λ (l : List ℕ). slice_index_or l 0 0) e in absurd (omega (arith, bad));
  some = λ e. let bad : 7 ≡ 0 = ap length e in absurd (omega (arith, bad));
}
  where
    alone : (j : ℕ) (d : Rule) → j < length goset.top.rules → bytes_eq (slice_index_or goset.top.rules j d).id (codes "edition") ≡ true → j ≡ 1
    alone zero d lt same = cc
    alone (suc zero) d lt same = refl
    alone (suc (suc j)) d lt same = absurd (omega (arith, lt))

pub keep_workers_option : IsOption keep.top.rules (codes "workers") (parsers.Signed (pos 1) (pos 64)) 1
keep_workers_option = record {
  below = omega arith;
  parser_is = λ d. refl;
  name_is = λ d. refl;
  alone = alone;
  not_help = λ e. let bad : 119 ≡ 104 = ap (λ (l : List ℕ). slice_index_or l 0 0) e in absurd (omega (arith, bad));
  not_version = λ e. let bad : 119 ≡ 118 = ap (λ (l : List ℕ). slice_index_or l 0 0) e in absurd (omega (arith, bad));
  some = λ e. let bad : 7 ≡ 0 = ap length e in absurd (omega (arith, bad));
}
  where
    alone : (j : ℕ) (d : Rule) → j < length keep.top.rules → bytes_eq (slice_index_or keep.top.rules j d).id (codes "workers") ≡ true → j ≡ 1
    alone zero d lt same = cc
    alone (suc zero) d lt same = refl
    alone (suc (suc zero)) d lt same = cc
    alone (suc (suc (suc zero))) d lt same = cc
    alone (suc (suc (suc (suc j)))) d lt same = absurd (omega (arith, lt))

pub keep_edition_option : IsOption keep.top.rules (codes "edition") (parsers.Signed (pos 1) (pos 2)) 2
keep_edition_option = record {
  below = omega arith;
  parser_is = λ d. refl;
  name_is = λ d. refl;
  alone = alone;
  not_help = λ e. let bad : 101 ≡ 104 = ap (λ (l : List ℕ). slice_index_or l 0 0) e in absurd (omega (arith, bad));
  not_version = λ e. let bad : 101 ≡ 118 = ap (λ (l : List ℕ). slice_index_or l 0 0) e in absurd (omega (arith, bad));
  some = λ e. let bad : 7 ≡ 0 = ap length e in absurd (omega (arith, bad));
}
  where
    alone : (j : ℕ) (d : Rule) → j < length keep.top.rules → bytes_eq (slice_index_or keep.top.rules j d).id (codes "edition") ≡ true → j ≡ 2
    alone zero d lt same = cc
    alone (suc zero) d lt same = cc
    alone (suc (suc zero)) d lt same = refl
    alone (suc (suc (suc zero))) d lt same = cc
    alone (suc (suc (suc (suc j)))) d lt same = absurd (omega (arith, lt))

pub ticks_option : IsOption run_app.top.rules (codes "ticks") (parsers.Unsigned 0 all_ticks) 0
ticks_option = record {
  below = omega arith;
  parser_is = λ d. refl;
  name_is = λ d. refl;
  alone = alone;
  not_help = λ e. let bad : 116 ≡ 104 = ap (λ (l : List ℕ). slice_index_or l 0 0) e in absurd (omega (arith, bad));
  not_version = λ e. let bad : 116 ≡ 118 = ap (λ (l : List ℕ). slice_index_or l 0 0) e in absurd (omega (arith, bad));
  some = λ e. let bad : 5 ≡ 0 = ap length e in absurd (omega (arith, bad));
}
  where
    alone : (j : ℕ) (d : Rule) → j < length run_app.top.rules → bytes_eq (slice_index_or run_app.top.rules j d).id (codes "ticks") ≡ true → j ≡ 0
    alone zero d lt same = refl
    alone (suc zero) d lt same = cc
    alone (suc (suc zero)) d lt same = cc
    alone (suc (suc (suc zero))) d lt same = cc
    alone (suc (suc (suc (suc j)))) d lt same = absurd (omega (arith, lt))

pub run_edition_option : IsOption run_app.top.rules (codes "edition") (parsers.Signed (pos 1) (pos 2)) 1
run_edition_option = record {
  below = omega arith;
  parser_is = λ d. refl;
  name_is = λ d. refl;
  alone = alone;
  not_help = λ e. let bad : 101 ≡ 104 = ap (λ (l : List ℕ). slice_index_or l 0 0) e in absurd (omega (arith, bad));
  not_version = λ e. let bad : 101 ≡ 118 = ap (λ (l : List ℕ). slice_index_or l 0 0) e in absurd (omega (arith, bad));
  some = λ e. let bad : 7 ≡ 0 = ap length e in absurd (omega (arith, bad));
}
  where
    alone : (j : ℕ) (d : Rule) → j < length run_app.top.rules → bytes_eq (slice_index_or run_app.top.rules j d).id (codes "edition") ≡ true → j ≡ 1
    alone zero d lt same = cc
    alone (suc zero) d lt same = refl
    alone (suc (suc zero)) d lt same = cc
    alone (suc (suc (suc zero))) d lt same = cc
    alone (suc (suc (suc (suc j)))) d lt same = absurd (omega (arith, lt))

pub plain_flag : IsOption run_app.top.rules (codes "plain") parsers.Bool 2
plain_flag = record {
  below = omega arith;
  parser_is = λ d. refl;
  name_is = λ d. refl;
  alone = alone;
  not_help = λ e. let bad : 112 ≡ 104 = ap (λ (l : List ℕ). slice_index_or l 0 0) e in absurd (omega (arith, bad));
  not_version = λ e. let bad : 112 ≡ 118 = ap (λ (l : List ℕ). slice_index_or l 0 0) e in absurd (omega (arith, bad));
  some = λ e. let bad : 5 ≡ 0 = ap length e in absurd (omega (arith, bad));
}
  where
    alone : (j : ℕ) (d : Rule) → j < length run_app.top.rules → bytes_eq (slice_index_or run_app.top.rules j d).id (codes "plain") ≡ true → j ≡ 2
    alone zero d lt same = cc
    alone (suc zero) d lt same = cc
    alone (suc (suc zero)) d lt same = refl
    alone (suc (suc (suc zero))) d lt same = cc
    alone (suc (suc (suc (suc j)))) d lt same = absurd (omega (arith, lt))

-- ---- the values of an option

-- the third of some tests that hold says no
third_is_no : (a b c d : Bool) → (a && (b && (not c && d))) ≡ true → c ≡ false
third_is_no false b c d h = cc
third_is_no true false c d h = cc
third_is_no true true true d h = cc
third_is_no true true false d h = refl

module _ (app : App) (name : List ℕ) (parser : ValueParser) (place : ℕ) (is_option : IsOption app.top.rules name parser place) (plain_app : app.top.is_plain ≡ true) (simple : is_simple app ≡ true) where
  module _ (old : Command) (m : ArgMatches) (p : IsParsedFrom old m) (app_is : app_of old ≡ app) where
    rules_are : map rule_of (args_of old) ≡ app.top.rules
    rules_are = ap (λ (a : App). a.top.rules) app_is

    rule_is : (k : ℕ) (d : Arg) → rule_of (slice_index_or (args_of old) k d) ≡ slice_index_or app.top.rules k (rule_of d)
    rule_is k d = rule_at (args_of old) k d ∙ ap (λ (rules : List Rule). slice_index_or rules k (rule_of d)) rules_are

    count_is : length (args_of old) ≡ length app.top.rules
    count_is = sym (rules_count (args_of old)) ∙ ap length rules_are

    -- an argument of the built command with the option's id has its parser
    option_parser : (j : ℕ) (x : Arg) → j < length (args_of p.built) → slice_index_or (args_of p.built) j x ≡ x → bytes_eq x.id.now name ≡ true
        → parser_of x ≡ parser
    option_parser j x high at same =
        let a = slice_index_or (args_of old) place x in
        let below = is_option.below in
        let lt : place < length (args_of old) = omega (arith, count_is, below) in
        let id_is : a.id.now ≡ name = ap (λ (r : Rule). r.id) (rule_is place x) ∙ is_option.name_is (rule_of x) in
        let parser_is : a.value_parser ≡ Some parser = ap (λ (r : Rule). r.parser) (rule_is place x) ∙ is_option.parser_is (rule_of x) in
        let unique : (k : ℕ) (e : Arg) → k < length (args_of old) → bytes_eq (slice_index_or (args_of old) k e).id.now a.id.now ≡ true → k ≡ place =
        λ k e low eq. is_option.alone k (rule_of e) (omega (arith, count_is, low))
        (rw (← ap (λ (r : Rule). r.id) (rule_is k e), ← id_is) eq) in
        let own : IsAuto a → ⊥ = λ auto. elim auto [
          | inl h ↦ is_option.not_help (sym id_is ∙ h)
          | inr h ↦ is_option.not_version (sym id_is ∙ h)
        ] in
        let s = same_rules_by_id old m p place x lt unique own j x high at (subst (λ (w : List ℕ). bytes_eq x.id.now w ≡ true) (sym id_is) same) in
        ap parser_of_value (s.parser parser parser_is)

    -- what is read of the option, where it is there: a text that its parser lets through
    named_text : IsPlain old → (t : List ℕ) → one_text (found_of m) name ≡ Some t
        → (u : List ℕ) × (t ≡ read_as (reading_of parser) u) × ((ignore_case : Bool) × Accepts ignore_case parser u)
    named_text plain t is =
        let local = third_is_no _ _ _ _ (ap (λ (a : App). a.top.is_plain) app_is ∙ plain_app) in
        let parsed = p.parsed (p.from.globals ∙ local) in
        text_read p.built (found_of m) name (λ (u : List ℕ). (ignore_case : Bool) × Accepts ignore_case parser u) (reading_of parser) parsed.values (p.from.plain plain).1 is_option.some
        (λ r any. sym any.4.1 ∙ ap reading_of (option_parser any.0 any.1 any.2 any.3 any.4.0))
        (λ v any. (any.1.ignore_case, subst (λ (q : ValueParser). Accepts any.1.ignore_case q v.now) (option_parser any.0 any.1 any.2 any.3 any.4.0) any.4.1))
        t is

    -- the text that the words give the option
    text_is : (words : List Text) → HasMatchesOf (app_of old) words m → one_of name (matches_of app words) ≡ one_text (found_of m) name
    text_is words has =
        let simple_old : is_simple (app_of old) ≡ true = ap is_simple app_is ∙ simple in
        sym (one_text-rows (found_of m) name ∙ ap (one_of name) ((has simple_old).0 ∙ ap (λ (a : App). matches_of a words) app_is))

-- ---- the number of an option

-- the number that is read of the words, and this one where they name none
pub number_read : (app : App) (name : List ℕ) (most place : ℕ) → IsOption app.top.rules name (parsers.Signed (pos 1) (pos most)) place → app.top.is_plain ≡ true → is_simple app ≡ true
    → (none : ℕ) → 1 ≤ none → none ≤ most → most < 2 ^ 8 → (old : Command) (m : ArgMatches) (words : List Text) → IsParsedFrom old m → app_of old ≡ app → IsPlain old
    → HasMatchesOf (app_of old) words m → (E : Type 0) (G : List ℕ → Result ℕ E → Type 0) (r : Option ℕ)
    → (one_text (found_of m) name ≡ None → r ≡ None)
    → ((t : List ℕ) → one_text (found_of m) name ≡ Some t → ReadsOne G t r)
    → ((u : List ℕ) (x : Result ℕ E) → G u x → ParsesUnsigned 8 10 u x)
    → (unwrap_or r none ≡ option_number app name none words) × (1 ≤ unwrap_or r none) × (unwrap_or r none ≤ most)
number_read app name most place is_option plain_app simple none least few fits old m words p app_is plain has E G r absent present reads =
    go (one_text (found_of m) name) refl
  where
    parser : ValueParser
    parser = parsers.Signed (pos 1) (pos most)

    number : Option (List ℕ) → ℕ
    number o = option_map_or (λ text. digits_value 10 (without_leading_plus text)) o none

    is : one_of name (matches_of app words) ≡ one_text (found_of m) name
    is = text_is app name parser place is_option plain_app simple old m p app_is words has

    go : (o : Option (List ℕ)) → one_text (found_of m) name ≡ o
        → (unwrap_or r none ≡ option_number app name none words) × (1 ≤ unwrap_or r none) × (unwrap_or r none ≤ most)
    go None e =
        let named : option_number app name none words ≡ none = ap number (is ∙ e) in
        let read : unwrap_or r none ≡ none = ap (λ (o : Option ℕ). unwrap_or o none) (absent e) in
        (read ∙ sym named, rw read least, rw read few)
    go (Some t) e =
        let got = named_text app name parser place is_option plain_app simple old m p app_is plain t e in
        let n = signed_reads E G 8 1 most got.0 r (subst (λ (u : List ℕ). ReadsOne G u r) got.1 (present t e)) reads fits got.2.1 in
        let value = reads t (Ok n.0) (subst (λ (o : Option ℕ). ReadsOne G t o) n.1 (present t e)) in
        let named : option_number app name none words ≡ digits_value 10 (without_leading_plus t) = ap number (is ∙ e) in
        let read : unwrap_or r none ≡ n.0 = ap (λ (o : Option ℕ). unwrap_or o none) n.1 in
        (read ∙ (value.1 ∙ sym named), rw read n.2, rw read n.3)

-- the number that is read of the words, where they name one
pub named_read : (app : App) (name : List ℕ) (most place : ℕ) → IsOption app.top.rules name (parsers.Signed (pos 1) (pos most)) place → app.top.is_plain ≡ true → is_simple app ≡ true
    → most < 2 ^ 8 → (old : Command) (m : ArgMatches) (words : List Text) → IsParsedFrom old m → app_of old ≡ app → IsPlain old
    → HasMatchesOf (app_of old) words m → (E : Type 0) (G : List ℕ → Result ℕ E → Type 0) (r : Option ℕ)
    → (one_text (found_of m) name ≡ None → r ≡ None)
    → ((t : List ℕ) → one_text (found_of m) name ≡ Some t → ReadsOne G t r)
    → ((u : List ℕ) (x : Result ℕ E) → G u x → ParsesUnsigned 8 10 u x)
    → r ≡ named_number app name words
named_read app name most place is_option plain_app simple fits old m words p app_is plain has E G r absent present reads =
    go (one_text (found_of m) name) refl
  where
    parser : ValueParser
    parser = parsers.Signed (pos 1) (pos most)

    number : Option (List ℕ) → Option ℕ
    number o = option_map (λ text. digits_value 10 (without_leading_plus text)) o

    is : one_of name (matches_of app words) ≡ one_text (found_of m) name
    is = text_is app name parser place is_option plain_app simple old m p app_is words has

    go : (o : Option (List ℕ)) → one_text (found_of m) name ≡ o → r ≡ named_number app name words
    go None e = absent e ∙ sym (ap number (is ∙ e))
    go (Some t) e =
        let got = named_text app name parser place is_option plain_app simple old m p app_is plain t e in
        let n = signed_reads E G 8 1 most got.0 r (subst (λ (u : List ℕ). ReadsOne G u r) got.1 (present t e)) reads fits got.2.1 in
        let value = reads t (Ok n.0) (subst (λ (o : Option ℕ). ReadsOne G t o) n.1 (present t e)) in
        n.1 ∙ (ap Some value.1 ∙ sym (ap number (is ∙ e)))

-- the same of a number without a least
pub count_read : (app : App) (name : List ℕ) (place : ℕ) → IsOption app.top.rules name (parsers.Unsigned 0 all_ticks) place → app.top.is_plain ≡ true → is_simple app ≡ true
    → (none : ℕ) → (old : Command) (m : ArgMatches) (words : List Text) → IsParsedFrom old m → app_of old ≡ app → IsPlain old
    → HasMatchesOf (app_of old) words m → (E : Type 0) (G : List ℕ → Result ℕ E → Type 0) (r : Option ℕ)
    → (one_text (found_of m) name ≡ None → r ≡ None)
    → ((t : List ℕ) → one_text (found_of m) name ≡ Some t → ReadsOne G t r)
    → ((u : List ℕ) (x : Result ℕ E) → G u x → ParsesUnsigned 64 10 u x)
    → unwrap_or r none ≡ option_number app name none words
count_read app name place is_option plain_app simple none old m words p app_is plain has E G r absent present reads =
    go (one_text (found_of m) name) refl
  where
    parser : ValueParser
    parser = parsers.Unsigned 0 all_ticks

    number : Option (List ℕ) → ℕ
    number o = option_map_or (λ text. digits_value 10 (without_leading_plus text)) o none

    is : one_of name (matches_of app words) ≡ one_text (found_of m) name
    is = text_is app name parser place is_option plain_app simple old m p app_is words has

    value : (t u : List ℕ) (ignore_case : Bool) → t ≡ u → Accepts ignore_case parser u → (o : Option ℕ) → ReadsOne G t o → unwrap_or o none ≡ digits_value 10 (without_leading_plus t)
    value t u ignore_case same accepted (Some v) h = (reads t (Ok v) h).1
    value t u ignore_case same accepted None h =
        let passed = subst (λ (w : List ℕ). Accepts ignore_case parser w) (sym same) accepted in
        absurd (reads t (Err h.0) h.1 (passed.0, passed.1))

    go : (o : Option (List ℕ)) → one_text (found_of m) name ≡ o → unwrap_or r none ≡ option_number app name none words
    go None e =
        let named : option_number app name none words ≡ none = ap number (is ∙ e) in
        ap (λ (o : Option ℕ). unwrap_or o none) (absent e) ∙ sym named
    go (Some t) e =
        let got = named_text app name parser place is_option plain_app simple old m p app_is plain t e in
        let named : option_number app name none words ≡ digits_value 10 (without_leading_plus t) = ap number (is ∙ e) in
        value t got.0 got.2.0 got.1 got.2.1 r (present t e) ∙ sym named

-- ---- a flag

-- whether the words have the flag
pub flag_read : (app : App) (name : List ℕ) (place : ℕ) → IsOption app.top.rules name parsers.Bool place → app.top.is_plain ≡ true → is_simple app ≡ true
    → (old : Command) (m : ArgMatches) (words : List Text) → IsParsedFrom old m → app_of old ≡ app → IsPlain old
    → HasMatchesOf (app_of old) words m → (r : Bool)
    → (one_text (found_of m) name ≡ None → r ≡ false)
    → (one_text (found_of m) name ≡ Some (codes "true") → r ≡ true)
    → (one_text (found_of m) name ≡ Some (codes "false") → r ≡ false)
    → r ≡ option_map_or (λ text. bytes_eq text (codes "true")) (one_of name (matches_of app words)) false
flag_read app name place is_option plain_app simple old m words p app_is plain has r absent yes_said no_said =
    go (one_text (found_of m) name) refl
  where
    parser : ValueParser
    parser = parsers.Bool

    said : Option (List ℕ) → Bool
    said o = option_map_or (λ text. bytes_eq text (codes "true")) o false

    is : one_of name (matches_of app words) ≡ one_text (found_of m) name
    is = text_is app name parser place is_option plain_app simple old m p app_is words has

    of_text : (t : List ℕ) (b c : Bool) → bytes_eq t (codes "true") ≡ b → bytes_eq t (codes "false") ≡ c → (b || c) ≡ true
        → one_text (found_of m) name ≡ Some t → r ≡ bytes_eq t (codes "true")
    of_text t true c is_yes is_no some e =
        yes_said (e ∙ ap Some ((bytes_eq-Decides t (codes "true")).0 is_yes)) ∙ sym is_yes
    of_text t false true is_yes is_no some e =
        no_said (e ∙ ap Some ((bytes_eq-Decides t (codes "false")).0 is_no)) ∙ sym is_yes
    of_text t false false is_yes is_no some e = cc

    go : (o : Option (List ℕ)) → one_text (found_of m) name ≡ o → r ≡ said (one_of name (matches_of app words))
    go None e = absent e ∙ sym (ap said (is ∙ e))
    go (Some t) e =
        let got = named_text app name parser place is_option plain_app simple old m p app_is plain t e in
        let accepted : (bytes_eq t (codes "true") || bytes_eq t (codes "false")) ≡ true = rw got.1 got.2.1 in
        of_text t (bytes_eq t (codes "true")) (bytes_eq t (codes "false")) refl refl accepted e ∙ sym (ap said (is ∙ e))

-- ---- an argument of several values

-- the values that the words give it
pub values_are : (app : App) (name : List ℕ) → is_simple app ≡ true → (old : Command) (m : ArgMatches) (words : List Text) → app_of old ≡ app → HasMatchesOf (app_of old) words m
    → option_map raw_values (matched_of (found_of m) name) ≡ all_of name (matches_of app words)
values_are app name simple old m words app_is has =
    raw_values-rows (found_of m) name ∙ ap (all_of name) ((has (ap is_simple app_is ∙ simple)).0 ∙ ap (λ (a : App). matches_of a words) app_is)

-- ---- the text of an option

first_now : (vs : List (Bor (List ℕ))) → option_map (λ v. v.now) (slice_get vs 0) ≡ slice_get (map (λ v. v.now) vs) 0
first_now [] = refl
first_now (v ∷ vs) = refl

first_raw : (o : Option MatchedArg) → option_and_then (λ a. option_map (λ s. s.now) (slice_get a.vals.items 0)) o ≡ option_and_then (λ texts. slice_get texts 0) (option_map raw_values o)
first_raw None = refl
first_raw (Some a) = first_now a.vals.items

-- the text that the words give it
pub text_read_of : (app : App) (name : List ℕ) → is_simple app ≡ true → (old : Command) (m : ArgMatches) (words : List Text) → app_of old ≡ app → HasMatchesOf (app_of old) words m
    → first_value (found_of m) name ≡ named_text_of app name words
text_read_of app name simple old m words app_is has =
    first_raw (matched_of (found_of m) name) ∙ ap (λ (o : Option (List Text)). option_and_then (λ texts. slice_get texts 0) o) (values_are app name simple old m words app_is has)
