use Rattle.std.proofs.Common.{◌≡◌, List, Err, sym, ap, ◌∙◌, subst}
use Rattle.std.specs.List.{All}
use Rattle.go_text.specs.Faults.{fault_number}
use Rattle.go_scan.specs.declared.token.Token.{Token}
use Rattle.go_scan.proofs.Spelled.{tokens_stand}
use Rattle.go_ast.specs.Machine.{start, Refused, run_parser}
use Rattle.go_ast.specs.Tokens.{lexemes, LiesIn}
use Rattle.go_ast.specs.Views.{file_of}
use Rattle.go_pexpr.specs.Reads.{left, number}
use Rattle.go_pexpr.proofs.Stands.{all_lie}
use Rattle.go_ast.specs.Parse.{IsParse, Stopped, place_before, scan_kind}
use Rattle.go_parse.proofs.Found.{same_tokens, has_none, is_file, refused_by, stops_being}
use Rattle.go_parse.proofs.parser.parse.Goals as goal

pub returns-in-Err-Fault-clause-err : goal.returns-in-Err-Fault-clause-err
returns-in-Err-Fault-clause-err c = λ kind place e.
    let text = c.args.source.now.text in
    let fault = c.in-Err-Fault.fault in
    let refuses = c.in-Err-Fault.ensures.err fault c.in-Err-Fault.place (ap Err c.in-Err-Fault.field-0-is) in
    let kind_is : c.scan_kind.result ≡ kind = cc (e) in
    let place_is : c.in-Err-Fault.place ≡ place = cc (e, c.in-Err-Fault.place-is) in
    subst (λ p. IsParse c.args.edition text (Stopped kind p)) place_is
    (has_none c.args.edition text fault kind c.in-Err-Fault.place refuses (sym kind_is ∙ c.scan_kind.ensures ∙ ap scan_kind c.in-Err-Fault.fault-is))

pub invariant_of-parser : goal.invariant_of-parser
invariant_of-parser c =
    let text = c.args.source.now.text in
    let ts = c.in-Ok.tokens.items in
    let seen : c.as_bytes-text.result.now ≡ text = c.as_bytes-text.ensures.value ∙ c.as_str.ensures.value ∙ c.text.ensures in
    let lie : All (LiesIn text) ts = all_lie text ts (tokens_stand text ts c.in-Ok.ensures.ok) in
    record { stands = subst (λ (us : List Token). All (LiesIn c.as_bytes-text.result.now) us) (sym c.deref.ensures.value) (subst (λ t. All (LiesIn t) ts) (sym seen) lie) }

pub returns-in-Ok-file-clause-ok : goal.returns-in-Ok-file-clause-ok
returns-in-Ok-file-clause-ok c =
    let text = c.args.source.now.text in
    let ts = c.in-Ok.tokens.items in
    let seen : c.as_bytes-text.result.now ≡ text = c.as_bytes-text.ensures.value ∙ c.as_str.ensures.value ∙ c.text.ensures in
    let all : lexemes text ts ≡ lexemes c.as_bytes-text.result.now c.deref.result.now = same_tokens seen c.deref.ensures.value in
    is_file c.args.edition text ts (file_of c.in-Ok-file.file) c.in-Ok.ensures.ok (ap (run_parser c.args.edition 250 start) all ∙ c.in-Ok-file.ensures.ok)

pub returns-clause-err : goal.returns-clause-err
returns-clause-err c = λ kind place e.
    let text = c.args.source.now.text in
    let ts = c.in-Ok.tokens.items in
    let bad = left c.file.new.parser in
    let fault = c.in-Err-Wrong.fault in
    let seen : c.as_bytes-text.result.now ≡ text = c.as_bytes-text.ensures.value ∙ c.as_str.ensures.value ∙ c.text.ensures in
    let all : lexemes text ts ≡ lexemes c.as_bytes-text.result.now c.deref.result.now = same_tokens seen c.deref.ensures.value in
    let refused : run_parser c.args.edition 250 start (lexemes c.as_bytes-text.result.now c.deref.result.now) ≡ Refused (number fault) bad =
    refused_by _ c.file.new.parser c.in-Err-Wrong.field-0-is c.in-Err-Wrong.ensures.err in
    let kind_is : c.token_kind.result ≡ kind = cc (e) in
    let place_is : c.place_before-place.result ≡ place = cc (e) in
    stops_being c.args.edition text ts (number fault) bad kind place c.in-Ok.ensures.ok (ap (run_parser c.args.edition 250 start) all ∙ refused)
    (ap fault_number (sym kind_is) ∙ c.token_kind.ensures ∙ ap number c.in-Err-Wrong.fault-is)
    (sym place_is ∙ c.place_before-place.ensures c.file.new.parser.text.now ∙ ap (λ t. place_before t bad) seen)
