use Rattle.std.proofs.Common.{List, map, ◌∙◌, ap}
use Rattle.go_text.specs.declared.place.Place.{Place}
use Rattle.go_ast.specs.Trees as trees
use Rattle.go_ast.specs.Machine.{Reader, read_block, read_results, run_parser}
use Rattle.go_ast.specs.Views.{parameter_of, type_of, block_of}
use Rattle.go_pexpr.specs.Reads.{left}
use Rattle.go_pexpr.proofs.Reading.{then_fails}
use Rattle.go_pstmt.proofs.Reading.{fails, went}
use Rattle.go_parse.proofs.function.function.Goals as goal

-- what is due behind the parts of a function
abbrev behind_body : (trees.FunctionDecl → Reader) → Place → trees.Name → List trees.Parameter → List trees.TypeExpr → trees.Block → Reader
behind_body next p n ps rs b = next (record { place = p; name = n; parameters = ps; results = rs; body = b })

abbrev behind_results : (trees.FunctionDecl → Reader) → Place → trees.Name → List trees.Parameter → List trees.TypeExpr → Reader
behind_results next p n ps rs = read_block 1 (behind_body next p n ps rs)

abbrev behind_parameters : (trees.FunctionDecl → Reader) → Place → trees.Name → List trees.Parameter → Reader
behind_parameters next p n ps = read_results (behind_results next p n ps)

pub returns-in_err-name-clause-reads : goal.returns-in_err-name-clause-reads
returns-in_err-name-clause-reads c = λ next t e. fails (c.in_err-name.ensures.reads _) c.from_residual.ensures.1

pub returns-in_err-expect-clause-reads : goal.returns-in_err-expect-clause-reads
returns-in_err-expect-clause-reads c = λ next t e.
    then_fails (went (c.in_ok-name.ensures.reads _)) (c.in_err-expect.ensures.reads _) c.from_residual-in_err-expect.ensures.1

pub returns-in_err-parameters-clause-reads : goal.returns-in_err-parameters-clause-reads
returns-in_err-parameters-clause-reads c = λ next t e.
    then_fails (went (c.in_ok-name.ensures.reads _) ∙ went (c.in_ok-expect.ensures.reads _))
    (c.in_err-parameters.ensures.reads (behind_parameters next t.place c.in_ok-name.name)) c.from_residual-in_err-parameters.ensures.1

pub returns-in_err-results-clause-reads : goal.returns-in_err-results-clause-reads
returns-in_err-results-clause-reads c = λ next t e.
    let n = c.in_ok-name.name in
    let ps = map parameter_of c.in_ok-parameters.parameters.items in
    then_fails (
    went (c.in_ok-name.ensures.reads _) ∙ went (c.in_ok-expect.ensures.reads _)
    ∙ went (c.in_ok-parameters.ensures.reads (behind_parameters next t.place n)))
    (c.in_err-results.ensures.reads (behind_results next t.place n ps)) c.from_residual-in_err-results.ensures.1

pub returns-in_err-body-clause-reads : goal.returns-in_err-body-clause-reads
returns-in_err-body-clause-reads c = λ next t e.
    let n = c.in_ok-name.name in
    let ps = map parameter_of c.in_ok-parameters.parameters.items in
    let rs = map type_of c.in_ok-results.results.items in
    then_fails (
    went (c.in_ok-name.ensures.reads _) ∙ went (c.in_ok-expect.ensures.reads _)
    ∙ went (c.in_ok-parameters.ensures.reads (behind_parameters next t.place n))
    ∙ went (c.in_ok-results.ensures.reads (behind_results next t.place n ps)))
    (c.in_err-body.ensures.reads (behind_body next t.place n ps rs)) c.from_residual-in_err-body.ensures.1

pub returns-clause-reads : goal.returns-clause-reads
returns-clause-reads c = λ next t e.
    let n = c.in_ok-name.name in
    let ps = map parameter_of c.in_ok-parameters.parameters.items in
    let rs = map type_of c.in_ok-results.results.items in
    let b = block_of c.in_ok-body.body in
    record {
      by = went (c.in_ok-name.ensures.reads _) ∙ went (c.in_ok-expect.ensures.reads _)
          ∙ went (c.in_ok-parameters.ensures.reads (behind_parameters next t.place n))
          ∙ went (c.in_ok-results.ensures.reads (behind_results next t.place n ps))
          ∙ went (c.in_ok-body.ensures.reads (behind_body next t.place n ps rs))
          ∙ ap (λ p. run_parser c.block.new.parser.edition 250 (behind_body next p n ps rs b) (left c.block.new.parser)) e;
    }
