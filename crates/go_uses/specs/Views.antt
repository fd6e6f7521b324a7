-- How loops stand for the statements of the grammar.
use Rattle.go_ast.specs.Trees as trees
use Rattle.go_ast.specs.Views.{if_boxed, expr_of, simple_of, block_of}
use Rattle.go_ast.specs.declared.statement.For.{For}
use Rattle.go_ast.specs.declared.statement.Range.{Range}

abbrev pub for_of : For → trees.Statement
for_of f = trees.for_statement f.place (if_boxed simple_of f.init) (if_boxed expr_of f.condition) (if_boxed simple_of f.post) (block_of f.body)

abbrev pub range_of : Range → trees.Statement
range_of r = trees.range_statement r.place r.name (expr_of r.operand.value) (block_of r.body)
