-- What is due where a declaration of a file may begin, and a parameter.
use Rattle.go_ast.specs.Trees.{TopLevel, Parameter, declared, function}
use Rattle.go_scan.specs.declared.keyword.Keyword.TheVariants as keywords
use Rattle.go_ast.specs.Expected.{a_parameter_type}
use Rattle.go_ast.specs.Machine.{Reader, optional, type, names, keyword, behind_const, behind_var, behind_type, behind_func}

-- a declaration, or else something other
abbrev pub read_declaration : (TopLevel → Reader) → Reader → Reader
read_declaration some none =
    optional (keyword keywords.Const) 0 (behind_const 1 (λ d. some (declared d)))
    (optional (keyword keywords.Var) 0 (behind_var 1 (λ d. some (declared d)))
    (optional (keyword keywords.Type) 0 (behind_type 1 (λ d. some (declared d)))
    (optional (keyword keywords.Func) 1 (behind_func (λ f. some (function f))) none)))

-- parameters
abbrev pub parameter_item : (Parameter → Reader) → Reader
parameter_item next = names 1 (λ ns. type 1 a_parameter_type (λ a. next (record { names = ns; type = a })))
