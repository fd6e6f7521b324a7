-- How the code's objects stand for those of the definitions.
use Rattle.std.specs.Prelude.{map, option_map}
use Rattle.go_ast.specs.Views.{type_of, expr_of, exprs_in, parameter_of}
use Rattle.go_ast.specs.Trees as trees
use Rattle.go_objects.specs.Objects as objects
use Rattle.go_objects.specs.declared.declarations.Spec.{Spec}
use Rattle.go_objects.specs.declared.object.Form.{Form}
use Rattle.go_objects.specs.declared.object.Form.TheVariants as forms
use Rattle.go_objects.specs.declared.object.Object.{Object}

abbrev pub form_of : Form → objects.Form
form_of (forms.Constant t e iota) = objects.constant (option_map (λ t. type_of t.now) t) (expr_of e.now) iota
form_of (forms.Type t) = objects.type' (type_of t.now)
form_of (forms.TypedVariable t) = objects.typed_variable (type_of t.now)
form_of (forms.ValuedVariable e) = objects.valued_variable (expr_of e.now)
form_of (forms.ResultVariable number count e) = objects.result_variable number count (expr_of e.now)
form_of (forms.Function ps ts) = objects.function' (map parameter_of ps.now) (map type_of ts.now)
form_of (forms.Other t es) = objects.other (option_map (λ t. type_of t.now) t) (exprs_in es.now)

abbrev pub object_view : Object → objects.DeclaredObject
object_view o = record { file = o.file; begins = o.begins; name = o.name.now; form = form_of o.form }

-- a specification of constants or variables, by what it means
abbrev pub spec_of : Spec → trees.ConstSpec
spec_of s = record { names = s.names.now; type = option_map (λ t. type_of t.now) s.type_expr; values = exprs_in s.values.now }
