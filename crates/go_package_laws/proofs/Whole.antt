-- Functions without fault are well typed, where names outside of them are sound.
use Rattle.std.specs.Prelude.{◌≡◌, false, List, [], Some}
use Rattle.go_ast.specs.Trees.{FunctionDecl}
use Rattle.go_typed.specs.Trees as typed
use Rattle.go_typed.specs.Trees.{Package}
use Rattle.go_meaning_laws.specs.WellTyped.{IsWellTypedFunction}
use Rattle.go_stmt.specs.Scopes.{Context, nothing}
use Rattle.go_stmt.specs.Functions.{parameters_at, results_at, function_at}
use Rattle.go_package_laws.proofs.Soundness.{Table, AreSoundTypes}
use Rattle.go_package_laws.proofs.BodyTexts.{FunctionHasTexts}
use Rattle.go_package_laws.proofs.Types.{identical_same, not_identical, small_type, whole_type}
use Rattle.go_package_laws.proofs.Known.{sound_known, sound_operand, sound_type, sound_assigned, sound_defaulted, sound_condition, sound_binary, sound_value_due}
use Rattle.go_package_laws.proofs.Expected.{Expected}
use Rattle.go_package_laws.proofs.Functions.{SoundOutside, SoundPackageVariables, sound_function, sound_signature}

pub expected : Expected
expected = record {
  identical_same = identical_same;
  not_identical = not_identical;
  small_type = small_type;
  whole_type = whole_type;
  sound_known = sound_known;
  sound_operand = sound_operand;
  sound_type = sound_type;
  sound_assigned = sound_assigned;
  sound_defaulted = sound_defaulted;
  sound_condition = sound_condition;
  sound_binary = sound_binary;
  sound_value_due = sound_value_due;
}

-- a function's tree is well typed, has the types of its declaration, which are sound, and its name
pub function_sound : (w : Table) (packages : List Package) (c : Context) (f : FunctionDecl) → c.breaks ≡ false → c.continues ≡ false → SoundOutside expected w packages c → SoundPackageVariables expected w packages → FunctionHasTexts f → (function_at c f).faults ≡ []
    → (y : typed.Function) → (function_at c f).known ≡ Some y
    → IsWellTypedFunction packages y × ((parameters_at c f.parameters nothing).known ≡ Some y.parameters) × ((results_at c f.results nothing).known ≡ Some y.results) × AreSoundTypes w y.parameters × AreSoundTypes w y.results × (y.name ≡ f.name.text)
function_sound w packages c f breaks continues outside variables texts none y is = sound_function expected w packages c f breaks continues outside variables texts none y is

-- types of its signature are sound, whatever package variables have
pub signature_sound : (w : Table) (packages : List Package) (c : Context) (f : FunctionDecl) → SoundOutside expected w packages c → FunctionHasTexts f → (y : typed.Function) → (function_at c f).known ≡ Some y
    → AreSoundTypes w y.parameters × AreSoundTypes w y.results
signature_sound w packages c f outside texts y is = sound_signature expected w packages c f outside texts y is
