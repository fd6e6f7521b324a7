-- What a typed package comes to when it is compiled.
use Rattle.std.specs.Prelude.{◌≡◌, []}
use Rattle.go_text.specs.declared.fault.FaultKind.TheVariants.{InitCycle}
use Rattle.go_typed.specs.Trees.{Package}
use Rattle.go_init.specs.Variables.{variable_order, IsCycleAt}
use Rattle.go_gen.specs.Translation.{object_of}
use Rattle.go_export.specs.Summaries.{summary_of}
use Rattle.ws_cache.specs.Compiles.{Compiled, Good, Faulty}

-- its summary and its object; or the first variable whose value depends on itself
abbrev pub CompilesTo : Package → Compiled → Type 0
CompilesTo p (Good summary object) = ((variable_order p).1 ≡ []) × (summary ≡ summary_of p) × (object ≡ object_of p)
CompilesTo p (Faulty fault) = IsCycleAt p fault.file fault.place × (fault.kind ≡ InitCycle)
