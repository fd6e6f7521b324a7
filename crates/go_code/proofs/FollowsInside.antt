-- How the machine follows instructions that stay in the newest frame: about cells, operators, parts and jumps.
use Rattle.std.proofs.Common.{◌≡◌, ℕ, zero, suc, ◌+◌, ◌-◌, ◌≤◌, true, false, List, [], ◌∷◌, ◌++◌, length, Some, None, refl, ap, ◌∙◌}
use Rattle.std.specs.Prelude.{if◌then◌else◌}
use Rattle.std.specs.Option.{option_map}
use Rattle.std.proofs.lemmas.Bool.{le-leb}
use Rattle.go_code.specs.declared.cell.Cell.{Cell}
use Rattle.go_code.specs.declared.cell.Cell.TheVariants.{Bool as Truth, Text}
use Rattle.go_code.specs.declared.ending.PanicKind.{PanicKind}
use Rattle.go_code.specs.declared.ending.PanicKind.TheVariants.{User}
use Rattle.go_code.specs.declared.ending.Ending.TheVariants.{Cut, Panicked}
use Rattle.go_code.specs.declared.instr.Instr.{Instr}
use Rattle.go_code.specs.declared.instr.Instr.TheVariants.{Frame as In_frame, Local, Global, Part, Row as In_row, Operate, Jump as Go_to, Output as To_output}
use Rattle.go_code.specs.declared.instr.AccessInstr.{AccessInstr}
use Rattle.go_code.specs.declared.instr.FrameInstr.{FrameInstr}
use Rattle.go_code.specs.declared.instr.JumpInstr.TheVariants.{Jump, JumpIf, JumpIfNot, LoopIf}
use Rattle.go_code.specs.declared.instr.OutputInstr.TheVariants.{Panic}
use Rattle.go_code.specs.declared.instr.PartInstr.{PartInstr}
use Rattle.go_code.specs.declared.instr.RowInstr.{RowInstr}
use Rattle.go_code.specs.declared.operator.Operator.{Operator}
use Rattle.go_code.specs.Accesses.{Reached, access}
use Rattle.go_code.specs.Finals.{Final, Ends}
use Rattle.go_code.specs.Images.{Image}
use Rattle.go_code.specs.Operators.{Operated, Gives, Panics, operands, operate}
use Rattle.go_code.specs.Parts.{part, part_cells}
use Rattle.go_code.specs.Rows.{Rowed, row_cells, row_step}
use Rattle.go_code.specs.Machine.{Frame, State, Goes, past, with_stack, with_frames, goes_with, frame_step, local_step, global_step, came, rowed, ahead, spend, turn, step, Leads}
use Rattle.go_code.proofs.Follows.{step_at, top_row}
use Rattle.go_code.proofs.Stands.{Stands}
use Rattle.go_code.proofs.Steps.{leads_on, leads_stop}

-- the newest frame stands before an instruction
pub record Before (s : State) (f : Frame) (callers : List Frame) (i : Instr ℕ) : Type 0 where
  pub frames : s.frames ≡ f ∷ callers
  pub rest : List (Instr ℕ)
  pub stands : Stands f.code f.place (i ∷ rest)

-- these cells are on top of a stack
pub record OnTop (stack below row : List Cell) (n : ℕ) : Type 0 where
  pub is : stack ≡ below ++ row
  pub long : length row ≡ n

module _ (image : Image) (s : State) (f : Frame) (callers : List Frame) where
  -- ---- about the newest frame's stack, and cells

  pub frame_leads : (i : FrameInstr) (g : Frame) (final : Final) → Before s f callers (In_frame i) → frame_step i (past f) ≡ Some g → Leads image (with_frames s (g ∷ callers)) final → Leads image s final
  frame_leads i g final b e l = leads_on image s _ final (step_at image s f callers (In_frame i) b.rest b.frames b.stands ∙ ap (goes_with s callers) e) l

  pub local_leads : (i : AccessInstr ℕ) (reached : Reached) (final : Final) → Before s f callers (Local i) → access i f.cells f.stack ≡ Some reached → Leads image (with_frames s (local_step (past f) reached ∷ callers)) final → Leads image s final
  local_leads i reached final b e l =
      leads_on image s _ final (step_at image s f callers (Local i) b.rest b.frames b.stands ∙ ap (λ o. goes_with s callers (option_map (local_step (past f)) o)) e) l

  pub global_leads : (i : AccessInstr ℕ) (reached : Reached) (final : Final) → Before s f callers (Global i) → access i s.globals f.stack ≡ Some reached → Leads image (record s { frames = with_stack (past f) reached.stack ∷ callers; globals = reached.cells }) final → Leads image s final
  global_leads i reached final b e l =
      leads_on image s _ final (step_at image s f callers (Global i) b.rest b.frames b.stands ∙ ap (global_step s (past f) callers) e) l

  -- ---- operators and parts

  operates : (operator : Operator) (below row : List Cell) (o : Operated Cell) → Before s f callers (Operate operator) → OnTop f.stack below row (operands operator) → operate operator row ≡ o → step image s ≡ came (λ c. c ∷ []) s (past f) callers below o
  operates operator below row o b top e =
      step_at image s f callers (Operate operator) b.rest b.frames b.stands
      ∙ top_row f.stack below row (operands operator) _ top.is top.long
      ∙ ap (came (λ c. c ∷ []) s (past f) callers below) e

  pub operate_leads : (operator : Operator) (below row : List Cell) (c : Cell) (final : Final) → Before s f callers (Operate operator) → OnTop f.stack below row (operands operator) → operate operator row ≡ Gives c → Leads image (with_frames s (with_stack (past f) (below ++ c ∷ []) ∷ callers)) final → Leads image s final
  operate_leads operator below row c final b top e l = leads_on image s _ final (operates operator below row (Gives c) b top e) l

  pub operate_panics : (operator : Operator) (below row : List Cell) (kind : PanicKind) → Before s f callers (Operate operator) → OnTop f.stack below row (operands operator) → operate operator row ≡ Panics kind → Leads image s (Ends (Panicked kind) s.output)
  operate_panics operator below row kind b top e = leads_stop image s _ (operates operator below row (Panics kind) b top e)

  parts : (i : PartInstr) (below row : List Cell) (o : Operated (List Cell)) → Before s f callers (Part i) → OnTop f.stack below row (part_cells i) → part i row ≡ o → step image s ≡ came (λ cells. cells) s (past f) callers below o
  parts i below row o b top e =
      step_at image s f callers (Part i) b.rest b.frames b.stands
      ∙ top_row f.stack below row (part_cells i) _ top.is top.long
      ∙ ap (came (λ cells. cells) s (past f) callers below) e

  pub part_leads : (i : PartInstr) (below row cells : List Cell) (final : Final) → Before s f callers (Part i) → OnTop f.stack below row (part_cells i) → part i row ≡ Gives cells → Leads image (with_frames s (with_stack (past f) (below ++ cells) ∷ callers)) final → Leads image s final
  part_leads i below row cells final b top e l = leads_on image s _ final (parts i below row (Gives cells) b top e) l

  pub part_panics : (i : PartInstr) (below row : List Cell) (kind : PanicKind) → Before s f callers (Part i) → OnTop f.stack below row (part_cells i) → part i row ≡ Panics kind → Leads image s (Ends (Panicked kind) s.output)
  part_panics i below row kind b top e = leads_stop image s _ (parts i below row (Panics kind) b top e)

  -- ---- rows

  rows : (i : RowInstr) (below row : List Cell) (o : Operated Rowed) → Before s f callers (In_row i) → OnTop f.stack below row (row_cells i) → row_step i s.rows row ≡ o → step image s ≡ rowed s (past f) callers below o
  rows i below row o b top e =
      step_at image s f callers (In_row i) b.rest b.frames b.stands
      ∙ top_row f.stack below row (row_cells i) _ top.is top.long
      ∙ ap (rowed s (past f) callers below) e

  -- the state with other rows, past the instruction
  abbrev pub with_rows : List Cell → Rowed → State
  with_rows below r = record s { frames = with_stack (past f) (below ++ r.cells) ∷ callers; rows = r.rows }

  pub row_leads : (i : RowInstr) (below row : List Cell) (r : Rowed) (final : Final) → Before s f callers (In_row i) → OnTop f.stack below row (row_cells i) → row_step i s.rows row ≡ Gives r → Leads image (with_rows below r) final → Leads image s final
  row_leads i below row r final b top e l = leads_on image s _ final (rows i below row (Gives r) b top e) l

  pub row_panics : (i : RowInstr) (below row : List Cell) (kind : PanicKind) → Before s f callers (In_row i) → OnTop f.stack below row (row_cells i) → row_step i s.rows row ≡ Panics kind → Leads image s (Ends (Panicked kind) s.output)
  row_panics i below row kind b top e = leads_stop image s _ (rows i below row (Panics kind) b top e)

  -- ---- jumps

  -- the frame at another place, with another stack
  abbrev pub moved : ℕ → List Cell → State
  moved place stack = with_frames s (record f { place = place; stack = stack } ∷ callers)

  goes_ahead : (n : ℕ) (g : Frame) → g.place + n ≤ length g.code → goes_with s callers (ahead n g) ≡ Goes (with_frames s (record g { place = g.place + n } ∷ callers))
  goes_ahead n g within = ap (λ v. goes_with s callers (if v then Some (record g { place = g.place + n }) else None)) (le-leb _ _ within)

  pub jump_leads : (n : ℕ) (final : Final) → Before s f callers (Go_to (Jump n)) → f.place + 1 + n ≤ length f.code → Leads image (moved (f.place + 1 + n) f.stack) final → Leads image s final
  jump_leads n final b within l = leads_on image s _ final (step_at image s f callers (Go_to (Jump n)) b.rest b.frames b.stands ∙ goes_ahead n (past f) within) l

  pub jump_if_leads : (n : ℕ) (below : List Cell) (final : Final) → Before s f callers (Go_to (JumpIf n)) → f.stack ≡ below ++ Truth true ∷ [] → f.place + 1 + n ≤ length f.code → Leads image (moved (f.place + 1 + n) below) final → Leads image s final
  jump_if_leads n below final b top within l =
      leads_on image s _ final
      (step_at image s f callers (Go_to (JumpIf n)) b.rest b.frames b.stands
      ∙ top_row f.stack below (Truth true ∷ []) 1 _ top refl
      ∙ goes_ahead n (with_stack (past f) below) within) l

  pub jump_if_stays : (n : ℕ) (below : List Cell) (final : Final) → Before s f callers (Go_to (JumpIf n)) → f.stack ≡ below ++ Truth false ∷ [] → Leads image (moved (f.place + 1) below) final → Leads image s final
  jump_if_stays n below final b top l =
      leads_on image s _ final (step_at image s f callers (Go_to (JumpIf n)) b.rest b.frames b.stands ∙ top_row f.stack below (Truth false ∷ []) 1 _ top refl) l

  pub jump_if_not_leads : (n : ℕ) (below : List Cell) (final : Final) → Before s f callers (Go_to (JumpIfNot n)) → f.stack ≡ below ++ Truth false ∷ [] → f.place + 1 + n ≤ length f.code → Leads image (moved (f.place + 1 + n) below) final → Leads image s final
  jump_if_not_leads n below final b top within l =
      leads_on image s _ final
      (step_at image s f callers (Go_to (JumpIfNot n)) b.rest b.frames b.stands
      ∙ top_row f.stack below (Truth false ∷ []) 1 _ top refl
      ∙ goes_ahead n (with_stack (past f) below) within) l

  pub jump_if_not_stays : (n : ℕ) (below : List Cell) (final : Final) → Before s f callers (Go_to (JumpIfNot n)) → f.stack ≡ below ++ Truth true ∷ [] → Leads image (moved (f.place + 1) below) final → Leads image s final
  jump_if_not_stays n below final b top l =
      leads_on image s _ final (step_at image s f callers (Go_to (JumpIfNot n)) b.rest b.frames b.stands ∙ top_row f.stack below (Truth true ∷ []) 1 _ top refl) l

  -- a turn of a loop, where a tick is left or not
  turns : (n : ℕ) (below : List Cell) → Before s f callers (Go_to (LoopIf n)) → f.stack ≡ below ++ Truth true ∷ [] → n ≤ f.place + 1 → step image s ≡ turn s callers (Some (record f { place = f.place + 1 - n; stack = below }))
  turns n below b top within =
      step_at image s f callers (Go_to (LoopIf n)) b.rest b.frames b.stands
      ∙ top_row f.stack below (Truth true ∷ []) 1 _ top refl
      ∙ ap (λ v. turn s callers (if v then Some (record f { place = f.place + 1 - n; stack = below }) else None)) (le-leb _ _ within)

  pub loop_leads : (n : ℕ) (below : List Cell) (left : ℕ) (final : Final) → Before s f callers (Go_to (LoopIf n)) → f.stack ≡ below ++ Truth true ∷ [] → n ≤ f.place + 1 → s.ticks ≡ suc left → Leads image (record s { frames = record f { place = f.place + 1 - n; stack = below } ∷ callers; ticks = left }) final → Leads image s final
  loop_leads n below left final b top within ticks l =
      leads_on image s _ final
      (turns n below b top within ∙ ap (λ t. spend t s.output (λ left. Goes (record s { frames = record f { place = f.place + 1 - n; stack = below } ∷ callers; ticks = left }))) ticks) l

  pub loop_cut : (n : ℕ) (below : List Cell) → Before s f callers (Go_to (LoopIf n)) → f.stack ≡ below ++ Truth true ∷ [] → n ≤ f.place + 1 → s.ticks ≡ zero → Leads image s (Ends Cut s.output)
  loop_cut n below b top within ticks =
      leads_stop image s _
      (turns n below b top within ∙ ap (λ t. spend t s.output (λ left. Goes (record s { frames = record f { place = f.place + 1 - n; stack = below } ∷ callers; ticks = left }))) ticks)

  pub loop_leaves : (n : ℕ) (below : List Cell) (final : Final) → Before s f callers (Go_to (LoopIf n)) → f.stack ≡ below ++ Truth false ∷ [] → Leads image (moved (f.place + 1) below) final → Leads image s final
  loop_leaves n below final b top l =
      leads_on image s _ final (step_at image s f callers (Go_to (LoopIf n)) b.rest b.frames b.stands ∙ top_row f.stack below (Truth false ∷ []) 1 _ top refl) l

  -- ---- a panic of the program's own

  pub panic_leads : (below : List Cell) (text : List ℕ) → Before s f callers (To_output Panic) → f.stack ≡ below ++ Text text ∷ [] → Leads image s (Ends (Panicked (User text)) s.output)
  panic_leads below text b top =
      leads_stop image s _ (step_at image s f callers (To_output Panic) b.rest b.frames b.stands ∙ top_row f.stack below (Text text ∷ []) 1 _ top refl)
