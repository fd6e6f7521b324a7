-- Functions and zero values of an object, piece by piece.
use Rattle.std.proofs.Common.{◌≡◌, refl, ℕ, zero, suc, ◌+◌, ◌*◌, List, [], ◌∷◌, ◌++◌, length, length-append, replicate, sym, ap, ◌∙◌, append-nil, append_assoc, arith}
use Rattle.std.proofs.Math.Nat.{suc-mul, zero-mul}
use Rattle.std.specs.Prelude.{slice_index, map}
use Rattle.go_types.specs.declared.types.GoType.{GoType}
use Rattle.go_types.specs.Types.{Type', basic, array, slice, struct, named, Fields, no_fields, field}
use Rattle.go_types.specs.Views.{go_type}
use Rattle.go_types.specs.Sizes.{cells, cells_of}
use Rattle.go_code.specs.declared.instr.Instr.{Instr}
use Rattle.go_code.specs.Functions.{FunctionCode}
use Rattle.go_symbol.specs.Symbols as symbols
use Rattle.go_typed.specs.Trees as trees
use Rattle.go_typed.specs.declared.package.TypedFunction.{TypedFunction}
use Rattle.go_typed.specs.declared.statement.TypedStmt.{TypedStmt}
use Rattle.go_typed.specs.Views.{stmts_in, as_function}
use Rattle.go_code.specs.declared.cell.Cell.{Cell}
use Rattle.go_meaning.specs.Values.{Value, pack_values, flat, flat_all, zero_of, zeros_of}
use Rattle.go_gen.specs.Translation.{total, slots, stmts_temps, body_code, symbol_code, translated}

total_append : (xs ys : List Type') → total (xs ++ ys) ≡ total xs + total ys
total_append [] ys = omega arith
total_append (t ∷ ts) ys = let more = total_append ts ys in omega (arith, more)

slots_append : (at : ℕ) (xs ys : List Type') → slots at (xs ++ ys) ≡ slots at xs ++ slots (at + total xs) ys
slots_append at [] ys = let e : at ≡ at + 0 = omega arith in ap (λ n. slots n ys) e
slots_append at (t ∷ ts) ys =
    let e : at + cells t + total ts ≡ at + (cells t + total ts) = omega arith in
    ap (λ l. at ∷ l) (slots_append (at + cells t) ts ys ∙ ap (λ n. slots (at + cells t) ts ++ slots n ys) e)

abbrev of_parts : ℕ → ℕ → List (Instr symbols.Symbol) → FunctionCode symbols.Symbol
of_parts parameters count code = record { parameters = parameters; cells = count; code = code }

-- a function of its parts: where its variables lie, how many cells they take, and its code
pub function_made : (f : trees.Function) (slots1 slots2 : List ℕ) (parameters size n count : ℕ) (code : List (Instr symbols.Symbol)) → slots1 ≡ slots 0 f.parameters → parameters ≡ 0 + total f.parameters → slots2 ≡ slots1 ++ slots parameters f.locals → size ≡ parameters + total f.locals → code ≡ body_code (record { locals = slice_index slots2; globals = symbol_code; functions = symbol_code }) size f.body → n ≡ stmts_temps f.body → count ≡ size + n → of_parts parameters count code ≡ translated symbol_code symbol_code f
function_made f slots1 slots2 parameters size n count code s1 h1 s2 h2 is h3 h4 =
    let all : List Type' = f.parameters ++ f.locals in
    let size1 : size ≡ total all = omega (arith, h1, h2, total_append f.parameters f.locals) in
    let slots3 : slots2 ≡ slots 0 all =
    s2 ∙ ap (λ l. l ++ slots parameters f.locals) s1 ∙ ap (λ m. slots 0 f.parameters ++ slots m f.locals) h1 ∙ sym (slots_append 0 f.parameters f.locals) in
    let first : parameters ≡ total f.parameters = omega (arith, h1) in
    let cells1 : count ≡ total all + stmts_temps f.body = h4 ∙ ap (λ m. m + n) size1 ∙ ap (λ m. total all + m) h3 in
    let code1 : code ≡ body_code (record { locals = slice_index (slots 0 all); globals = symbol_code; functions = symbol_code }) (total all) f.body =
    is ∙ ap (λ l. body_code (record { locals = slice_index l; globals = symbol_code; functions = symbol_code }) size f.body) slots3
    ∙ ap (λ m. body_code (record { locals = slice_index (slots 0 all); globals = symbol_code; functions = symbol_code }) m f.body) size1 in
    ap (λ m. of_parts m count code) first
    ∙ ap (λ m. of_parts (total f.parameters) m code) cells1
    ∙ ap (λ l. of_parts (total f.parameters) (total all + stmts_temps f.body) l) code1

-- the same of what the code has: vectors, and the slices that are made of them
pub function_seen : (f : TypedFunction) (ts1 ts2 : List GoType) (slots0 slots1 slots2 slots3 : List ℕ) (parameters size n count : ℕ) (body1 body2 : List TypedStmt) (code : List (Instr symbols.Symbol)) → slots0 ≡ [] → ts1 ≡ f.parameters.items → slots1 ≡ slots0 ++ slots 0 (map go_type ts1) → parameters ≡ 0 + total (map go_type ts1) → ts2 ≡ f.locals.items → slots2 ≡ slots1 ++ slots parameters (map go_type ts2) → size ≡ parameters + total (map go_type ts2) → slots3 ≡ slots2 → body1 ≡ f.body.items → code ≡ body_code (record { locals = slice_index slots3; globals = symbol_code; functions = symbol_code }) size (stmts_in body1) → body2 ≡ f.body.items → n ≡ stmts_temps (stmts_in body2) → count ≡ size + n → of_parts parameters count code ≡ translated symbol_code symbol_code (as_function f)
function_seen f ts1 ts2 slots0 slots1 slots2 slots3 parameters size n count body1 body2 code s0 t1 s1 h1 t2 s2 h2 s3 b1 is b2 h3 h4 =
    let first : slots1 ≡ slots 0 (map go_type f.parameters.items) = s1 ∙ ap (λ l. l ++ slots 0 (map go_type ts1)) s0 ∙ ap (λ l. slots 0 (map go_type l)) t1 in
    let code1 : code ≡ body_code (record { locals = slice_index slots2; globals = symbol_code; functions = symbol_code }) size (stmts_in f.body.items) =
    is ∙ ap (λ l. body_code (record { locals = slice_index l; globals = symbol_code; functions = symbol_code }) size (stmts_in body1)) s3
    ∙ ap (λ l. body_code (record { locals = slice_index slots2; globals = symbol_code; functions = symbol_code }) size (stmts_in l)) b1 in
    function_made (as_function f) slots1 slots2 parameters size n count code first (h1 ∙ ap (λ l. 0 + total (map go_type l)) t1) (s2 ∙ ap (λ l. slots1 ++ slots parameters (map go_type l)) t2)
    (h2 ∙ ap (λ l. parameters + total (map go_type l)) t2) code1 (h3 ∙ ap (λ l. stmts_temps (stmts_in l)) b2) h4

-- one more element of an array
pub element_more : (n : ℕ) (v : Value) → flat_all (pack_values (replicate n v)) ++ flat v ≡ flat_all (pack_values (replicate (suc n) v))
element_more zero v = sym (append-nil (flat v))
element_more (suc n) v = append_assoc (flat v) (flat_all (pack_values (replicate n v))) (flat v) ∙ ap (λ l. flat v ++ l) (element_more n v)

-- behind others
pub element_kept : (before found new one : List Cell) (n : ℕ) (v : Value) → one ≡ flat v → found ≡ before ++ flat_all (pack_values (replicate n v)) → new ≡ found ++ one → new ≡ before ++ flat_all (pack_values (replicate (n + 1) v))
element_kept before found new one n v same is h =
    let next : suc n ≡ n + 1 = omega arith in
    h ∙ ap (λ l. found ++ l) same ∙ ap (λ l. l ++ flat v) is ∙ append_assoc before (flat_all (pack_values (replicate n v))) (flat v)
    ∙ ap (λ l. before ++ l) (element_more n v) ∙ ap (λ m. before ++ flat_all (pack_values (replicate m v))) next

-- how many cells a zero value has
copies_long : (n size : ℕ) (v : Value) → length (flat v) ≡ size → length (flat_all (pack_values (replicate n v))) ≡ n * size
copies_long zero size v long = sym (zero-mul size)
copies_long (suc n) size v long =
    let rest = copies_long n size v long in
    omega (arith, length-append (flat v) (flat_all (pack_values (replicate n v))), rest, long, suc-mul n size)

mutual
  zero_long : (t : Type') → length (flat (zero_of t)) ≡ cells t
  zero_long (basic b) = refl
  zero_long (array n t) = copies_long n (cells t) (zero_of t) (zero_long t)
  zero_long (slice t) = refl
  zero_long (struct fs) = zeros_long fs
  zero_long (named path name t) = zero_long t

  zeros_long : (fs : Fields) → length (flat_all (zeros_of fs)) ≡ cells_of fs
  zeros_long no_fields = refl
  zeros_long (field p x t fs) =
      let one = zero_long t in
      let rest = zeros_long fs in
      omega (arith, length-append (flat (zero_of t)) (flat_all (zeros_of fs)), one, rest)

no_items : (cs : List Cell) → length cs ≡ 0 → cs ≡ []
no_items [] none = refl
no_items (c ∷ cs) none = absurd (omega (arith, none))

-- elements without cells have none together
none_together : (n : ℕ) (v : Value) → flat v ≡ [] → flat_all (pack_values (replicate n v)) ≡ []
none_together zero v none = refl
none_together (suc n) v none = ap (λ l. l ++ flat_all (pack_values (replicate n v))) none ∙ none_together n v none

-- behind others
pub none_kept : (before : List Cell) (n : ℕ) (t : Type') → cells t ≡ 0 → before ≡ before ++ flat_all (pack_values (replicate n (zero_of t)))
none_kept before n t none =
    sym (ap (λ l. before ++ l) (none_together n (zero_of t) (no_items (flat (zero_of t)) (zero_long t ∙ none))) ∙ append-nil before)
