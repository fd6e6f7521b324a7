-- Functions, by their parameters and what is inside them.
use Rattle.std.proofs.Common.{◌≡◌, [], ◌++◌, Option, List, ap, sym, ◌∙◌, subst}
use Rattle.std.specs.Option.{option_map}
use Rattle.go_ast.specs.Trees.{TypeExpr, Parameter, FunctionDecl}
use Rattle.go_types.specs.Types.{Type'}
use Rattle.go_typed.specs.Trees as typed
use Rattle.go_expr.specs.declared.error.ExprError.{ExprError}
use Rattle.go_expr.specs.Rules.{fine}
use Rattle.go_expr.specs.Views.{Fails}
use Rattle.go_expr.specs.Verdicts.{asked, both, broken}
use Rattle.go_stmt.specs.Scopes.{StatementEnv, Context, Checked, StatementFaults, nothing, follow}
use Rattle.go_stmt.specs.Functions.{parameters_at, body_at, closing_place, CheckedParts, whole_function, function_from, function_at}
use Rattle.go_stmt.proofs.Failing.{fails_front, fails_next}
use Rattle.go_stmt.proofs.Sequences.{later_faults, later_after, later_known}

abbrev Inner : Type 0
Inner = List Type' × List typed.Stmt

-- what the whole function is asked for, by what is known of its parts
abbrev pub end_of : FunctionDecl → Option (List Type') → Option Inner → StatementFaults
end_of f a b = broken (closing_place f.body) (asked whole_function (both a b))

pub function_fails : (e : ExprError) (k : Context) (f : FunctionDecl) (ps : List Parameter) (rs : List TypeExpr) (begun there : StatementEnv) → ps ≡ f.parameters → rs ≡ f.results → begun ≡ nothing →
    (parameters_at k ps begun).faults ≡ [] → there ≡ (parameters_at k ps begun).after → Fails e (body_at k rs f.body there).faults → Fails e (function_at k f).faults
unfolding function_at
function_fails e k f ps rs begun there p r b none after told =
    let same : parameters_at k ps begun ≡ parameters_at k f.parameters nothing = ap (λ (l : List Parameter). parameters_at k l begun) p ∙ ap (parameters_at k f.parameters) b in
    let form = follow (parameters_at k f.parameters) (body_at k f.results f.body) in
    fails_front e (form nothing).faults _
    (fails_next e (parameters_at k f.parameters) (body_at k f.results f.body) nothing there
    (sym (ap (λ (x : Checked (List Type')). x.faults) same) ∙ none) (after ∙ ap (λ (x : Checked (List Type')). x.after) same)
    (subst (λ (l : List TypeExpr). Fails e (body_at k l f.body there).faults) r told))

-- the parts of a function that have no fault
pub record Parted (k : Context) (f : FunctionDecl) (a : Option (List Type')) (b : Option Inner) (ts : List Type') : Type 0 where
  pub faults : (follow (parameters_at k f.parameters) (body_at k f.results f.body) nothing).faults ≡ []
  pub known : (follow (parameters_at k f.parameters) (body_at k f.results f.body) nothing).known ≡ both a b
  pub types : (follow (parameters_at k f.parameters) (body_at k f.results f.body) nothing).after.types ≡ ts

pub function_parted : (k : Context) (f : FunctionDecl) (ps : List Parameter) (rs : List TypeExpr) (begun there : StatementEnv) (types : List Type') (a : Option (List Type')) (b : Option Inner) →
    ps ≡ f.parameters → rs ≡ f.results → begun ≡ nothing → (parameters_at k ps begun).faults ≡ [] → (parameters_at k ps begun).known ≡ a → there ≡ (parameters_at k ps begun).after →
    (body_at k rs f.body there).faults ≡ [] → (body_at k rs f.body there).known ≡ b → types ≡ (body_at k rs f.body there).after.types → Parted k f a b types
function_parted k f ps rs begun there types a b p r beginning none found after none_inside found_inside typed_so =
    let first = parameters_at k f.parameters in
    let second = body_at k f.results f.body in
    let same : parameters_at k ps begun ≡ first nothing = ap (λ (l : List Parameter). parameters_at k l begun) p ∙ ap first beginning in
    let inner : body_at k rs f.body there ≡ second there = ap (λ (l : List TypeExpr). body_at k l f.body there) r in
    let gone : there ≡ (first nothing).after = after ∙ ap (λ (x : Checked (List Type')). x.after) same in
    record {
      faults = later_faults first second nothing there (sym (ap (λ (x : Checked (List Type')). x.faults) same) ∙ none) gone ∙ sym (ap (λ (x : Checked Inner). x.faults) inner) ∙ none_inside;
      known = later_known first second nothing there a (sym (ap (λ (x : Checked (List Type')). x.known) same) ∙ found) gone ∙ ap (both a) (sym (ap (λ (x : Checked Inner). x.known) inner) ∙ found_inside);
      types = ap (λ (x : StatementEnv). x.types) (later_after first second nothing there gone) ∙ sym (ap (λ (x : Checked Inner). x.after.types) inner) ∙ sym typed_so;
    }

-- one whose rule is broken, and one whose isn't
pub function_end_fails : (e : ExprError) (k : Context) (f : FunctionDecl) (a : Option (List Type')) (b : Option Inner) (types : List Type') → Parted k f a b types →
    Fails e (end_of f a b) → Fails e (function_at k f).faults
unfolding function_at
function_end_fails e k f a b types parted h =
    let form = follow (parameters_at k f.parameters) (body_at k f.results f.body) in
    let own = λ (o : Option CheckedParts). broken (closing_place f.body) (asked whole_function o) in
    subst (λ (l : StatementFaults). Fails e l) (sym (ap (λ l. l ++ own (form nothing).known) parted.faults ∙ ap own parted.known)) h

pub function_answered : (k : Context) (f : FunctionDecl) (a : Option (List Type')) (b : Option Inner) (types : List Type') (parts : Option CheckedParts) (known : Option typed.Function) → Parted k f a b types →
    end_of f a b ≡ [] → fine (asked whole_function (both a b)) ≡ parts → known ≡ option_map (function_from f types) parts → ((function_at k f).faults ≡ []) × ((function_at k f).known ≡ known)
unfolding function_at
function_answered k f a b types parts known parted unbroken gives is =
    let form = follow (parameters_at k f.parameters) (body_at k f.results f.body) in
    let own = λ (o : Option CheckedParts). broken (closing_place f.body) (asked whole_function o) in (
      ap (λ l. l ++ own (form nothing).known) parted.faults ∙ ap own parted.known ∙ unbroken,
      ap (λ (o : Option CheckedParts). option_map (function_from f (form nothing).after.types) (fine (asked whole_function o))) parted.known
          ∙ ap (option_map (function_from f (form nothing).after.types)) gives ∙ ap (λ (l : List Type'). option_map (function_from f l) parts) parted.types ∙ sym is,
    )
