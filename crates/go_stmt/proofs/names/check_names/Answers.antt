use Rattle.std.proofs.Common.{◌≡◌, ◌∙◌, ◌||◌, Bool, true, false, is_some, sym, ap, ◌<◌, length, arith}
use Rattle.std.proofs.Common.{take, drop, ◌+◌, ◌++◌, ◌∷◌, []}
use Rattle.go_text.specs.declared.fault.FaultKind.TheVariants.{Redeclared}
use Rattle.go_stmt.specs.Scopes.{StatementFaults, own}
use Rattle.go_stmt.specs.Statements.{names_faults}
use Rattle.go_stmt.specs.Views.{env_of, own_texts}
use Rattle.go_stmt.proofs.Naming.{is_in, is_doubled, doubled_in, texts_taken, next_fine, next_faulty}
use Rattle.go_stmt.proofs.names.check_names.Goals as goal

pub returns-then-is_taken : goal.returns-then-is_taken
returns-then-is_taken c =
    let env = env_of c.args.env.now in
    let names = c.args.names.now in
    let i = c.loop-name.name-index in
    let n = c.name-item.result in
    let within : i < length names = omega arith in
    let rest : StatementFaults = names_faults env (take i names ++ n ∷ []) (drop (i + 1) names) in
    let known : (is_some (own env n) || c.in_ok-doubled.doubled) ≡ is_doubled env (take i names) n =
    ap (λ (b : Bool). is_some (own env n) || b) (c.in_ok-doubled.ensures.known ∙ ap (λ l. is_in l n) c.loop-name.invariant.texts) ∙ doubled_in env (take i names) n in
    let doubled : is_doubled env (take i names) n ≡ true = sym known ∙ sym c.is_taken.ensures ∙ c.if-is_taken.true in
    (rest, sym c.loop-name.invariant.faults ∙ next_faulty env names i n within c.name-item.is doubled ∙ ap (λ p. (p, Redeclared) ∷ rest) (sym c.place.ensures))

pub loop-name-preserved : goal.loop-name-preserved
loop-name-preserved c =
    let env = env_of c.args.env.now in
    let names = c.args.names.now in
    let i = c.loop-name.name-index in
    let n = c.name-item.result in
    let within : i < length names = omega arith in
    let known : (is_some (own env n) || c.in_ok-doubled.doubled) ≡ is_doubled env (take i names) n =
    ap (λ (b : Bool). is_some (own env n) || b) (c.in_ok-doubled.ensures.known ∙ ap (λ l. is_in l n) c.loop-name.invariant.texts) ∙ doubled_in env (take i names) n in
    let fine : is_doubled env (take i names) n ≡ false = sym known ∙ sym c.is_taken.ensures ∙ c.if-is_taken.false in
    record {
      texts = c.in_ok-doubled.ensures.added ∙ ap (λ l. l ++ own_texts (n ∷ [])) c.loop-name.invariant.texts ∙ texts_taken names i n within c.name-item.is;
      faults = next_fine env names i n within c.name-item.is fine ∙ c.loop-name.invariant.faults;
    }
