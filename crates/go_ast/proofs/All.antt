-- The theory of one token, for all states: what leads from a state to a file is kept from token to token, both ways.
use Rattle.std.proofs.Common.{◌≡◌, ℕ, true, List, [], ◌∷◌}
use Rattle.go_text.specs.declared.edition.Edition.{Edition}
use Rattle.go_ast.specs.Trees.{conditional, no_else, File}
use Rattle.go_ast.specs.Grammar.{Lexeme}
use Rattle.go_ast.specs.Machine.{ListKind, fields, arguments, elements, const_specs, var_specs, type_specs, import_specs, statements, parameters, results, Reader, ended, token, package_name, import_path, optional, newer, operands, type, optional_type, expr, optional_expr, suffixes, operators, more_names, more_exprs, list_start, list_end, lefts, else_part, clause_start, clause_end, import_end, decl_end, parser_step}
use Rattle.go_ast.proofs.Called.{operands_first, operands_back, operands_forth, operands_kept, operands_comes}
use Rattle.go_ast.proofs.Newer.{newer_back, newer_forth, newer_kept, newer_first, newer_comes}
use Rattle.go_ast.proofs.Means.{begins, Means, Okay, Good, After, Kept}
use Rattle.go_ast.proofs.Tokens.{token_back, token_forth, token_kept, token_first, token_comes, package_name_back, package_name_forth, package_name_kept, package_name_first, package_name_comes, import_path_back, import_path_forth, import_path_kept, import_path_first, import_path_comes, optional_back, optional_forth, optional_kept, optional_first, optional_comes, ended_forth, ended_comes}
use Rattle.go_ast.proofs.Lists.{Items, list_start_back, list_start_forth, list_start_kept, list_start_first, list_start_comes, list_end_back, list_end_forth, list_end_kept, list_end_first, list_end_comes}
use Rattle.go_ast.proofs.Types.{on_type_back, on_type_forth, on_type_kept, type_back, type_forth, type_kept, type_begins, type_comes}
use Rattle.go_ast.proofs.Operands.{on_expr_back, on_expr_forth, on_expr_kept, expr_back, expr_forth, expr_kept, expr_begins, expr_comes}
use Rattle.go_ast.proofs.Elements.{field_items, argument_items, element_items, result_items}
use Rattle.go_ast.proofs.Suffixes.{suffixes_back, suffixes_forth, suffixes_kept, suffixes_first, suffixes_comes}
use Rattle.go_ast.proofs.Operators.{operators_back, operators_forth, operators_kept, operators_first, operators_comes}
use Rattle.go_ast.proofs.More.{more_names_back, more_names_forth, more_names_kept, more_names_first, more_names_comes, more_exprs_back, more_exprs_forth, more_exprs_kept, more_exprs_first, more_exprs_comes, optional_expr_back, optional_expr_forth, optional_expr_kept, optional_expr_okay, optional_expr_first, optional_expr_comes, optional_type_back, optional_type_forth, optional_type_kept, optional_type_okay, optional_type_first, optional_type_comes}
use Rattle.go_ast.proofs.Lefts.{lefts_back, lefts_forth}
use Rattle.go_ast.proofs.LeftsKept.{lefts_kept, lefts_first, lefts_comes}
use Rattle.go_ast.proofs.Ifs.{else_part_back, else_part_forth, else_part_kept, else_part_first, else_part_comes}
use Rattle.go_ast.proofs.ClauseLists.{clause_start_back, clause_start_forth, clause_start_kept, clause_start_first, clause_start_comes, clause_end_back, clause_end_forth, clause_end_kept, clause_end_first, clause_end_comes}
use Rattle.go_ast.proofs.Statements.{OnStmt, statement_items}
use Rattle.go_ast.proofs.Declarations.{const_items, var_items, type_items, import_items, parameter_items}
use Rattle.go_ast.proofs.Files.{import_end_back, import_end_forth, import_end_kept, import_end_first, import_end_comes, decl_end_back, decl_end_forth, decl_end_kept, decl_end_first, decl_end_comes, start_back, start_forth, start_good}
use Rattle.go_ast.proofs.Over.{over, ends}
use Rattle.go_ast.proofs.Final.{Theory}

module _ (ed : Edition) (B : ℕ) (on : OnStmt ed B) where
  items : (k : ListKind) → Items ed B k
  items (fields l) = field_items ed B l
  items (arguments l) = argument_items ed B l
  items (elements l) = element_items ed B l
  items (const_specs l) = const_items ed B l
  items (var_specs l) = var_items ed B l
  items (type_specs l) = type_items ed B l
  items import_specs = import_items ed B
  items (statements l) = statement_items ed B on l
  items parameters = parameter_items ed B
  items results = result_items ed B

  -- what leads to a file begins as the state may begin
  first : (s : Reader) (t : Lexeme) (us : List Lexeme) (f : File) → Means ed B s (t ∷ us) f → begins s t.kind ≡ true
  first (ended g) t us f m = absurd (ended_forth ed B g t us f m)
  first (token kind need x next) t us f m = token_first ed B kind need x next t us f m
  first (package_name next) t us f m = package_name_first ed B next t us f m
  first (import_path x next) t us f m = import_path_first ed B x next t us f m
  first (optional kind need some none) t us f m = optional_first ed B kind need some none t us f (λ n. first none t us f n) m
  first (newer kind need x some none) t us f m = newer_first ed B kind need x some none t us f (λ n. first none t us f n) m
  first (type l x next) t us f m = type_begins ed B l x next t us f m
  first (optional_type l x some none) t us f m = optional_type_first ed B l x some none t us f (type_begins ed B l x some t us f) (λ n. first none t us f n) m
  first (expr n h l x next) t us f m = expr_begins ed B n h l x next t us f m
  first (optional_expr h l x some none) t us f m = optional_expr_first ed B h l x some none t us f (expr_begins ed B 5 h l x some t us f) (λ n. first none t us f n) m
  first (suffixes h l a next) t us f m = suffixes_first ed B h l a next t us f (λ n. first (next a) t us f n) m
  first (operators n h l a next) t us f m = operators_first ed B n h l a next t us f (λ n. first (next a) t us f n) m
  first (more_names front next) t us f m = more_names_first ed B front next t us f (λ n. first (next front) t us f n) m
  first (more_exprs h l front next) t us f m = more_exprs_first ed B h l front next t us f (λ n. first (next front) t us f n) m
  first (operands l next) t us f m = operands_first ed B l next t us f m
  first (list_start k front next) t us f m = list_start_first ed B k (items k) front next t us f m
  first (list_end k x front next) t us f m = list_end_first ed B k x front next t us f m
  first (lefts p h l front next alone range) t us f m =
      lefts_first ed B p h l next alone range t us f front (λ e n. first (alone e) t us f n) (λ s n. first (next s) t us f n) m
  first (else_part l p i c b next) t us f m = else_part_first ed B l p i c b next t us f (λ n. first (next (conditional p i c b no_else)) t us f n) m
  first (clause_start l done p values front next) t us f m = clause_start_first ed B on l done p values next front t us f m
  first (clause_end l x done p values front next) t us f m = clause_end_first ed B on l done p values next x front t us f m
  first (import_end p iss) t us f m = import_end_first ed B p iss t us f m
  first (decl_end p is ds) t us f m = decl_end_first ed B p is ds t us f m

  back : (s : Reader) (t : Lexeme) (us : List Lexeme) (f : File) → Okay ed B s → After ed B (parser_step ed s t) us f → Means ed B s (t ∷ us) f
  back (ended g) t us f ok a = absurd a
  back (token kind need x next) t us f ok a = token_back ed B kind need x next t us f a
  back (package_name next) t us f ok a = package_name_back ed B next t us f a
  back (import_path x next) t us f ok a = import_path_back ed B x next t us f a
  back (optional kind need some none) t us f ok a = optional_back ed B kind need some none t us f (λ b. back none t us f ok.1 b) a
  back (newer kind need x some none) t us f ok a = newer_back ed B kind need x some none t us f (λ b. back none t us f ok.1 b) a
  back (type l x next) t us f ok a = type_back ed B l x next t us f a
  back (optional_type l x some none) t us f ok a = optional_type_back ed B l x some none t us f (on_type_back ed B l x some t us f) (λ b. back none t us f ok.2 b) a
  back (expr n h l x next) t us f ok a = expr_back ed B n h l x next t us f a
  back (optional_expr h l x some none) t us f ok a =
      optional_expr_back ed B h l x some none t us f (on_expr_back ed B 5 h l x some t us f) (λ b. back none t us f ok.2 b) a
  back (suffixes h l e next) t us f ok a = suffixes_back ed B h l e next t us f ok.0 (λ b. back (next e) t us f (ok.1 e ok.0).1 b) a
  back (operators n h l e next) t us f ok a = operators_back ed B n h l e next t us f ok.0 (λ b. back (next e) t us f (ok.1 e ok.0).1 b) a
  back (more_names front next) t us f ok a = more_names_back ed B front next t us f (λ b. back (next front) t us f (ok.0 front).1 b) a
  back (more_exprs h l front next) t us f ok a = more_exprs_back ed B h l front next t us f (λ b. back (next front) t us f (ok.2 front ok.1).1 b) a
  back (operands l next) t us f ok a = operands_back ed B l next t us f a
  back (list_start k front next) t us f ok a = list_start_back ed B k (items k) front next t us f ok.0 a
  back (list_end k x front next) t us f ok a = list_end_back ed B k x front next t us f a
  back (lefts p h l front next alone range) t us f ok a =
      lefts_back ed B p h l next alone range t us f front ok (λ e o b. back (alone e) t us f o b) (λ s o b. back (next s) t us f o b) a
  back (else_part l p i c b next) t us f ok a = else_part_back ed B l p i c b next t us f ok (λ o d. back (next (conditional p i c b no_else)) t us f o d) a
  back (clause_start l done p values front next) t us f ok a = clause_start_back ed B on l done p values next front t us f ok a
  back (clause_end l x done p values front next) t us f ok a = clause_end_back ed B on l done p values next x front t us f ok a
  back (import_end p iss) t us f ok a = import_end_back ed B p iss t us f a
  back (decl_end p is ds) t us f ok a = decl_end_back ed B p is ds t us f a

  forth : (s : Reader) (t : Lexeme) (us : List Lexeme) (f : File) → Okay ed B s → Means ed B s (t ∷ us) f → After ed B (parser_step ed s t) us f
  forth (ended g) t us f ok m = absurd (ended_forth ed B g t us f m)
  forth (token kind need x next) t us f ok m = token_forth ed B kind need x next t us f m
  forth (package_name next) t us f ok m = package_name_forth ed B next t us f m
  forth (import_path x next) t us f ok m = import_path_forth ed B x next t us f m
  forth (optional kind need some none) t us f ok m =
      optional_forth ed B kind need some none t us f (λ n. forth none t us f ok.1 n) (λ n. first none t us f n) ok.2 m
  forth (newer kind need x some none) t us f ok m = newer_forth ed B kind need x some none t us f (λ n. forth none t us f ok.1 n) (λ n. first none t us f n) ok.2 m
  forth (type l x next) t us f ok m = type_forth ed B l x next t us f m
  forth (optional_type l x some none) t us f ok m =
      optional_type_forth ed B l x some none t us f ok (type_begins ed B l x some t us f) (on_type_forth ed B l x some t us f) (λ n. first none t us f n)
      (λ n. forth none t us f ok.2 n) m
  forth (expr n h l x next) t us f ok m = expr_forth ed B n h l x next t us f m
  forth (optional_expr h l x some none) t us f ok m =
      optional_expr_forth ed B h l x some none t us f ok (expr_begins ed B 5 h l x some t us f) (on_expr_forth ed B 5 h l x some t us f) (λ n. first none t us f n)
      (λ n. forth none t us f ok.2 n) m
  forth (suffixes h l e next) t us f ok m =
      suffixes_forth ed B h l e next t us f ok (λ n. first (next e) t us f n) (λ n. forth (next e) t us f (ok.1 e ok.0).1 n) m
  forth (operators n h l e next) t us f ok m =
      operators_forth ed B n h l e next t us f ok (λ n. first (next e) t us f n) (λ n. forth (next e) t us f (ok.1 e ok.0).1 n) m
  forth (more_names front next) t us f ok m =
      more_names_forth ed B front next t us f ok (λ n. first (next front) t us f n) (λ n. forth (next front) t us f (ok.0 front).1 n) m
  forth (more_exprs h l front next) t us f ok m =
      more_exprs_forth ed B h l front next t us f ok (λ n. first (next front) t us f n) (λ n. forth (next front) t us f (ok.2 front ok.1).1 n) m
  forth (operands l next) t us f ok m = operands_forth ed B l next t us f m
  forth (list_start k front next) t us f ok m = list_start_forth ed B k (items k) front next t us f m
  forth (list_end k x front next) t us f ok m = list_end_forth ed B k x front next t us f m
  forth (lefts p h l front next alone range) t us f ok m =
      lefts_forth ed B p h l next alone range t us f front ok (λ e o n. forth (alone e) t us f o n) (λ s o n. forth (next s) t us f o n)
      (λ s n. first (next s) t us f n) m
  forth (else_part l p i c b next) t us f ok m =
      else_part_forth ed B l p i c b next t us f ok (λ o n. forth (next (conditional p i c b no_else)) t us f o n)
      (λ n. first (next (conditional p i c b no_else)) t us f n) m
  forth (clause_start l done p values front next) t us f ok m = clause_start_forth ed B on l done p values next front t us f m
  forth (clause_end l x done p values front next) t us f ok m = clause_end_forth ed B on l done p values next x front t us f m
  forth (import_end p iss) t us f ok m = import_end_forth ed B p iss t us f m
  forth (decl_end p is ds) t us f ok m = decl_end_forth ed B p is ds t us f m

  kept : (s : Reader) (t : Lexeme) → Okay ed B s → Kept ed B (parser_step ed s t)
  kept (ended g) t ok = tt
  kept (token kind need x next) t ok = token_kept ed B kind need x next t ok
  kept (package_name next) t ok = package_name_kept ed B next t ok
  kept (import_path x next) t ok = import_path_kept ed B x next t ok
  kept (optional kind need some none) t ok = optional_kept ed B kind need some none t ok (kept none t ok.1)
  kept (newer kind need x some none) t ok = newer_kept ed B kind need x some none t ok (kept none t ok.1)
  kept (type l x next) t ok = type_kept ed B l x next t ok
  kept (optional_type l x some none) t ok =
      optional_type_kept ed B l x some none t (on_type_kept ed B l x some t (optional_type_okay ed B l x some none ok)) (kept none t ok.2)
  kept (expr n h l x next) t ok = expr_kept ed B n h l x next t ok
  kept (optional_expr h l x some none) t ok =
      optional_expr_kept ed B h l x some none t (on_expr_kept ed B 5 h l x some t (optional_expr_okay ed B h l x some none ok)) (kept none t ok.2)
  kept (suffixes h l e next) t ok = suffixes_kept ed B h l e next t ok (kept (next e) t (ok.1 e ok.0).1)
  kept (operators n h l e next) t ok = operators_kept ed B n h l e next t ok (kept (next e) t (ok.1 e ok.0).1)
  kept (more_names front next) t ok = more_names_kept ed B front next t ok (kept (next front) t (ok.0 front).1)
  kept (more_exprs h l front next) t ok = more_exprs_kept ed B h l front next t ok (kept (next front) t (ok.2 front ok.1).1)
  kept (operands l next) t ok = operands_kept ed B l next t ok
  kept (list_start k front next) t ok = list_start_kept ed B k (items k) front next t ok
  kept (list_end k x front next) t ok = list_end_kept ed B k x front next t ok
  kept (lefts p h l front next alone range) t ok = lefts_kept ed B p h l next alone range t front ok (λ e o. kept (alone e) t o) (λ s o. kept (next s) t o)
  kept (else_part l p i c b next) t ok = else_part_kept ed B l p i c b next t ok (λ o. kept (next (conditional p i c b no_else)) t o)
  kept (clause_start l done p values front next) t ok = clause_start_kept ed B on l done p values next front t ok
  kept (clause_end l x done p values front next) t ok = clause_end_kept ed B on l done p values next x front t ok
  kept (import_end p iss) t ok = import_end_kept ed B p iss t ok
  kept (decl_end p is ds) t ok = decl_end_kept ed B p is ds t ok

  -- some tokens lead on to a file
  comes : (s : Reader) → Good ed B s → (us : List Lexeme) × (f : File) × Means ed B s us f
  comes (ended g) ok = ended_comes ed B g
  comes (token kind need x next) ok = token_comes ed B kind need x next ok (λ t g. comes (next t) g)
  comes (package_name next) ok = package_name_comes ed B next ok (λ t g. comes (next t) g)
  comes (import_path x next) ok = import_path_comes ed B x next ok (λ t g. comes (next t) g)
  comes (optional kind need some none) ok = optional_comes ed B kind need some none ok (λ t g. comes (some t) g) (λ g. comes none g)
  comes (newer kind need x some none) ok = newer_comes ed B kind need x some none ok (λ g. comes none g)
  comes (type l x next) ok = type_comes ed B l x next ok.0 (λ a fits. comes (next a) (ok.1.0 a fits))
  comes (optional_type l x some none) ok =
      optional_type_comes ed B l x some none ok.0 (λ le. type_comes ed B l x some le (λ a fits. comes (some a) (ok.1.0 a fits))) (λ can. comes none (can, ok.1.2))
  comes (expr n h l x next) ok = expr_comes ed B n h l x next ok.0 (λ e fits. comes (next e) (ok.1.0 e fits))
  comes (optional_expr h l x some none) ok =
      optional_expr_comes ed B h l x some none ok.0 (λ le. expr_comes ed B 5 h l x some le (λ e fits. comes (some e) (ok.1.0 e fits)))
      (λ can. comes none (can, ok.1.2))
  comes (suffixes h l a next) ok = suffixes_comes ed B h l a next ok.1.0 (comes (next a) (ok.1.1 a ok.1.0))
  comes (operators n h l a next) ok = operators_comes ed B n h l a next ok.1.0 (comes (next a) (ok.1.1 a ok.1.0))
  comes (more_names front next) ok = more_names_comes ed B front next (comes (next front) (ok.1.0 front))
  comes (more_exprs h l front next) ok = more_exprs_comes ed B h l front next (comes (next front) (ok.1.2 front ok.1.1))
  comes (operands l next) ok = operands_comes ed B l next ok.1 (λ c g. comes (next [] c) g)
  comes (list_start k front next) ok = list_start_comes ed B k front next ok.1 (λ c g. comes (next front c) g)
  comes (list_end k x front next) ok = list_end_comes ed B k x front next ok.1 (λ c g. comes (next front c) g)
  comes (lefts p h l front next alone range) ok = lefts_comes ed B p h l next alone range front ok.1 (λ s fits. comes (next s) (ok.1.3 s fits))
  comes (else_part l p i c b next) ok = else_part_comes ed B l p i c b next ok.1 (λ g. comes (next (conditional p i c b no_else)) g)
  comes (clause_start l done p values front next) ok =
      clause_start_comes ed B on l done p values next front ok.1 (λ cs c fits. comes (next cs c) (ok.1.2 cs c fits))
  comes (clause_end l x done p values front next) ok =
      clause_end_comes ed B on l done p values next x front ok.1 (λ cs c fits. comes (next cs c) (ok.1.2 cs c fits))
  comes (import_end p iss) ok = import_end_comes ed B p iss
  comes (decl_end p is ds) ok = decl_end_comes ed B p is ds

  pub all : Theory ed B
  all =
      record {
        back = back;
        forth = forth;
        kept = kept;
        comes = comes;
        ends = ends ed B;
        over = over ed B;
        started = start_forth ed B;
        derived = start_back ed B;
        good = start_good ed B;
      }
