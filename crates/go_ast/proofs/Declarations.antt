-- Declarations: one spec, or a list of them in parentheses.
use Rattle.std.proofs.Common.{◌≡◌, ℕ, ◌+◌, ◌≤◌, ◌⊎◌, inl, inr, true, false, ◌||◌, List, [], ◌∷◌, ◌++◌, Some, None, refl, sym, subst, arith}
use Rattle.go_text.specs.declared.edition.Edition.{Edition}
use Rattle.go_text.specs.declared.place.Place.{Place}
use Rattle.go_scan.specs.declared.token.TokenKind.{TokenKind}
use Rattle.go_scan.specs.declared.token.TokenKind.TheVariants as kinds
use Rattle.go_scan.specs.declared.keyword.Keyword.TheVariants as keywords
use Rattle.go_ast.specs.Kinds.{same}
use Rattle.go_ast.specs.Expected.{Expected, another, a_parameter_type, an_import, an_import_path}
use Rattle.go_ast.specs.Trees.{ConstSpec, VarSpec, TypeSpec, ImportSpec, Parameter, Decl, constants, variables, types, File}
use Rattle.go_ast.specs.Heights.{greatest, const_height, var_height, type_spec_height, decl_height}
use Rattle.go_ast.specs.Grammar.{Lexeme, Token, name_of, opening, closing, closing_brace, semicolon, AreItems, IsDecl}
use Rattle.go_ast.specs.Machine.{ListKind, const_specs, var_specs, type_specs, import_specs, parameters, Item, separator, closer, Reader, token, import_path, type, more_names, list_start, list_end, names, const_rest, var_rest, type_rest, import_spec_of, group, behind_const, behind_var, behind_type}
use Rattle.go_ast.proofs.Means.{begins, IsItem, item_height, item_level, AllFit, FitItems, Means, Okay, Good}
use Rattle.go_ast.proofs.Base.{left_true, right_true, first_is, apart}
use Rattle.go_ast.proofs.Tokens.{same_here, no_token, token_back, token_forth, token_kept, optional_back, optional_forth, optional_kept, import_path_back, import_path_forth, import_path_kept, import_path_first}
use Rattle.go_ast.proofs.Lists.{Items}
use Rattle.go_ast.proofs.Values.{all_fit_append}
use Rattle.go_ast.proofs.Specs.{ends_line, EndsLine, names_first, names_never, const_spec_back, const_spec_forth, const_spec_good, var_spec_back, var_spec_forth, var_spec_good, type_spec_back, type_spec_forth, type_spec_good, parameter_back, parameter_forth, parameter_good, import_spec_back, import_spec_forth, import_spec_good}

-- what ends a group's spec
group_line : (k : TokenKind) → (same semicolon k || same closing k) ≡ true → ends_line k ≡ true
group_line k e = left_true (same semicolon k || same closing k) (same closing_brace k) e

-- one item, or a list of them in parentheses
abbrev pub IsGroupOf : (ed : Edition) → (k : ListKind) → List (Item k) → List Lexeme → List Lexeme → Type 0
IsGroupOf ed k ss us ws =
    ((s : Item k) × (ss ≡ s ∷ []) × IsItem ed k s us ws)
    ⊎ ((o c : Lexeme) × (vs xs : List Lexeme) × Token opening o us vs × AreItems (IsItem ed k) (separator k) ss vs xs × Token (closer k) c xs ws)

module _ (ed : Edition) (B : ℕ) where
  -- the greatest height of a list
  pub greatest_fits : {A : Type 0} (tall : A → ℕ) (l : ℕ) (xs : List A) → l ≤ B + 1 → AllFit ed B tall l xs → l + greatest tall xs ≤ B + 1
  greatest_fits tall l [] low fit = omega (arith, low)
  greatest_fits tall l (x ∷ xs) low fit = omega (arith, fit.0, greatest_fits tall l xs low fit.1)

  pub fits_greatest : {A : Type 0} (tall : A → ℕ) (l : ℕ) (xs : List A) → l + greatest tall xs ≤ B + 1 → AllFit ed B tall l xs
  fits_greatest tall l [] fit = tt
  fits_greatest tall l (x ∷ xs) fit = (omega (arith, fit), fits_greatest tall l xs (omega (arith, fit)))

  -- a group
  pub group_back : (k : ListKind) (next : List (Item k) → Reader) (single : (Item k → Reader) → Reader) (us : List Lexeme) (f : File) →
      (Means ed B (single (λ s. next (s ∷ []))) us f →
      (s : Item k) × (ws : List Lexeme) × IsItem ed k s us ws × (item_level k + item_height k s ≤ B + 1) × Means ed B (next (s ∷ [])) ws f) →
      Means ed B (group k next single) us f → (ss : List (Item k)) × (ws : List Lexeme) × IsGroupOf ed k ss us ws × FitItems ed B k ss × Means ed B (next ss) ws f
  group_back k next single us f alone (inl (o, vs, opens, need, (ss, c, xs, ws, are, fit, close, m))) = (ss, ws, inr (o, c, vs, xs, opens, are, close), fit, m)
  group_back k next single us f alone (inr m) = let a = alone m in (a.0 ∷ [], a.1, inl (a.0, refl, a.2), (a.3, tt), a.4)

  pub group_forth : (k : ListKind) (next : List (Item k) → Reader) (single : (Item k → Reader) → Reader) (ss : List (Item k)) (us ws : List Lexeme) (f : File) →
      ((s : Item k) → IsItem ed k s us ws → item_level k + item_height k s ≤ B + 1 → Means ed B (next (s ∷ [])) ws f → Means ed B (single (λ s. next (s ∷ []))) us f) →
      IsGroupOf ed k ss us ws → FitItems ed B k ss → Means ed B (next ss) ws f → Means ed B (group k next single) us f
  group_forth k next single ss us ws f alone (inl (s, e, is)) fit m =
      let one : FitItems ed B k (s ∷ []) = subst (FitItems ed B k) e fit in
      inr (alone s is one.0 (subst (λ x. Means ed B (next x) ws f) e m))
  group_forth k next single ss us ws f alone (inr (o, c, vs, xs, opens, are, close)) fit m =
      inl (o, vs, opens, omega arith, (ss, c, xs, ws, are, fit, close, m))

  pub group_good : (k : ListKind) (next : List (Item k) → Reader) (single : (Item k → Reader) → Reader) → item_level k ≤ B + 1 →
      ((ss : List (Item k)) → FitItems ed B k ss → Good ed B (next ss)) → Okay ed B (single (λ s. next (s ∷ []))) →
      begins (single (λ s. next (s ∷ []))) opening ≡ false →
      Good ed B (group k next single)
  group_good k next single low good alone apart = (inl (omega arith), ((λ t e le. (tt, (low, tt, λ is c fit. good is fit))), alone, apart))

  -- constants
  pub behind_const_back : (l : ℕ) (next : Decl → Reader) (t : Lexeme) (us : List Lexeme) (f : File) → l ≤ B + 1 → t.kind ≡ kinds.Keyword keywords.Const →
      Means ed B (behind_const l next t) us f →
      (ss : List ConstSpec) × (ws : List Lexeme) × IsDecl ed (constants t.place ss) (t ∷ us) ws × (l + decl_height (constants t.place ss) ≤ B + 1)
      × Means ed B (next (constants t.place ss)) ws f
  behind_const_back l next t us f low e m =
      let r = group_back (const_specs l) (λ ss. next (constants t.place ss)) (λ one. names 0 (const_rest l one)) us f
      (const_spec_back ed B l (λ s. next (constants t.place (s ∷ []))) us f low) m in
      (r.0, r.1, (t, us, record { whole = refl; is = e }, refl, r.2), greatest_fits const_height l r.0 low r.3, r.4)

  pub behind_const_forth : (l : ℕ) (next : Decl → Reader) (p : Place) (ss : List ConstSpec) (t : Lexeme) (us ws : List Lexeme) (f : File) →
      IsDecl ed (constants p ss) (t ∷ us) ws → l + decl_height (constants p ss) ≤ B + 1 → Means ed B (next (constants p ss)) ws f →
      (t.kind ≡ kinds.Keyword keywords.Const) × Means ed B (behind_const l next t) us f
  behind_const_forth l next p ss t us ws f d fit m =
      let h = first_is (kinds.Keyword keywords.Const) t d.0 us d.1 d.2 in
      let m1 : Means ed B (next (constants t.place ss)) ws f =
      subst (λ (x : Lexeme). Means ed B (next (constants x.place ss)) ws f) (sym h.0) (subst (λ x. Means ed B (next (constants x ss)) ws f) d.3 m) in (
        h.2,
        subst (λ x. Means ed B (behind_const l next t) x f) (sym h.1)
            (group_forth (const_specs l) (λ x. next (constants t.place x)) (λ one. names 0 (const_rest l one)) ss d.1 ws f
            (λ s is fits n. const_spec_forth ed B l (λ x. next (constants t.place (x ∷ []))) s d.1 ws f is fits n) d.4 (fits_greatest const_height l ss fit) m1),
      )

  pub behind_const_good : (l : ℕ) (next : Decl → Reader) (t : Lexeme) → l ≤ B + 1 → ((d : Decl) → l + decl_height d ≤ B + 1 → Good ed B (next d)) → EndsLine next →
      Good ed B (behind_const l next t)
  behind_const_good l next t low good ends =
      group_good (const_specs l) (λ ss. next (constants t.place ss)) (λ one. names 0 (const_rest l one)) low
      (λ ss fit. good (constants t.place ss) (greatest_fits const_height l ss low fit))
      (const_spec_good ed B l (λ s. next (constants t.place (s ∷ []))) low
      (λ s fit. good (constants t.place (s ∷ [])) (greatest_fits const_height l (s ∷ []) low (fit, tt)))
      (λ s k b. ends (constants t.place (s ∷ [])) k b)) refl

  -- variables
  pub behind_var_back : (l : ℕ) (next : Decl → Reader) (t : Lexeme) (us : List Lexeme) (f : File) → l ≤ B + 1 → t.kind ≡ kinds.Keyword keywords.Var →
      Means ed B (behind_var l next t) us f →
      (ss : List VarSpec) × (ws : List Lexeme) × IsDecl ed (variables t.place ss) (t ∷ us) ws × (l + decl_height (variables t.place ss) ≤ B + 1)
      × Means ed B (next (variables t.place ss)) ws f
  behind_var_back l next t us f low e m =
      let r = group_back (var_specs l) (λ ss. next (variables t.place ss)) (λ one. names l (var_rest l one)) us f
      (var_spec_back ed B l (λ s. next (variables t.place (s ∷ []))) us f) m in
      (r.0, r.1, (t, us, record { whole = refl; is = e }, refl, r.2), greatest_fits var_height l r.0 low r.3, r.4)

  pub behind_var_forth : (l : ℕ) (next : Decl → Reader) (p : Place) (ss : List VarSpec) (t : Lexeme) (us ws : List Lexeme) (f : File) →
      IsDecl ed (variables p ss) (t ∷ us) ws → l + decl_height (variables p ss) ≤ B + 1 → Means ed B (next (variables p ss)) ws f →
      (t.kind ≡ kinds.Keyword keywords.Var) × Means ed B (behind_var l next t) us f
  behind_var_forth l next p ss t us ws f d fit m =
      let h = first_is (kinds.Keyword keywords.Var) t d.0 us d.1 d.2 in
      let m1 : Means ed B (next (variables t.place ss)) ws f =
      subst (λ (x : Lexeme). Means ed B (next (variables x.place ss)) ws f) (sym h.0) (subst (λ x. Means ed B (next (variables x ss)) ws f) d.3 m) in (
        h.2,
        subst (λ x. Means ed B (behind_var l next t) x f) (sym h.1)
            (group_forth (var_specs l) (λ x. next (variables t.place x)) (λ one. names l (var_rest l one)) ss d.1 ws f
            (λ s is fits n. var_spec_forth ed B l (λ x. next (variables t.place (x ∷ []))) s d.1 ws f is fits n) d.4 (fits_greatest var_height l ss fit) m1),
      )

  pub behind_var_good : (l : ℕ) (next : Decl → Reader) (t : Lexeme) → l ≤ B + 1 → ((d : Decl) → l + decl_height d ≤ B + 1 → Good ed B (next d)) → EndsLine next →
      Good ed B (behind_var l next t)
  behind_var_good l next t low good ends =
      group_good (var_specs l) (λ ss. next (variables t.place ss)) (λ one. names l (var_rest l one)) low
      (λ ss fit. good (variables t.place ss) (greatest_fits var_height l ss low fit))
      (var_spec_good ed B l (λ s. next (variables t.place (s ∷ [])))
      (λ s fit. good (variables t.place (s ∷ [])) (greatest_fits var_height l (s ∷ []) low (fit, tt)))
      (λ s k b. ends (variables t.place (s ∷ [])) k b)) refl

  -- types
  pub behind_type_back : (l : ℕ) (next : Decl → Reader) (t : Lexeme) (us : List Lexeme) (f : File) → l ≤ B + 1 → t.kind ≡ kinds.Keyword keywords.Type →
      Means ed B (behind_type l next t) us f →
      (ss : List TypeSpec) × (ws : List Lexeme) × IsDecl ed (types t.place ss) (t ∷ us) ws × (l + decl_height (types t.place ss) ≤ B + 1)
      × Means ed B (next (types t.place ss)) ws f
  behind_type_back l next t us f low e m =
      let r = group_back (type_specs l) (λ ss. next (types t.place ss)) (λ one. token kinds.Name l another (type_rest l one)) us f
      (type_spec_back ed B l (λ s. next (types t.place (s ∷ []))) us f) m in
      (r.0, r.1, (t, us, record { whole = refl; is = e }, refl, r.2), greatest_fits type_spec_height l r.0 low r.3, r.4)

  pub behind_type_forth : (l : ℕ) (next : Decl → Reader) (p : Place) (ss : List TypeSpec) (t : Lexeme) (us ws : List Lexeme) (f : File) →
      IsDecl ed (types p ss) (t ∷ us) ws → l + decl_height (types p ss) ≤ B + 1 → Means ed B (next (types p ss)) ws f →
      (t.kind ≡ kinds.Keyword keywords.Type) × Means ed B (behind_type l next t) us f
  behind_type_forth l next p ss t us ws f d fit m =
      let h = first_is (kinds.Keyword keywords.Type) t d.0 us d.1 d.2 in
      let m1 : Means ed B (next (types t.place ss)) ws f =
      subst (λ (x : Lexeme). Means ed B (next (types x.place ss)) ws f) (sym h.0) (subst (λ x. Means ed B (next (types x ss)) ws f) d.3 m) in (
        h.2,
        subst (λ x. Means ed B (behind_type l next t) x f) (sym h.1)
            (group_forth (type_specs l) (λ x. next (types t.place x)) (λ one. token kinds.Name l another (type_rest l one)) ss d.1 ws f
            (λ s is fits n. type_spec_forth ed B l (λ x. next (types t.place (x ∷ []))) s d.1 ws f is fits n) d.4 (fits_greatest type_spec_height l ss fit) m1),
      )

  pub behind_type_good : (l : ℕ) (next : Decl → Reader) (t : Lexeme) → l ≤ B + 1 → ((d : Decl) → l + decl_height d ≤ B + 1 → Good ed B (next d)) → EndsLine next →
      Good ed B (behind_type l next t)
  behind_type_good l next t low good ends =
      group_good (type_specs l) (λ ss. next (types t.place ss)) (λ one. token kinds.Name l another (type_rest l one)) low
      (λ ss fit. good (types t.place ss) (greatest_fits type_spec_height l ss low fit))
      (type_spec_good ed B l (λ s. next (types t.place (s ∷ [])))
      (λ s fit. good (types t.place (s ∷ [])) (greatest_fits type_spec_height l (s ∷ []) low (fit, tt)))
      (λ s k b. ends (types t.place (s ∷ [])) k b)) refl

  -- behind an item of a list that is good stands one
  pub item_good : (k : ListKind) (x : Expected) (front : List (Item k)) (next : List (Item k) → Lexeme → Reader) (i : Item k) →
      Okay ed B (list_start k front next) →
      item_level k + item_height k i ≤ B + 1 → Good ed B (list_end k x (front ++ i ∷ []) next)
  item_good k x front next i ok fit = (tt, (ok.0, all_fit_append ed B (item_height k) (item_level k) front (i ∷ []) ok.1 (fit, tt), ok.2))

  -- what is due behind an item, and behind a parameter's first name
  abbrev after_item : (k : ListKind) → List (Item k) → (List (Item k) → Lexeme → Reader) → Item k → Reader
  after_item k front next i = list_end k another (front ++ i ∷ []) next

  abbrev behind_parameter_name : (Parameter → Reader) → Lexeme → Reader
  behind_parameter_name next n = more_names (name_of n ∷ []) (λ ns. type 1 a_parameter_type (λ a. next (record { names = ns; type = a })))

  -- the items of groups, and parameters
  pub const_items : (l : ℕ) → Items ed B (const_specs l)
  const_items l =
      record {
        back = λ front next t us f low a.
            const_spec_back ed B l (after_item (const_specs l) front next) (t ∷ us) f low
            (token_back ed B kinds.Name 0 another (λ n. more_names (name_of n ∷ []) (const_rest l (after_item (const_specs l) front next))) t us f a);
        forth = λ front next t us f i vs d fit m.
            token_forth ed B kinds.Name 0 another
            (λ n. more_names (name_of n ∷ []) (const_rest l (after_item (const_specs l) front next))) t us f
            (const_spec_forth ed B l (after_item (const_specs l) front next) i (t ∷ us) vs f d fit m);
        kept = λ front next t ok.
            token_kept ed B kinds.Name 0 another (λ n. more_names (name_of n ∷ []) (const_rest l (after_item (const_specs l) front next))) t
            (const_spec_good ed B l (after_item (const_specs l) front next) ok.0 (λ s fit. item_good (const_specs l) another front next s ok fit)
            (λ s k e. group_line k e));
        first = λ i t us vs d. names_first i.names t us d.0 d.1;
        never = λ i vs d. names_never i.names d.0 d.1;
      }

  pub var_items : (l : ℕ) → Items ed B (var_specs l)
  var_items l =
      record {
        back = λ front next t us f low a.
            var_spec_back ed B l (after_item (var_specs l) front next) (t ∷ us) f
            (token_back ed B kinds.Name l another (λ n. more_names (name_of n ∷ []) (var_rest l (after_item (var_specs l) front next))) t us f a);
        forth = λ front next t us f i vs d fit m.
            token_forth ed B kinds.Name l another
            (λ n. more_names (name_of n ∷ []) (var_rest l (after_item (var_specs l) front next))) t us f
            (var_spec_forth ed B l (after_item (var_specs l) front next) i (t ∷ us) vs f d fit m);
        kept = λ front next t ok.
            token_kept ed B kinds.Name l another (λ n. more_names (name_of n ∷ []) (var_rest l (after_item (var_specs l) front next))) t
            (var_spec_good ed B l (after_item (var_specs l) front next) (λ s fit. item_good (var_specs l) another front next s ok fit) (λ s k e. group_line k e));
        first = λ i t us vs d. names_first i.names t us d.0 d.1;
        never = λ i vs d. names_never i.names d.0 d.1;
      }

  pub type_items : (l : ℕ) → Items ed B (type_specs l)
  type_items l =
      record {
        back = λ front next t us f low a.
            type_spec_back ed B l (after_item (type_specs l) front next) (t ∷ us) f
            (token_back ed B kinds.Name l another (type_rest l (after_item (type_specs l) front next)) t us f a);
        forth = λ front next t us f i vs d fit m.
            token_forth ed B kinds.Name l another (type_rest l (after_item (type_specs l) front next)) t us f
            (type_spec_forth ed B l (after_item (type_specs l) front next) i (t ∷ us) vs f d fit m);
        kept = λ front next t ok.
            token_kept ed B kinds.Name l another (type_rest l (after_item (type_specs l) front next)) t
            (type_spec_good ed B l (after_item (type_specs l) front next) (λ s fit. item_good (type_specs l) another front next s ok fit)
            (λ s k e. group_line k e));
        first = λ i t us vs d. same_here kinds.Name t d.0 us d.1 d.2;
        never = λ i vs d. no_token kinds.Name d.0 d.1 d.2;
      }

  pub parameter_items : Items ed B parameters
  parameter_items =
      record {
        back = λ front next t us f low a.
            parameter_back ed B (after_item parameters front next) (t ∷ us) f
            (token_back ed B kinds.Name 1 another (behind_parameter_name (after_item parameters front next)) t us f a);
        forth = λ front next t us f i vs d fit m.
            token_forth ed B kinds.Name 1 another
            (behind_parameter_name (after_item parameters front next)) t us f
            (parameter_forth ed B (after_item parameters front next) i (t ∷ us) vs f d fit m);
        kept = λ front next t ok.
            token_kept ed B kinds.Name 1 another
            (behind_parameter_name (after_item parameters front next)) t
            (parameter_good ed B (after_item parameters front next) (λ p fit. item_good parameters another front next p ok fit) (λ p. refl));
        first = λ i t us vs d. names_first i.names t us d.0 d.1;
        never = λ i vs d. names_never i.names d.0 d.1;
      }

  -- imports
  abbrev behind_import : List ImportSpec → (List ImportSpec → Lexeme → Reader) → ImportSpec → Reader
  behind_import front next = after_item import_specs front next

  abbrev named_import : List ImportSpec → (List ImportSpec → Lexeme → Reader) → Lexeme → Reader
  named_import front next n = import_path an_import_path (λ t. behind_import front next (import_spec_of (Some (name_of n)) n.place t))

  abbrev plain_import : List ImportSpec → (List ImportSpec → Lexeme → Reader) → Lexeme → Reader
  plain_import front next t = behind_import front next (import_spec_of None t.place t)

  pub import_items : Items ed B import_specs
  import_items =
      record {
        back = λ front next t us f low a.
            import_spec_back ed B (behind_import front next) (t ∷ us) f
            (optional_back ed B kinds.Name 0 (named_import front next) (import_path an_import (plain_import front next)) t us f
            (import_path_back ed B an_import (plain_import front next) t us f) a);
        forth = λ front next t us f i vs d fit m.
            optional_forth ed B kinds.Name 0 (named_import front next) (import_path an_import (plain_import front next)) t us f
            (import_path_forth ed B an_import (plain_import front next) t us f) (import_path_first ed B an_import (plain_import front next) t us f) refl
            (import_spec_forth ed B (behind_import front next) i (t ∷ us) vs f d m);
        kept = λ front next t ok.
            let good = import_spec_good ed B (behind_import front next) (λ i. item_good import_specs another front next i ok (omega arith)) in
            optional_kept ed B kinds.Name 0 (named_import front next) (import_path an_import (plain_import front next)) t good
            (import_path_kept ed B an_import (plain_import front next) t good.1);
        first = λ i t us vs d. import_first i t us d.0 d.1 d.2 vs d.3 d.4;
        never = λ i vs d. import_never i d.0 d.1 d.2 vs d.3 d.4;
      }
    where
      import_first : (i : ImportSpec) (t : Lexeme) (us : List Lexeme) (n s : Lexeme) (xs vs : List Lexeme) →
          ((i.name ≡ None) × (t ∷ us ≡ xs) × (i.place ≡ s.place)) ⊎ ((i.name ≡ Some (name_of n)) × Token kinds.Name n (t ∷ us) xs × (i.place ≡ n.place)) →
          Token kinds.String s xs vs → (same kinds.Name t.kind || same kinds.String t.kind) ≡ true
      import_first i t us n s xs vs (inl d) path =
          right_true (same kinds.Name t.kind) (same kinds.String t.kind)
          (same_here kinds.String t s us vs (subst (λ x. Token kinds.String s x vs) (sym d.1) path))
      import_first i t us n s xs vs (inr d) path = left_true (same kinds.Name t.kind) (same kinds.String t.kind) (same_here kinds.Name t n us xs d.1)

      import_never : (i : ImportSpec) (n s : Lexeme) (xs vs : List Lexeme) →
          ((i.name ≡ None) × ([] ≡ xs) × (i.place ≡ s.place)) ⊎ ((i.name ≡ Some (name_of n)) × Token kinds.Name n [] xs × (i.place ≡ n.place)) →
          Token kinds.String s xs vs → ⊥
      import_never i n s xs vs (inl d) path = no_token kinds.String s vs (subst (λ x. Token kinds.String s x vs) (sym d.1) path)
      import_never i n s xs vs (inr d) path = no_token kinds.Name n xs d.1
