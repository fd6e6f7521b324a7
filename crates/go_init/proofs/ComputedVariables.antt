-- Orders of variables that are computed.
use Rattle.std.proofs.Common.{◌≡◌, ℕ, List, [], ◌∷◌, Option, Some, None, refl, map}
use Rattle.std.specs.Prelude.{codes}
use Rattle.go_text.specs.declared.edition.Edition.TheVariants.{One}
use Rattle.go_typed.specs.Trees.{Initialization, Package, each, no_exprs}
use Rattle.go_init.specs.Variables.{variable_order}

abbrev Named : Type 0
Named = List (Option (List ℕ))

abbrev together : Named → List (List ℕ) → Initialization
together vs rs = record { variables = vs; file = codes "x.go"; place = record { line = 2; column = 5 }; source = each no_exprs; references = rs }

abbrev alone : List ℕ → Named
alone x = Some x ∷ []

abbrev one : List ℕ → List (List ℕ) → Initialization
one x = together (alone x)

abbrev a : List ℕ
a = codes "a"

abbrev b : List ℕ
b = codes "b"

abbrev c : List ℕ
c = codes "c"

abbrev d : List ℕ
d = codes "d"

abbrev f : List ℕ
f = codes "f"

abbrev g : List ℕ
g = codes "g"

abbrev made : List Initialization → List (List ℕ × List (List ℕ)) → Package
made is us = record {
  path = codes "p";
  name = codes "p";
  edition = One;
  constants = [];
  types = [];
  variables = [];
  initializations = is;
  uses = us;
  functions = [];
}

abbrev orders : Package → List Named × List Named
orders p = (map (λ i. i.variables) (variable_order p).0, map (λ i. i.variables) (variable_order p).1)

-- var a = c + b; var b = f(); var c = f(); var d = 3; func f() int { d++; return d }
pub behind_what_functions_use : orders (made (one a (c ∷ b ∷ []) ∷ one b (f ∷ []) ∷ one c (f ∷ []) ∷ one d [] ∷ []) ((f, d ∷ d ∷ []) ∷ []))
    ≡ (alone d ∷ alone b ∷ alone c ∷ alone a ∷ [], [])
behind_what_functions_use = refl

-- var a = b; var c = g(); var b int; func g() int { b = 5; return b }
pub without_a_value : orders (made (one a (b ∷ []) ∷ one c (g ∷ []) ∷ []) ((g, b ∷ b ∷ []) ∷ [])) ≡ (alone a ∷ alone c ∷ [], [])
without_a_value = refl

-- var a = f(); func f() int { return a }
pub on_itself : orders (made (one a (f ∷ []) ∷ []) ((f, a ∷ []) ∷ [])) ≡ ([], alone a ∷ [])
on_itself = refl

-- var _ = a; var a = f(); func f() int { return a }
pub blank_left : orders (made (together (None ∷ []) (a ∷ []) ∷ one a (f ∷ []) ∷ []) ((f, a ∷ []) ∷ [])) ≡ ([], (None ∷ []) ∷ alone a ∷ [])
blank_left = refl

-- var a, b = f(); var c = b; var d = 0; f refers to d and to g, g to f and to itself
pub of_one_call : orders (made (together (Some a ∷ Some b ∷ []) (f ∷ []) ∷ one c (b ∷ []) ∷ one d [] ∷ []) ((f, d ∷ g ∷ []) ∷ (g, f ∷ g ∷ []) ∷ []))
    ≡ (alone d ∷ (Some a ∷ Some b ∷ []) ∷ alone c ∷ [], [])
of_one_call = refl
