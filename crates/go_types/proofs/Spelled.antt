-- Types whose texts tell them.
use Rattle.std.proofs.Common.{◌≡◌, ◌≢◌, ℕ, Bool, false, List, [], ◌∷◌, ◌++◌, Some, codes}
use Rattle.std.specs.Bool.{Decides}
use Rattle.std.proofs.lemmas.Bool.{false≢true}
use Rattle.std.proofs.lemmas.Bool.Decides.{not_from_Decides}
use Rattle.go_types.specs.Texts.{Lacks, IsSpelled}

pub lacks_both : (c : ℕ) (a b : List ℕ) → Lacks c a → Lacks c b → Lacks c (a ++ b)
lacks_both c [] b h k = k
lacks_both c (x ∷ a) b h k = (h.0, lacks_both c a b h.1 k)

-- what has no byte c has none in its parts
pub lacks_parts : (c : ℕ) (a b : List ℕ) → Lacks c (a ++ b) → Lacks c a × Lacks c b
lacks_parts c [] b h = (tt, h)
lacks_parts c (x ∷ a) b h = let rest = lacks_parts c a b h.1 in ((h.0, rest.0), rest.1)

not_space : ◌≢◌ {A = ℕ} 46 32
not_space e = cc

not_brace : ◌≢◌ {A = ℕ} 46 125
not_brace e = cc

-- a path without spaces and braces, a name without them, and a name without dots
abbrev pub Parts : List ℕ → List ℕ → Type 0
Parts path name = (Lacks 32 path × Lacks 125 path) × (Lacks 32 name × Lacks 125 name) × Lacks 46 name

pub spelled : (path name : List ℕ) → Parts path name → IsSpelled (Some path) name
spelled path name h = (
  lacks_both 32 (path ++ codes ".") name (lacks_both 32 path (codes ".") (h.0).0 (not_space, tt)) (h.1).0,
  lacks_both 125 (path ++ codes ".") name (lacks_both 125 path (codes ".") (h.0).1 (not_brace, tt)) (h.1).1,
  h.2,
)

pub spelled_parts : (path name : List ℕ) → IsSpelled (Some path) name → Parts path name
spelled_parts path name h =
    let spaces = lacks_parts 32 (path ++ codes ".") name h.0 in
    let braces = lacks_parts 125 (path ++ codes ".") name h.1 in
    (((lacks_parts 32 path (codes ".") spaces.0).0, (lacks_parts 125 path (codes ".") braces.0).0), (spaces.1, braces.1), h.2)

-- a path or a name that isn't plain spells nothing
pub no_path : (path name : List ℕ) (plain : Bool) → Decides plain (Lacks 32 path × Lacks 125 path) → plain ≡ false → Decides false (IsSpelled (Some path) name)
no_path path name plain h e = ((λ f. absurd (false≢true f)), (λ its. absurd (not_from_Decides plain h e (spelled_parts path name its).0)))

pub no_name : (path name : List ℕ) (plain : Bool) → Decides plain (Lacks 32 name × Lacks 125 name) → plain ≡ false → Decides false (IsSpelled (Some path) name)
no_name path name plain h e = ((λ f. absurd (false≢true f)), (λ its. absurd (not_from_Decides plain h e (spelled_parts path name its).1)))
