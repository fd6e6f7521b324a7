-- Lists that are made one element after another, each of one of another list.
use Rattle.std.proofs.Common.{◌≡◌, List, [], ◌∷◌, ◌++◌, Result, IfOk, sym, ap, subst, ◌∙◌, append-nil, append_assoc}
use Rattle.std.specs.Prelude.{String}
use Rattle.std.specs.Global.{Global}
use Rattle.std.specs.declared.alloc.AllocError.{AllocError}
use Rattle.std.specs.List.{AllZip}
use Rattle.go_text.specs.declared.edition.Edition.{Edition}
use Rattle.ws_graph.specs.BuildPlan.{Sources}
use Rattle.ws_graph.specs.Discovery.{IsWaiting, IsReadAs}
use Rattle.ws_graph.specs.declared.wave.Found.{Found}
use Rattle.ws_graph.specs.declared.waiting.Waiting.{Waiting}

-- these are made of the first, and what is made of those that are left goes on
abbrev pub MadeSoFar : {A B : Type 0} → (A → B → Type 0) → List A → List A → List B → Type 0
MadeSoFar {B = B} P all left done = (tail : List B) → AllZip P left tail → AllZip P all (done ++ tail)

pub made_begun : {A B : Type 0} (P : A → B → Type 0) (all left : List A) (done : List B) → left ≡ all → done ≡ [] → MadeSoFar P all left done
made_begun P all left done same none = λ tail h. subst (λ zs. AllZip P all (zs ++ tail)) (sym none) (subst (λ xs. AllZip P xs tail) same h)

pub one_made : {A B : Type 0} (P : A → B → Type 0) (all left rest : List A) (done pushed : List B) (x : A) (y : B) → left ≡ x ∷ rest → pushed ≡ done ++ y ∷ [] → P x y → MadeSoFar P all left done → MadeSoFar P all rest pushed
one_made P all left rest done pushed x y next push here h = λ tail zip.
    subst (λ zs. AllZip P all zs) (sym (ap (λ zs. zs ++ tail) push ∙ append_assoc done (y ∷ []) tail)) (h (y ∷ tail) (subst (λ xs. AllZip P xs (y ∷ tail)) (sym next) (here, zip)))

pub all_made : {A B : Type 0} (P : A → B → Type 0) (all left : List A) (done : List B) → left ≡ [] → MadeSoFar P all left done → AllZip P all done
all_made P all left done none h = subst (AllZip P all) (append-nil done) (h [] (subst (λ xs. AllZip P xs []) (sym none) tt))

-- what becomes of a directory that waits
abbrev pub IsReadOf : Edition → Waiting → Result (String Global × Found) AllocError → Type 0
IsReadOf edition waiting read = (sources : Sources) → IsWaiting sources waiting → IfOk read (IsReadAs edition sources waiting)
