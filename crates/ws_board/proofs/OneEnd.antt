-- The jobs say one thing of how each ends, if imports lead down.
use Rattle.std.proofs.Common.{◌≡◌, ℕ, zero, suc, ◌<◌, List, [], ◌∷◌, map, Option, Some, None, refl, sym, ap, ◌∙◌, subst, arith}
use Rattle.std.specs.List.{slice_get, Contains, AllZip}
use Rattle.go_check.specs.Names.{importable_by}
use Rattle.go_export.specs.Summaries.{Summary}
use Rattle.ws_action.specs.Actions.{Action}
use Rattle.ws_action.proofs.Members.{later, at_head}
use Rattle.ws_cache.specs.Compiles.{Compiled, IsResult}
use Rattle.ws_cache.proofs.Outcomes.{one_result}
use Rattle.ws_board.specs.Work.{Work, Job, acted}
use Rattle.ws_board.specs.Ends.{End, Blocked, Came, summary_in, end_at, HasAction, IsEnd, AreEnds, work_in, job_imports, job_imports_at, work_at, IsRanked}

-- ---- induction by ranks

by_rank : (rank : ℕ → ℕ) (P : ℕ → Type 0) → ((j : ℕ) → ((k : ℕ) → rank k < rank j → P k) → P j) → (n : ℕ) (j : ℕ) → rank j < n → P j
by_rank rank P step zero j lt = absurd (omega arith)
by_rank rank P step (suc n) j lt = step j (λ k below. by_rank rank P step n k (omega arith))

pub ranked : (rank : ℕ → ℕ) (P : ℕ → Type 0) → ((j : ℕ) → ((k : ℕ) → rank k < rank j → P k) → P j) → (j : ℕ) → P j
ranked rank P step j = by_rank rank P step (suc (rank j)) j (omega arith)

-- ---- lists of ends

-- in a list, or past its end
abbrev pub IsEndIn : List End → Option Job → End → Type 0
IsEndIn ends None e = e ≡ Blocked
IsEndIn ends (Some job) e = IsEnd ends job e

pub zip_at : (all : List End) (jobs : List Job) (es : List End) → AllZip (IsEnd all) jobs es → (k : ℕ) → IsEndIn all (slice_get jobs k) (end_at es k)
zip_at all [] [] h k = refl
zip_at all [] (e ∷ es) h k = absurd h
zip_at all (job ∷ jobs) [] h k = absurd h
zip_at all (job ∷ jobs) (e ∷ es) h zero = h.0
zip_at all (job ∷ jobs) (e ∷ es) h (suc k) = zip_at all jobs es h.1 k

same_ends : (all others : List End) (jobs : List Job) (es fs : List End) → AllZip (IsEnd all) jobs es → AllZip (IsEnd others) jobs fs → ((k : ℕ) → end_at es k ≡ end_at fs k) → es ≡ fs
same_ends all others [] [] [] g h same = refl
same_ends all others [] [] (f ∷ fs) g h same = absurd h
same_ends all others [] (e ∷ es) fs g h same = absurd g
same_ends all others (job ∷ jobs) [] fs g h same = absurd g
same_ends all others (job ∷ jobs) (e ∷ es) [] g h same = absurd h
same_ends all others (job ∷ jobs) (e ∷ es) (f ∷ fs) g h same =
    ap (λ (x : End). x ∷ es) (same zero) ∙ ap (λ (xs : List End). f ∷ xs) (same_ends all others jobs es fs g.1 h.1 (λ k. same (suc k)))

-- ---- summaries

abbrev pub HaveSummaries : List End → List ℕ → List Summary → Type 0
HaveSummaries ends = AllZip (λ k summary. summary_in (end_at ends k) ≡ Some summary)

-- where it has a summary an end is that of the other list
abbrev Agrees : List End → List End → ℕ → Type 0
Agrees a b k = (s : Summary) → summary_in (end_at a k) ≡ Some s → end_at a k ≡ end_at b k

have_alike : (a b : List End) (ks : List ℕ) (ss : List Summary) → ((k : ℕ) → Contains ks k → Agrees a b k) → HaveSummaries a ks ss → HaveSummaries b ks ss
have_alike a b [] [] same h = h
have_alike a b [] (s ∷ ss) same h = absurd h
have_alike a b (k ∷ ks) [] same h = absurd h
have_alike a b (k ∷ ks) (s ∷ ss) same h = (ap summary_in (sym (same k (at_head ks k k refl) s h.0)) ∙ h.0, have_alike a b ks ss (λ i c. same i (later k ks i c)) h.1)

pub one_list : (a : List End) (ks : List ℕ) (ss ts : List Summary) → HaveSummaries a ks ss → HaveSummaries a ks ts → ss ≡ ts
one_list a [] [] [] g h = refl
one_list a [] [] (t ∷ ts) g h = absurd h
one_list a [] (s ∷ ss) ts g h = absurd g
one_list a (k ∷ ks) [] ts g h = absurd g
one_list a (k ∷ ks) (s ∷ ss) [] g h = absurd h
one_list a (k ∷ ks) (s ∷ ss) (t ∷ ts) g h =
    let heads : s ≡ t = (let e : Some s ≡ Some t = sym g.0 ∙ h.0 in cc) in
    let tails : ss ≡ ts = one_list a ks ss ts g.1 h.1 in
    ap (λ (x : Summary). x ∷ ss) heads ∙ ap (λ (xs : List Summary). t ∷ xs) tails

-- ---- actions

pub one_work : (a : List End) (job : Job) (x y : Action) (g : HasAction a job x) (h : HasAction a job y) → g.work ≡ h.work
one_work a job x y g h = let e : Some g.work ≡ Some h.work = sym g.its ∙ h.its in cc

pub same_summaries : (a : List End) (job : Job) (x y : Action) (g : HasAction a job x) (h : HasAction a job y) → g.summaries ≡ h.summaries
same_summaries a job x y g h = one_list a job.imports g.summaries h.summaries g.have h.have

pub one_action : (a : List End) (job : Job) (x y : Action) → HasAction a job x → HasAction a job y → x ≡ y
one_action a job x y g h =
    g.is ∙ ap (λ (w : Work). acted w g.summaries) (one_work a job x y g h) ∙ ap (acted h.work) (same_summaries a job x y g h) ∙ sym h.is

pub result_with : (v w : Work) (ss ts : List Summary) (r : Compiled) → v ≡ w → ss ≡ ts → IsResult v.path v.files (map importable_by ss) r → IsResult w.path w.files (map importable_by ts) r
result_with v w ss ts r p q h = subst (λ x. IsResult w.path w.files (map importable_by x) r) q (subst (λ (x : Work). IsResult x.path x.files (map importable_by ss) r) p h)

action_alike : (a b : List End) (job : Job) (x : Action) → ((k : ℕ) → Contains job.imports k → Agrees a b k) → HasAction a job x → HasAction b job x
action_alike a b job x same h =
    record { work = h.work; its = h.its; summaries = h.summaries; have = have_alike a b job.imports h.summaries same h.have; make = h.make; is = h.is }

-- what has a summary has work
pub has_work : (a : List End) (o : Option Job) (e : End) (s : Summary) → IsEndIn a o e → summary_in e ≡ Some s → (v : Work) × (work_in o ≡ Some v)
has_work a None e s h is = let c : None ≡ Some s = sym (ap summary_in h) ∙ is in absurd (cc)
has_work a (Some job) Blocked s h is = absurd (cc)
has_work a (Some job) (Came x r) s h is = (h.0.work, h.0.its)

-- ---- two lists of ends

same_result : (a b : List End) (job : Job) (x y : Action) (r s : Compiled) (g : HasAction a job x) (h : HasAction b job y) (t : HasAction b job x) → t.work ≡ g.work → t.summaries ≡ g.summaries
    → IsResult g.work.path g.work.files (map importable_by g.summaries) r → IsResult h.work.path h.work.files (map importable_by h.summaries) s → r ≡ s
same_result a b job x y r s g h t works lists p q =
    one_result h.work.path h.work.files (map importable_by h.summaries) r s
    (result_with g.work h.work g.summaries h.summaries r (sym works ∙ one_work b job x y t h) (sym lists ∙ same_summaries b job x y t h) p) q

one_of : (a b : List End) (job : Job) (e f : End) → ((k : ℕ) → (w : Work) → job.work ≡ Some w → Contains job.imports k → Agrees a b k × Agrees b a k) → IsEnd a job e → IsEnd b job f → e ≡ f
unfolding action_alike
one_of a b job Blocked Blocked same g h = refl
one_of a b job Blocked (Came x r) same g h = absurd (g x (action_alike b a job x (λ k c. (same k h.0.work h.0.its c).1) h.0))
one_of a b job (Came x r) Blocked same g h = absurd (h x (action_alike a b job x (λ k c. (same k g.0.work g.0.its c).0) g.0))
one_of a b job (Came x r) (Came y s) same g h =
    let there : HasAction b job x = action_alike a b job x (λ k c. (same k g.0.work g.0.its c).0) g.0 in
    let actions : x ≡ y = one_action b job x y there h.0 in
    let results : r ≡ s = same_result a b job x y r s g.0 h.0 there refl refl g.1 h.1 in
    ap (λ z. Came z r) actions ∙ ap (Came y) results

one_in : (a b : List End) (o : Option Job) (e f : End) → ((w : Work) → work_in o ≡ Some w → (k : ℕ) → Contains (job_imports o) k → Agrees a b k × Agrees b a k) → IsEndIn a o e → IsEndIn b o f → e ≡ f
one_in a b None e f same g h = g ∙ sym h
one_in a b (Some job) e f same g h = one_of a b job e f (λ k w its c. same w its k c) g h

module _ (jobs : List Job) (rank : ℕ → ℕ) (down : IsRanked rank jobs) (a b : List End) (g : AreEnds jobs a) (h : AreEnds jobs b) where
  import_of : (j k : ℕ) (w : Work) → work_at jobs j ≡ Some w → Contains (job_imports_at jobs j) k → ((i : ℕ) → rank i < rank j → end_at a i ≡ end_at b i) → Agrees a b k × Agrees b a k
  import_of j k w its c below = (
    λ s is. let v = has_work a (slice_get jobs k) (end_at a k) s (zip_at a jobs a g k) is in below k (down j k w v.0 its c v.1),
    λ s is. let v = has_work b (slice_get jobs k) (end_at b k) s (zip_at b jobs b h k) is in sym (below k (down j k w v.0 its c v.1)),
  )

  one_at : (j : ℕ) → ((i : ℕ) → rank i < rank j → end_at a i ≡ end_at b i) → end_at a j ≡ end_at b j
  one_at j below = one_in a b (slice_get jobs j) (end_at a j) (end_at b j) (λ w its k c. import_of j k w its c below) (zip_at a jobs a g j) (zip_at b jobs b h j)

  one_lists : a ≡ b
  one_lists = same_ends a b jobs a b g h (ranked rank (λ j. end_at a j ≡ end_at b j) one_at)

pub one_end : (jobs : List Job) (rank : ℕ → ℕ) → IsRanked rank jobs → (ends others : List End) → AreEnds jobs ends → AreEnds jobs others → ends ≡ others
one_end jobs rank down ends others g h = one_lists jobs rank down ends others g h
