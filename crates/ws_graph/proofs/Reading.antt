-- Files and directories that were read at once, taken in their order.
use Rattle.std.proofs.Common.{◌≡◌, List, [], ◌∷◌, ◌++◌, map, IfOk, Result, Ok, Err, refl, sym, ◌∙◌, subst, append-nil}
use Rattle.std.specs.Prelude.{String}
use Rattle.std.specs.Global.{Global}
use Rattle.std.specs.declared.alloc.AllocError.{AllocError}
use Rattle.std.specs.List.{AllZip}
use Rattle.go_text.specs.declared.edition.Edition.{Edition}
use Rattle.go_text.specs.Faults.{Fault}
use Rattle.go_text.specs.Named.{Source}
use Rattle.go_ast.specs.Parse.{Parsed}
use Rattle.ws_register.specs.Sources.{pair_of}
use Rattle.ws_graph.specs.Plan.{source_of_parsed, IsFileIn, AllParsed, AreParsed, StopsIn}
use Rattle.ws_graph.specs.BuildPlan.{Sources}
use Rattle.ws_graph.specs.Discovery.{ParsesTo, IsWaiting, AreWaiting, IsReadAs, AreRead}
use Rattle.ws_graph.specs.declared.FileError.{FileError}
use Rattle.ws_graph.specs.declared.FileError.TheVariants.{Stopped}
use Rattle.ws_graph.specs.declared.wave.Found.{Found}
use Rattle.ws_graph.specs.declared.waiting.Waiting.{Waiting}
use Rattle.ws_graph.proofs.PlanFiles.{parsed_next, stops_here}

pub are_read : (ed : Edition) (sources : Sources) (wave : List Waiting) (read : List (Result (String Global × Found) AllocError)) → AllZip (λ w r. (sources : Sources) → IsWaiting sources w → IfOk r (IsReadAs ed sources w)) wave read → AreWaiting sources wave → AreRead ed sources wave read
are_read ed sources [] [] z are = tt
are_read ed sources [] (r ∷ rs) z are = absurd z
are_read ed sources (w ∷ ws) [] z are = absurd z
are_read ed sources (w ∷ ws) (r ∷ rs) z are = (z.0 sources are.0, are_read ed sources ws rs z.1 are.1)

-- these are parsed, and what is left comes to these
pub record ParsedSoFar (ed : Edition) (files : List Source) (parsed : List Parsed) (rest : List (Result Parsed FileError)) : Type 0 where
  pub left : List Source
  pub come : AllZip (ParsesTo ed) left rest
  pub so_far : (map source_of_parsed parsed ++ map pair_of left ≡ map pair_of files) × AllParsed ed parsed

pub parsed_begun : (ed : Edition) (files : List Source) (ps : List Parsed) (results rest : List (Result Parsed FileError)) → ps ≡ [] → rest ≡ results → AllZip (ParsesTo ed) files results → ParsedSoFar ed files ps rest
parsed_begun ed files ps results rest none same come = record {
  left = files;
  come = subst (AllZip (ParsesTo ed) files) (sym same) come;
  so_far = subst (λ (l : List Parsed). (map source_of_parsed l ++ map pair_of files ≡ map pair_of files) × AllParsed ed l) (sym none) (refl, tt);
}

pub one_parsed_more : (ed : Edition) (files : List Source) (ps new : List Parsed) (p : Parsed) (results rest : List (Result Parsed FileError)) (r : Result Parsed FileError) → new ≡ ps ++ p ∷ [] → results ≡ r ∷ rest → r ≡ Ok p → ParsedSoFar ed files ps results → ParsedSoFar ed files new rest
one_parsed_more ed files ps new p results rest r pushed taken is h = by_left h.left (subst (AllZip (ParsesTo ed) h.left) taken h.come) h.so_far
  where
    by_left : (left : List Source) → AllZip (ParsesTo ed) left (r ∷ rest) → (map source_of_parsed ps ++ map pair_of left ≡ map pair_of files) × AllParsed ed ps → ParsedSoFar ed files new rest
    by_left [] z so_far = absurd z
    by_left (s ∷ left) z so_far =
        let here = subst (λ o. IfOk o (λ q. (source_of_parsed q ≡ pair_of s) × IsFileIn ed q)) is z.0.parsed in
        record { left = left; come = z.1; so_far = parsed_next ed ps new p s (s ∷ left) left files pushed refl here.0 here.1 so_far }

pub all_parsed : (ed : Edition) (files : List Source) (ps : List Parsed) (rest : List (Result Parsed FileError)) → rest ≡ [] → ParsedSoFar ed files ps rest → AreParsed ed (map pair_of files) ps
all_parsed ed files ps rest none h = by_left h.left (subst (AllZip (ParsesTo ed) h.left) none h.come) h.so_far
  where
    by_left : (left : List Source) → AllZip (ParsesTo ed) left [] → (map source_of_parsed ps ++ map pair_of left ≡ map pair_of files) × AllParsed ed ps → AreParsed ed (map pair_of files) ps
    by_left [] z so_far = record { sources = sym (append-nil (map source_of_parsed ps)) ∙ so_far.0; parses = so_far.1 }
    by_left (s ∷ left) z so_far = absurd z

pub one_stops : (ed : Edition) (files : List Source) (ps : List Parsed) (results rest : List (Result Parsed FileError)) (r : Result Parsed FileError) (fault : Fault) → results ≡ r ∷ rest → r ≡ Err (Stopped fault) → ParsedSoFar ed files ps results → StopsIn ed (map pair_of files) fault
one_stops ed files ps results rest r fault taken is h = by_left h.left (subst (AllZip (ParsesTo ed) h.left) taken h.come) h.so_far
  where
    by_left : (left : List Source) → AllZip (ParsesTo ed) left (r ∷ rest) → (map source_of_parsed ps ++ map pair_of left ≡ map pair_of files) × AllParsed ed ps → StopsIn ed (map pair_of files) fault
    by_left [] z so_far = absurd z
    by_left (s ∷ left) z so_far = (let k = z.0.stopped fault is in stops_here ed ps s left files fault k.0 k.1 so_far.0 so_far.1 k.2 k.3)
