-- The writes of files, one after another.
use Rattle.std.proofs.Common.{◌≡◌, ℕ, List, [], ◌∷◌, ◌++◌, sym, ap, ◌∙◌}
use Rattle.std.proofs.lemmas.List.{append_assoc}
use Rattle.ws_version.specs.Writes.{Write}
use Rattle.ws_run.specs.Files.{Files, write_of, writes_of}

-- one more of what is left
pub written_next : (so_far : List Write) (w : Write) (f : List ℕ × List ℕ) (its left : Files) (all : List Write) → its ≡ f ∷ left → w ≡ write_of f → so_far ++ writes_of its ≡ all → (so_far ++ w ∷ []) ++ writes_of left ≡ all
written_next so_far w f its left all e same whole =
    append_assoc so_far (w ∷ []) (writes_of left)
    ∙ ap (λ x. so_far ++ x ∷ writes_of left) same
    ∙ ap (λ (fs : Files). so_far ++ writes_of fs) (sym e)
    ∙ whole
