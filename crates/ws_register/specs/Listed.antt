-- The writes of a list of pages.
use Rattle.std.specs.Prelude.{ℕ, ◌+◌, List, ◌++◌, take, drop}
use Rattle.std.specs.declared.sync.Arc.{Arc}
use Rattle.std.specs.List.{flat_map}
use Rattle.ws_version.specs.Writes.{Write}
use Rattle.ws_register.specs.declared.page.Page.{Page}
use Rattle.ws_register.specs.Pages.{values}

-- what all of some values hold, one after another
abbrev pub all_writes_of : {X Z : Type 0} → (X → List Write) → List (Arc X Z) → List Write
all_writes_of held xs = flat_map held (values xs)

-- that, but with these writes in the place of what one of them holds
abbrev pub all_with : {X Z : Type 0} → (X → List Write) → List (Arc X Z) → ℕ → List Write → List Write
all_with held xs at writes = all_writes_of held (take at xs) ++ (writes ++ all_writes_of held (drop (at + 1) xs))

abbrev pub writes_of : Page → List Write
writes_of page = values page.writes.items

-- those of all pages, one page after another
abbrev pub all_writes : {Z : Type 0} → List (Arc Page Z) → List Write
all_writes pages = all_writes_of writes_of pages
