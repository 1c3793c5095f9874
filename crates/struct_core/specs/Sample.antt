-- The sample net: so many philosophers around a table, with a fork between each two, who think, take the two
-- forks beside them, eat, and lay both down (E. W. Dijkstra, "Hierarchical ordering of sequential processes", 1971).
use Rattle.std.specs.Prelude.{ℕ, ◌+◌, ◌*◌, ◌%◌, List, [], ◌∷◌, ◌++◌, None, map, codes, decimal}
use Rattle.std.specs.List.{flat_map, range_with_len}
use Rattle.net_values.specs.declared.document.Document.{Document}
use Rattle.net_values.specs.declared.document.NetTree.{NetTree}
use Rattle.net_values.specs.declared.document.Item.{Item}
use Rattle.net_values.specs.declared.document.Item.TheVariants.{Page, PageEnd, Place, Transition, Arc}

-- a word and a number
abbrev pub numbered : List ℕ → ℕ → List ℕ
numbered word i = word ++ decimal i

-- an item by its word and number; nothing has a name
abbrev pub place : List ℕ → ℕ → ℕ → Item
place word initial i = Place record { id = numbered word i; name = None; initial = initial }

abbrev pub transition : List ℕ → ℕ → Item
transition word i = Transition record { id = numbered word i; name = None }

abbrev pub arc : ℕ → List ℕ → List ℕ → Item
arc k source target = Arc record { id = numbered (codes "a") k; name = None; source = source; target = target; weight = 1 }

-- philosopher i takes the forks and releases them
abbrev pub transitions_of : ℕ → List Item
transitions_of i = transition (codes "take") i ∷ transition (codes "release") i ∷ []

-- by these arcs philosopher i takes the forks i and j and eats; the arcs are numbered, eight for each philosopher
abbrev pub takes : ℕ → ℕ → List Item
takes i j =
    arc (8 * i) (numbered (codes "think") i) (numbered (codes "take") i)
    ∷ arc (8 * i + 1) (numbered (codes "fork") i) (numbered (codes "take") i)
    ∷ arc (8 * i + 2) (numbered (codes "fork") j) (numbered (codes "take") i)
    ∷ arc (8 * i + 3) (numbered (codes "take") i) (numbered (codes "eat") i)
    ∷ []

-- and by these the philosopher releases them and thinks
abbrev pub releases : ℕ → ℕ → List Item
releases i j =
    arc (8 * i + 4) (numbered (codes "eat") i) (numbered (codes "release") i)
    ∷ arc (8 * i + 5) (numbered (codes "release") i) (numbered (codes "think") i)
    ∷ arc (8 * i + 6) (numbered (codes "release") i) (numbered (codes "fork") i)
    ∷ arc (8 * i + 7) (numbered (codes "release") i) (numbered (codes "fork") j)
    ∷ []

-- the fork on the other side is that of the next of the n philosophers
abbrev pub arcs_of : ℕ → ℕ → List Item
arcs_of n i = takes i ((i + 1) % n) ++ releases i ((i + 1) % n)

-- who thinks, which forks lie on the table, who eats, what each does, and the arcs, all on one page
abbrev pub sample_items : ℕ → List Item
sample_items n =
    Page record { id = codes "page"; name = None }
    ∷ (map (place (codes "think") 1) (range_with_len 0 n)
    ++ (map (place (codes "fork") 1) (range_with_len 0 n)
    ++ (map (place (codes "eat") 0) (range_with_len 0 n)
    ++ (flat_map transitions_of (range_with_len 0 n)
    ++ (flat_map (arcs_of n) (range_with_len 0 n)
    ++ PageEnd ∷ [])))))

abbrev pub sample_tree : ℕ → NetTree
sample_tree n = record { id = codes "sample"; name = None; items = sample_items n }

abbrev pub sample_document : ℕ → Document
sample_document n = record { nets = sample_tree n ∷ [] }
