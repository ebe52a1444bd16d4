-- Values that are linked by the numbers of nodes. This project's profile.
use Rattle.std.specs.Prelude.{ℕ, zero, suc, List, [], ◌∷◌, Option, Some, None, slice_get, get_or}
use Rattle.pfl_edits.specs.declared.in_order.Node.{Node}

-- what is read past the nodes
abbrev pub no_node : Node
no_node = record { ring = 0; previous = 0; next = 0 }

-- the node after a node
abbrev pub next_of : List Node → ℕ → ℕ
next_of nodes i = (get_or nodes i no_node).next

-- an entry, if there is one, and the rest
abbrev pub entry_then : {X : Type 0} → Option X → List X → List X
entry_then None rest = []
entry_then (Some x) rest = x ∷ rest

-- the values on the way from a node, at most n, up to the first node that has none
abbrev pub entries_from : {X : Type 0} → List Node → List X → ℕ → ℕ → List X
entries_from nodes values zero i = []
entries_from nodes values (suc n) i = entry_then (slice_get values i) (entries_from nodes values n (next_of nodes i))
