-- What a tape keeps of an edit. S is the type of what is kept of a small one, M of what is kept of one of middle size, E that of
-- the edits. This project's profile.
use Rattle.pfl_edits.specs.declared.packed.Packing.{Packing}
use Rattle.pfl_edits.specs.declared.packed.Packing.TheVariants.{Small, Middle, Large}

-- the edit that is kept so
abbrev pub edit_of : {S M E : Type 0} → (S → E) → (M → E) → Packing S M E → E
edit_of whole_small whole_middle (Small s) = whole_small s
edit_of whole_small whole_middle (Middle m) = whole_middle m
edit_of whole_small whole_middle (Large e) = e
