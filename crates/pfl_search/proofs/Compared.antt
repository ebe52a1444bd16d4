-- Whether a state stands at both nodes and is not the same, asked row by row.
use Rattle.std.specs.Prelude.{◌≡◌, Bool, ◌||◌, List, [], ◌∷◌, map, refl}
use Rattle.std.specs.List.{list_any}
use Rattle.std.proofs.Common.{◌∙◌, ap, sym}
use Rattle.pfl_base.specs.declared.node_id.NodeId.TheVariants.{A, B}
use Rattle.pfl_edits.specs.Maps as maps
use Rattle.pfl_table.specs.Tables.{States}
use Rattle.pfl_table.specs.declared.row.Row.{Row}
use Rattle.pfl_world.specs.Worlds.{World, node_at}
use Rattle.pfl_search.specs.Differing.{are_differing, differs}

any-map : {X Y : Type 0} (f : X → Y) (p : Y → Bool) (xs : List X) → list_any p (map f xs) ≡ list_any (λ x. p (f x)) xs
any-map f p [] = refl
any-map f p (x ∷ xs) = ap (λ (b : Bool). p (f x) || b) (any-map f p xs)

-- the rows are those of the states at a, and the others are the states at b
pub differing-rows : (w : World) (here others : States) (rows : List Row) → map (λ r. r.state) rows ≡ maps.values here → here ≡ (node_at w A).states
    → others ≡ (node_at w B).states
    → list_any (λ r. differs others r.state) rows ≡ are_differing w
differing-rows w here others rows all at_a at_b =
    sym (any-map (λ (r : Row). r.state) (differs others) rows)
    ∙ ap (list_any (differs others)) (all ∙ ap (λ (m : States). maps.values m) at_a)
    ∙ ap (λ (m : States). list_any (differs m) (maps.values (node_at w A).states)) at_b
