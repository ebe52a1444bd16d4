-- Whether a world meets a goal.
use Rattle.std.specs.Prelude.{◌≡◌, Bool, true, false, ◌&&◌}
use Rattle.std.proofs.Common.{ap}
use Rattle.pfl_world.specs.Worlds.{World}
use Rattle.pfl_search.specs.Goals.{answer, is_asked, meets}
use Rattle.pfl_language.specs.declared.goal.Goal.{Goal}

-- where the question is not asked, it does not
pub meets-not_asked : (g : Goal) (w : World) → false ≡ is_asked g.scope w → false ≡ meets g w
unfolding meets
meets-not_asked g w h = ap (λ (b : Bool). b && answer g.question w) h

-- where it is, the answer decides
pub meets-asked : (g : Goal) (w : World) → true ≡ is_asked g.scope w → answer g.question w ≡ meets g w
unfolding meets
meets-asked g w h = ap (λ (b : Bool). b && answer g.question w) h
