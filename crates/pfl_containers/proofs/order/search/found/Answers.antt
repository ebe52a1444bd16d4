use Rattle.pfl_containers.proofs.Searching.{finds_nothing, finds_none, finds_left, finds_here, finds_right}
use Rattle.pfl_containers.proofs.order.search.found.Goals.{in-Less, in-Greater}
use Rattle.pfl_containers.proofs.order.search.found.Goals as goal

pub returns-in_default : goal.returns-in_default
returns-in_default g c = record { finds = c.loop-steps_left.invariant _ (finds_nothing _ _ _ c.in_default.ensures.node _ _) }

pub returns-in-Equal : goal.returns-in-Equal
returns-in-Equal g c = record { finds = c.loop-steps_left.invariant _ (finds_here _ _ _ _ c.in-Some.ensures.node _ _ c.in-Equal.ensures.order) }

pub loop-steps_left-preserved : goal.loop-steps_left-preserved
loop-steps_left-preserved g c = elim c.match-compare.branch [
  | in-Less w ↦ rw w.link-is (λ found below. c.loop-steps_left.invariant found (finds_left _ _ _ _ c.in-Some.ensures.node _ _ w.in-Less.ensures.order below))
  | in-Greater w ↦ rw w.link-is
      (λ found below. c.loop-steps_left.invariant found (finds_right _ _ _ _ c.in-Some.ensures.node _ _ w.in-Greater.ensures.order below))
]

pub returns : goal.returns
returns g c = record { finds = c.loop-steps_left.invariant _ (finds_none _ _ _ c.loop-steps_left-test.false _ _) }
