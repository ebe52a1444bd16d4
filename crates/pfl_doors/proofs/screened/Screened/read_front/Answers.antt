use Rattle.std.proofs.Common.{rules, ◌≡◌, ◌++◌, None, arith, sym, take}
use Rattle.std.proofs.lemmas.Bool.{false≢true}
use Rattle.std.proofs.lemmas.List.{length-take}
use Rattle.pfl_doors.proofs.Screening.{front_read_on, judged-few}
use Rattle.pfl_doors.proofs.screened.Screened.read_front.Goals as goal

-- there is room for a block
pub unreachable-requires : goal.unreachable-requires
unreachable-requires g c =
    let unknown : c.self.inside.verdict ≡ None = search rules in
    let few = judged-few c.self.inside.front.items (c.self.invariant.1 unknown).1 in
    let block = length-take c.in_ok-count.count c.read.new.buf in
    false≢true (c.in_default.ensures.variant.1 (omega (arith, few, block, c.in_ok-count.ensures.bound)))

-- a block was read
pub returns-clause-keeps : goal.returns-clause-keeps
returns-clause-keeps g c =
    let unknown : c.self.inside.verdict ≡ None = search rules in
    let none = (c.self.invariant.1 unknown).0 in
    let front : c.try_extend_from_slice.new.self.items ≡ c.self.inside.front.items ++ take c.in_ok-count.count c.read.new.buf = search rules in
    rw (sym c.self.view_is, unknown, none, c.judged_so_far-self-inside.ensures, c.as_slice.ensures.value, front)
    (front_read_on c.self.inside.front.items (take c.in_ok-count.count c.read.new.buf) _ _ c.in_ok-count.ensures.bytes.0)

-- what says nothing is short
pub returns-clause-few : goal.returns-clause-few
returns-clause-few g c =
    let unknown : c.self.inside.verdict ≡ None = search rules in
    let known = c.self.invariant.1 unknown in
    rw (sym c.self.view_is, known.0) (judged-few c.self.inside.front.items known.1)

pub returns-in_err-count-clause-few : goal.returns-in_err-count-clause-few
returns-in_err-count-clause-few g c =
    let unknown : c.self.inside.verdict ≡ None = search rules in
    let known = c.self.invariant.1 unknown in
    rw (sym c.self.view_is, known.0) (judged-few c.self.inside.front.items known.1)

pub returns-then-count-eq0-clause-few : goal.returns-then-count-eq0-clause-few
returns-then-count-eq0-clause-few g c =
    let unknown : c.self.inside.verdict ≡ None = search rules in
    let known = c.self.invariant.1 unknown in
    rw (sym c.self.view_is, known.0) (judged-few c.self.inside.front.items known.1)
