use Rattle.std.proofs.Common.{◌≡◌, ◌-◌, length, take, drop, sym, arith}
use Rattle.std.proofs.lemmas.List.{length-drop, take_all}
use Rattle.pfl_doors.proofs.Screening.{front_given}
use Rattle.pfl_doors.proofs.screened.Screened.give_front.Goals as goal

-- the bytes that were given were the first ones
pub returns-clause-front : goal.returns-clause-front
returns-clause-front g c =
    let items = c.self.inside.front.items in
    let whole = take_all (length items - c.self.inside.given) (drop c.self.inside.given items) (omega (arith, length-drop c.self.inside.given items)) in
    let waiting : take c.copy_some-count.result c.copy_some-count.new.to
    ≡ take c.copy_some-count.result (drop c.self.inside.given c.self.inside.front.items) =
    rw (c.as_slice.ensures.value, whole) at c.copy_some-count.ensures.copied in
    rw (sym c.self.view_is) (front_given c.self.inside.front.items _ c.self.inside.given c.copy_some-count.result waiting)
