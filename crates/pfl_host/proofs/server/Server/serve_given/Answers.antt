use Rattle.std.proofs.Common.{arith, rules, ◌≡◌, length}
use Rattle.pfl_serve.proofs.ForCallers.session.{passes-many}
use Rattle.pfl_serve.specs.session.Passes.{IsPassOf}
use Rattle.pfl_host.proofs.Faults.{all-mapped}
use Rattle.pfl_host.proofs.Sitting.{as_many, service_many}
use Rattle.pfl_host.proofs.server.Server.serve_given.Goals as goal

-- there are as many connections as passes
pub seats-requires : goal.seats-requires
seats-requires g c =
    let many : length c.named-lab.result.1.items ≡ length g.J.Which.tallies = passes-many _ _ _ _ _ c.named-lab.ensures.new in
    record { as_many = omega (arith, many, c.requires.all); unfailed = c.requires.unfailed }

-- the passes of the seats are the lab's
pub serve_seats-requires-clause-lab : goal.serve_seats-requires-clause-lab
serve_seats-requires-clause-lab g c = λ κs within.
    all-mapped (IsPassOf g.J.Which.publisher g.J.Which.tallies) (λ s. s.pass) c.in_ok-seats.seats.items
    (rw c.in_ok-seats.ensures.passes c.named-lab.ensures.lab)

-- there is room for what is left of the connections
pub ends_of-fault-requires-clause-room : goal.ends_of-fault-requires-clause-room
ends_of-fault-requires-clause-room g c =
    let many : length c.named-lab.result.1.items ≡ length g.J.Which.tallies = passes-many _ _ _ _ _ c.named-lab.ensures.new in
    let seats = as_many (λ s. s.pass) c.in_ok-seats.seats.items _ c.in_ok-seats.ensures.passes in
    let ended = service_many _ _ _ _ _ _ _ c.in_ok-closed.ensures.service in
    omega (arith, many, seats, ended, c.requires.all, c.in-Ok.ensures.capacity, c.len.ensures, c.args.given.ok.0)

-- all were served
pub returns-clause-serves : goal.returns-clause-serves
returns-clause-serves g c = record {
  seats = c.in_ok-seats.seats.items;
  new = rw c.in_ok-seats.ensures.passes c.named-lab.ensures.new;
  over = c.in_ok-seats.ensures.over;
  timeline = c.in_ok-closed.field-0.closed.timeline;
  journal = c.in_ok-closed.field-0.closed.journal.items;
  ended = c.in_ok-closed.field-0.ended.items;
  service = c.in_ok-closed.ensures.service;
  back = rw c.take_back.ensures.returned c.ends_of-fault.ensures.back;
  first_is = c.ends_of-fault.ensures.fault;
  count = search rules;
}

-- there are no more browsers than sessions
pub returns-clause-browsers : goal.returns-clause-browsers
returns-clause-browsers g c =
    let many : length c.named-lab.result.1.items ≡ length g.J.Which.tallies = passes-many _ _ _ _ _ c.named-lab.ensures.new in
    let seats = as_many (λ s. s.pass) c.in_ok-seats.seats.items _ c.in_ok-seats.ensures.passes in
    let ended = service_many _ _ _ _ _ _ _ c.in_ok-closed.ensures.service in
    omega (arith, many, seats, ended, c.ends_of-fault.ensures.browsers)
