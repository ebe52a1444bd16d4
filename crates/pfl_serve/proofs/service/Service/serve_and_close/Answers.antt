use Rattle.std.proofs.Common.{arith, ◌≡◌, length}
use Rattle.pfl_serve.proofs.EndedSeats.{served-many, served-passes}
use Rattle.pfl_serve.proofs.service.Service.serve_and_close.Goals as goal

-- there is room for the passes of all seats, and for what is left of them
pub take_passes-passes-requires-clause-room : goal.take_passes-passes-requires-clause-room
take_passes-passes-requires-clause-room g c =
    let many : length c.in_ok-served.served.items ≡ length c.args.seats.items = served-many _ _ _ _ _ c.in_ok-served.ensures.served in
    let passes = c.in_ok-passes.ensures.room in
    let ended = c.in_ok-ended.ensures.room in (
      omega (arith, many, passes, c.len.ensures, c.in_ok-served.served.ok.0, c.args.seats.ok.0),
      omega (arith, many, ended, c.len-2.ensures, c.in_ok-served.served.ok.0, c.args.seats.ok.0),
    )

-- the passes that come back are the lab's
pub close-requires : goal.close-requires
close-requires g c = record { lab = rw c.take_passes-passes.ensures.passes (served-passes _ _ _ _ _ c.in_ok-served.ensures.served) }

-- all were served, and the lab was closed with their passes
pub returns : goal.returns
returns g c = record {
  service = record {
    served = c.in_ok-served.served.items;
    all = c.in_ok-served.ensures.served;
    ended_is = c.take_passes-passes.ensures.ended;
    closed = c.close.ensures.closed;
    seen = rw c.take_passes-passes.ensures.passes at c.close.ensures.seen;
  };
}
