-- What threads were promised to serve.
use Rattle.std.specs.Prelude.{List, map}
use Rattle.std.specs.declared.thread.PromisedHandle.{PromisedHandle}
use Rattle.pfl_serve.specs.declared.threads.ServedFrom.{ServedFrom}
use Rattle.pfl_serve.specs.declared.seat.Seat.{Seat}

-- the seats that the threads serve
abbrev pub seats_of : {T K A I W G : Type 0} → List (PromisedHandle T (ServedFrom K A I W G)) → List (Seat A I W)
seats_of hs = map (λ h. h.promise.seat.value) hs
