use Rattle.std.proofs.Common.{◌≡◌, [], length}
use Rattle.pfl_session.proofs.opened.Opened.new.Given as goal

-- the sessions so far
abbrev pub invariant-loop-session : goal.invariant-loop-session
invariant-loop-session g l = record {
  opening : l.opened.opening ≡ l.fn.timeline;
  setup : l.opened.setup ≡ [];
  limit : l.opened.limit ≡ l.fn.journal;
  many : length l.opened.tallies ≡ l.session;
}
