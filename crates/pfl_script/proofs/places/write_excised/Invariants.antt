use Rattle.std.proofs.Common.{◌≡◌, ◌≤◌, length}
use Rattle.pfl_script.specs.inner.Texts.{WritesAllBut}
use Rattle.pfl_script.proofs.Placing.{line_to}
use Rattle.pfl_script.proofs.places.write_excised.Given as goal

-- the places so far were written, but for those in the piece
abbrev pub invariant-loop-place : goal.invariant-loop-place
invariant-loop-place g l = record {
  room : length l.piece.bytes ≤ 191;
  written : WritesAllBut (g.W.Output.written l.fn.writer) (g.W.Output.written l.writer) (line_to l.places l.place-index) l.piece.bytes;
  stays : g.W.Output.has_failed l.writer ≡ g.W.Output.has_failed l.fn.writer;
}
