-- The window by the profile's rules or the kernel's, edge by edge, and by how much a packet misses each (Rules; this project's profile).
use Rattle.std.specs.Prelude.{ℕ, ◌-◌, ◌^◌, Bool, true, false, not, ◌&&◌, min, Option, Some, None, is_none, if◌then◌else◌}
use Rattle.std.specs.Option.{option_map_or}
use Rattle.pfl_base.specs.declared.direction.Dir.{Dir}
use Rattle.pfl_base.specs.declared.packet.Packet.{Packet}
use Rattle.pfl_base.specs.Sequence.{add32, sub32, seq_geq}
use Rattle.pfl_track.specs.declared.edges.AckTest.{AckTest}
use Rattle.pfl_track.specs.declared.edges.EdgeTest.{EdgeTest}
use Rattle.pfl_track.specs.declared.edges.WindowTest.{WindowTest}
use Rattle.pfl_track.specs.declared.judgement.Judgement.{Judgement}
use Rattle.pfl_track.specs.declared.judgement.LooseTest.{LooseTest}
use Rattle.pfl_track.specs.declared.judgement.ResetTest.{ResetTest}
use Rattle.pfl_track.specs.declared.branch.Branch.{Branch}
use Rattle.pfl_track.specs.declared.branch.Branch.TheVariants.{Window, Loose}
use Rattle.pfl_base.specs.declared.kernel.Kernel.{Kernel}
use Rattle.pfl_track.specs.declared.segment.Segment.{Segment}
use Rattle.pfl_track.specs.declared.state.State.{State}
use Rattle.pfl_track.specs.Edges.{is_met, unless}
use Rattle.pfl_track.specs.Rules.{ahead_of, asks_number, back_of, is_beside, is_empty, is_inside_by, is_lenient, is_near, loose_back, loose_end, segment_of}
use Rattle.pfl_track.specs.Tracking.{receiver, sender}
use Rattle.pfl_track.specs.Windows.{max_ack_window}

-- a number that may be at most its bound, and how far it is past that
abbrev pub up_to : ℕ → ℕ → EdgeTest
up_to bound number = record { number = number; bound = bound; missed = unless (seq_geq bound number) (sub32 number bound) }

-- a number that may be at least its bound, and how far it is before that
abbrev pub back_to : ℕ → ℕ → EdgeTest
back_to bound number = record { number = number; bound = bound; missed = unless (seq_geq number bound) (sub32 bound number) }

-- an acknowledged number lies outside its two bounds by so much, the nearer one counted
abbrev pub near_test : ℕ → ℕ → ℕ → AckTest
near_test ahead lo number = record {
  number = number;
  least = sub32 lo ahead;
  most = add32 lo max_ack_window;
  missed = unless (is_near ahead lo number) (min (sub32 lo number - ahead) ((2 ^ 32 - max_ack_window) - sub32 lo number));
}

-- the number of a RST lies outside its two bounds by so much, the nearer one counted
abbrev pub reset_test : ℕ → ℕ → ResetTest
reset_test lo number = record {
  number = number;
  least = sub32 lo 1;
  most = add32 lo 1;
  missed = unless (is_beside number lo) (min (sub32 (sub32 lo 1) number) (sub32 number (add32 lo 1)));
}

-- what the packet acknowledges, if that counts
abbrev pub ack_of : Segment → Option AckTest
ack_of g = option_map_or (λ number. Some (near_test (ahead_of g) g.receiver.lo number)) g.ack None

-- the edges of the window
abbrev pub edges_of : Segment → WindowTest
edges_of g = record { right = up_to g.sender.hi g.end; left = back_to (back_of g) g.seq; ack = ack_of g }

-- the further edges
abbrev pub loose_test : Segment → LooseTest
loose_test g = record { right = up_to (loose_end g) g.end; left = back_to (loose_back g) g.seq }

-- what the packet is tested against: the further edges only where it is not inside the window and may pass loosely
unfoldable pub judged : Kernel → Segment → Packet → Judgement
judged kernel g p = record {
  eased = kernel.window && is_empty p;
  test = edges_of g;
  reset = if asks_number kernel p then Some (reset_test g.sender.lo p.seq) else None;
  loose = if kernel.loose && is_lenient g && not (is_inside_by kernel g p) then Some (loose_test g) else None;
}

-- what a packet of the state is tested against
abbrev pub window_test_by : Kernel → State → Dir → Packet → Judgement
window_test_by kernel s dir p = judged kernel (segment_of kernel (sender s dir) (receiver s dir) p) p

-- the number of a RST is not missed
abbrev pub misses_no_number : Option ResetTest → Bool
misses_no_number reset = option_map_or (λ r. is_none r.missed) reset true

-- the further edges are asked for, and none is missed
abbrev pub is_met_loosely : Option LooseTest → Bool
is_met_loosely loose = option_map_or (λ t. is_none t.right.missed && is_none t.left.missed) loose false

-- how the packet passes, as its tests say
abbrev pub branch_of : Judgement → Option Branch
branch_of j = if is_met j.test && misses_no_number j.reset then Some Window else if is_met_loosely j.loose then Some Loose else None
