-- The link: frames in flight by ticket (this project's profile).
use Rattle.std.specs.Prelude.{◌≡◌, ◌≤◌, ◌<◌, ℕ, ◌+◌, Bool, nat_le, List, length, take, Some, refl}
use Rattle.std.specs.Ordering.{nat_cmp}
use Rattle.std.specs.Coded.{Coded, code_by, coded×, coded_ℕ, coded_list}
use Rattle.pfl_base.specs.declared.node_id.NodeId.{NodeId}
use Rattle.pfl_base.specs.contracts.node_id.NodeId as node_id
use Rattle.pfl_edits.specs.Maps as maps
use Rattle.pfl_edits.specs.Maps.{Map}

-- a frame on its way
pub record InFlight : Type 0 where
  pub to : NodeId
  pub bytes : List ℕ

-- what contracts see of the link
pub record Link : Type 0 where
  pub limit : ℕ
  pub mtu : ℕ
  pub next : ℕ
  pub frames : Map nat_cmp InFlight

-- a link: at most this many frames, each of at most mtu bytes (ifconfig(8), `mtu`), with tickets below the next one
pub record IsLink (l : Link) : Type 0 where
  pub few : maps.len l.frames ≤ l.limit
  pub below : (ticket : ℕ) (f : InFlight) → maps.get l.frames ticket ≡ Some f → ticket < l.next
  pub short : (ticket : ℕ) (f : InFlight) → maps.get l.frames ticket ≡ Some f → length f.bytes ≤ l.mtu
  pub countable : l.next ≤ 4294967295

-- no frame is in flight
abbrev pub empty_link : ℕ → ℕ → ℕ → Link
empty_link limit mtu next = record { limit = limit; mtu = mtu; next = next; frames = maps.empty }

-- the link holds its limit of frames
abbrev pub is_full : Link → Bool
is_full l = nat_le l.limit (maps.len l.frames)

-- the next ticket is the last number
abbrev pub is_counted_out : Link → Bool
is_counted_out l = nat_le 4294967295 l.next

-- the frame under the next ticket
abbrev pub sent : Link → InFlight → Link
sent l f = record l { next = l.next + 1; frames = maps.insert l.frames l.next f }

-- the link without the frame
abbrev pub without_frame : Link → ℕ → Link
without_frame l ticket = record l { frames = maps.remove l.frames ticket }

-- the frame's first n bytes
abbrev pub cut_to : InFlight → ℕ → InFlight
cut_to f n = record f { bytes = take n f.bytes }

-- the link with this frame under the ticket
abbrev pub with_frame : Link → ℕ → InFlight → Link
with_frame l ticket f = record l { frames = maps.insert l.frames ticket f }

-- a frame is stored as its receiver and its bytes
abbrev pub coded_in_flight : Coded InFlight
coded_in_flight = code_by (NodeId × List ℕ) (coded× node_id.the_row.coded (coded_list coded_ℕ)) (λ f. (f.to, f.bytes))
    (λ p. record { to = p.0; bytes = p.1 }) (λ _. refl)

-- a link is stored as the tuple of its fields
abbrev pub coded_link : Coded Link
coded_link =
    code_by (ℕ × (ℕ × (ℕ × Map nat_cmp InFlight))) (coded× coded_ℕ (coded× coded_ℕ (coded× coded_ℕ (maps.code coded_ℕ coded_in_flight))))
    (λ l. (l.limit, (l.mtu, (l.next, l.frames))))
    (λ p. record { limit = p.0; mtu = p.1.0; next = p.1.1.0; frames = p.1.1.1 }) (λ _. refl)
