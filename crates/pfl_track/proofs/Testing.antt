-- A packet is inside the window where it misses no edge.
use Rattle.std.specs.Prelude.{◌≡◌, ℕ, Bool, true, false, not, ◌&&◌, ◌||◌, Some, None, is_none, if◌then◌else◌, refl}
use Rattle.std.specs.Option.{option_map_or}
use Rattle.pfl_track.specs.declared.edges.AckTest.{AckTest}
use Rattle.pfl_track.specs.Edges.{TestsAgree, ack_test, tested_by, unless}
use Rattle.pfl_track.specs.Windows.{ack_near, acknowledges, at_scale, is_scaled, left_edge, max_ack_window, right_edge}

-- each edge that is tested holds, or is missed
met-by : (right left counts near : Bool) (r l number least most a : ℕ)
    → (is_none (unless right r) && is_none (unless left l)
    && option_map_or (λ (t : AckTest). is_none t.missed) (if counts
    then Some (record { number = number; least = least; most = most; missed = unless near a }) else None) true)
    ≡ (right && left && (not counts || near))
met-by false left counts near r l number least most a = refl
met-by true false counts near r l number least most a = refl
met-by true true false near r l number least most a = refl
met-by true true true false r l number least most a = refl
met-by true true true true r l number least most a = refl

pub edges-agree : TestsAgree
unfolding tested_by
edges-agree s d p =
    let a = ack_test (at_scale (is_scaled s d p) s max_ack_window) d p in
    met-by (right_edge s p) (left_edge s (at_scale (is_scaled s d p) d d.window) p) (acknowledges d p)
    (ack_near (at_scale (is_scaled s d p) s max_ack_window) d p) _ _ a.number a.least a.most _
