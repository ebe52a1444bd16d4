-- What a merge leaves of a state: the name and the flow, and of each end the held or the received one. No level falls by it, but that of a
-- stale destination which `merge` takes.
use Rattle.std.specs.Prelude.{◌≡◌, ◌≤◌, ◌⊎◌, ℕ, Bool, true, false, not, ◌&&◌, ◌||◌, refl}
use Rattle.std.proofs.Common.{◌∙◌, T, cond, ap, sym, subst, arith, inl, inr}
use Rattle.std.proofs.lemmas.Bool.Decides.{nat_tests}
use Rattle.pfl_base.specs.declared.kernel.Kernel.{Kernel}
use Rattle.pfl_base.specs.Packets.{is_tcp}
use Rattle.pfl_world.specs.track.declared.peer.Peer.{Peer}
use Rattle.pfl_world.specs.track.declared.state.State.{State}
use Rattle.pfl_world.specs.merge.declared.received.Received.{Received}
use Rattle.pfl_world.specs.merge.Merging.{merged, keeps_dst, stale_src, stale_dst, stale_source, stale_destination, is_ahead}
use Rattle.pfl_laws.specs.Laws.{HasRisen, TakenWhole}

-- t is what a merge leaves of s, as far as name, flow and ends go
pub record Leaves (k : Kernel) (s : State) (r : Received) (t : State) : Type 0 where
  pub name : t.name ≡ s.name
  pub wire : t.wire ≡ s.wire
  pub src : t.src ≡ cond (stale_src s r) s.src r.src
  pub dst : t.dst ≡ cond (keeps_dst k s r) s.dst r.dst

pub merged-leaves : (k : Kernel) (s : State) (r : Received) (seconds now : ℕ) → Leaves k s r (merged k s r seconds now).state
merged-leaves k s r seconds now =
    by (not (stale_src s r && stale_dst s r)) _ _ (record { name = refl; wire = refl; src = refl; dst = refl })
    (record { name = refl; wire = refl; src = refl; dst = refl })
  where
    by : (b : Bool) (x y : State) → Leaves k s r x → Leaves k s r y → Leaves k s r (cond b x y)
    by true x y l m = l
    by false x y l m = m

pub merged-name : (k : Kernel) (s : State) (r : Received) (seconds now : ℕ) → (merged k s r seconds now).state.name ≡ s.name
merged-name k s r seconds now = (merged-leaves k s r seconds now).name

-- ---- levels

pub or_false : (a b : Bool) → (a || b) ≡ false → (a ≡ false) × (b ≡ false)
or_false true b e = absurd (subst T e tt)
or_false false b e = (refl, e)

level_of : (stale : Bool) (held received : Peer) → (stale ≡ false → held.level ≤ received.level) → held.level ≤ (cond stale held received).level
level_of true held received up = omega arith
level_of false held received up = up refl

not_ahead : (held received : Peer) → is_ahead held received ≡ false → held.level ≤ received.level
not_ahead held received e = grind (arith, nat_tests)

-- by the protocol
src_up : (s : State) (r : Received) → stale_src s r ≡ false → s.src.level ≤ r.src.level
src_up s r = by (is_tcp s.wire.proto)
  where
    by : (b : Bool) → cond b (stale_source s.src r.src) (is_ahead s.src r.src) ≡ false → s.src.level ≤ r.src.level
    by true e = not_ahead s.src r.src (or_false _ _ e).0
    by false e = not_ahead s.src r.src e

dst_up : (s : State) (r : Received) → stale_dst s r ≡ false → s.dst.level ≤ r.dst.level
dst_up s r = by (is_tcp s.wire.proto)
  where
    by : (b : Bool) → cond b (stale_destination s.dst r.dst) (is_ahead s.dst r.dst) ≡ false → s.dst.level ≤ r.dst.level
    by true e = not_ahead s.dst r.dst (or_false _ _ e).0
    by false e = not_ahead s.dst r.dst e

source-up : (k : Kernel) (s : State) (r : Received) (t : State) → Leaves k s r t → s.src.level ≤ t.src.level
source-up k s r t left = subst (λ (e : Peer). s.src.level ≤ e.level) (sym left.src) (level_of (stale_src s r) s.src r.src (src_up s r))

-- without `merge`, or where the source is stale, nothing is taken that is stale
taken-fresh : (stale off source : Bool) → (off || source) ≡ true → (stale && (off || source)) ≡ false → stale ≡ false
taken-fresh false off source why e = refl
taken-fresh true off source why e = sym why ∙ e

destination-up : (k : Kernel) (s : State) (r : Received) (t : State) → Leaves k s r t → (not k.merge || stale_src s r) ≡ true
    → s.dst.level ≤ t.dst.level
destination-up k s r t left why =
    subst (λ (e : Peer). s.dst.level ≤ e.level) (sym left.dst)
    (level_of (keeps_dst k s r) s.dst r.dst (λ taken. dst_up s r (taken-fresh (stale_dst s r) (not k.merge) (stale_src s r) why taken)))

-- the source has risen, and the destination, unless `merge` is the kernel's
pub record RisesBy (k : Kernel) (s t : State) : Type 0 where
  pub src : s.src.level ≤ t.src.level
  pub dst : k.merge ≡ false → s.dst.level ≤ t.dst.level

-- t with whatever it waits for, and whatever it has counted
abbrev pub Then : State → ℕ → State
Then t updates = record t { ack_wanted = false; updates = updates }

pub merged-rises : (k : Kernel) (s : State) (r : Received) (seconds now updates : ℕ) → RisesBy k s (Then (merged k s r seconds now).state updates)
merged-rises k s r seconds now updates =
    let x : State = (merged k s r seconds now).state in
    let left = merged-leaves k s r seconds now in
    let source : s.src.level ≤ x.src.level = source-up k s r x left in
    let destination : k.merge ≡ false → s.dst.level ≤ x.dst.level =
    λ off. destination-up k s r x left (ap (λ (b : Bool). not b || stale_src s r) off) in
    record { src = source; dst = destination }

-- both have risen, or both ends of the record were taken
pub merged-so : (k : Kernel) (s : State) (r : Received) (seconds now updates : ℕ)
    → HasRisen s (Then (merged k s r seconds now).state updates) ⊎ TakenWhole k r s (Then (merged k s r seconds now).state updates)
merged-so k s r seconds now updates = by k.merge refl (stale_src s r) refl
  where
    x : State
    x = (merged k s r seconds now).state

    left : Leaves k s r x
    left = merged-leaves k s r seconds now

    risen : (not k.merge || stale_src s r) ≡ true → HasRisen s (Then x updates)
    risen why =
        let source : s.src.level ≤ x.src.level = source-up k s r x left in
        let destination : s.dst.level ≤ x.dst.level = destination-up k s r x left why in
        record { src = source; dst = destination }

    first : (a b : Bool) → a ≡ true → (a || b) ≡ true
    first true b e = refl
    first false b e = absurd (subst T (sym e) tt)

    second : (a b : Bool) → b ≡ true → (a || b) ≡ true
    second true b e = refl
    second false b e = e

    none : (stale on source : Bool) → on ≡ true → source ≡ false → cond (stale && (not on || source)) s.dst r.dst ≡ r.dst
    none false on source e f = refl
    none true true source e f = ap (λ (b : Bool). cond b s.dst r.dst) f
    none true false source e f = absurd (subst T (sym e) tt)

    by : (on : Bool) → k.merge ≡ on → (stale : Bool) → stale_src s r ≡ stale → HasRisen s (Then x updates) ⊎ TakenWhole k r s (Then x updates)
    by false e stale f = inl (risen (first _ _ (ap not e)))
    by true e true f = inl (risen (second _ _ f))
    by true e false f = inr (record {
      merge = e;
      fresh = f;
      src = left.src ∙ ap (λ (b : Bool). cond b s.src r.src) f;
      dst = left.dst ∙ none (stale_dst s r) k.merge (stale_src s r) e f;
    })
