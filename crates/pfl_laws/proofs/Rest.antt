-- Two copies of a state: with `merge` whoever takes one end takes both, or the other end was the same; and what is stale one way is not
-- the other way, unless one is ahead in level and the other in number.
use Rattle.std.specs.Prelude.{◌≡◌, ◌≤◌, ◌<◌, ◌^◌, nat_lt, ℕ, zero, suc, Bool, true, false, not, ◌&&◌, ◌||◌, refl}
use Rattle.std.proofs.Common.{◌∙◌, T, cond, ap, sym, subst, arith}
use Rattle.std.proofs.lemmas.Bool.Decides.{nat_tests}
use Rattle.pfl_base.specs.declared.kernel.Kernel.{Kernel}
use Rattle.pfl_base.specs.declared.flow.Key.{Key}
use Rattle.pfl_base.specs.declared.proto.Proto.{Proto}
use Rattle.pfl_base.specs.Packets.{is_tcp}
use Rattle.pfl_base.specs.Sequence.{seq_gt, sub32}
use Rattle.pfl_world.specs.track.declared.peer.Peer.{Peer}
use Rattle.pfl_world.specs.track.declared.state.State.{State}
use Rattle.pfl_world.specs.track.Levels.{syn_sent}
use Rattle.pfl_world.specs.merge.Merging.{stale_src, stale_dst, stale_source, stale_destination, is_ahead}
use Rattle.pfl_laws.proofs.Merged.{Leaves, merged-leaves, or_false}
use Rattle.pfl_laws.specs.Rest.{said, Coming, updated, AreCopies, SameEnds, RestWithin, GoOnFor}
use Rattle.pfl_laws.specs.Rest.{CopiesComeToRest, OthersComeToRest, CrossedGoOn, LevelAndNumberCross}

-- ---- sequence numbers

not-after-itself : (a : ℕ) → a < 2 ^ 32 → seq_gt a a ≡ false
not-after-itself a small =
    let same : sub32 a a ≡ 0 = omega arith in
    ap (λ (d : ℕ). nat_lt 0 d && nat_lt d (2 ^ 31)) same

one-way : (a b : ℕ) → a < 2 ^ 32 → b < 2 ^ 32 → seq_gt a b ≡ true → seq_gt b a ≡ false
one-way a b a_small b_small after = grind (arith, nat_tests)

-- ---- what is stale

-- an end is not stale against itself
source-itself : (e : Peer) → e.lo < 2 ^ 32 → stale_source e e ≡ false
source-itself e small = let same = not-after-itself e.lo small in grind (arith, nat_tests)

destination-itself : (e : Peer) → e.lo < 2 ^ 32 → stale_destination e e ≡ false
destination-itself e small = let same = not-after-itself e.lo small in grind (arith, nat_tests)

ahead-itself : (e : Peer) → is_ahead e e ≡ false
ahead-itself e = grind (arith, nat_tests)

-- a source that is stale one way is not the other way
source-one-way : (d e : Peer) → d.lo < 2 ^ 32 → e.lo < 2 ^ 32 → stale_source d e ≡ true → stale_source e d ≡ false
source-one-way d e d_small e_small stale = let way = one-way d.lo e.lo d_small e_small in grind (arith, nat_tests, way)

ahead-one-way : (d e : Peer) → is_ahead d e ≡ true → is_ahead e d ≡ false
ahead-one-way d e ahead = grind (arith, nat_tests)

-- by the protocol
src-itself : (s x : State) (r : ℕ) → s.src.lo < 2 ^ 32 → x.src ≡ s.src → stale_src s (said x r) ≡ false
src-itself s x r small same =
    ap (λ (e : Peer). cond (is_tcp s.wire.proto) (stale_source s.src e) (is_ahead s.src e)) same ∙ by (is_tcp s.wire.proto)
  where
    by : (b : Bool) → cond b (stale_source s.src s.src) (is_ahead s.src s.src) ≡ false
    by true = source-itself s.src small
    by false = ahead-itself s.src

dst-itself : (s x : State) (r : ℕ) → s.dst.lo < 2 ^ 32 → x.dst ≡ s.dst → stale_dst s (said x r) ≡ false
dst-itself s x r small same =
    ap (λ (e : Peer). cond (is_tcp s.wire.proto) (stale_destination s.dst e) (is_ahead s.dst e)) same ∙ by (is_tcp s.wire.proto)
  where
    by : (b : Bool) → cond b (stale_destination s.dst s.dst) (is_ahead s.dst s.dst) ≡ false
    by true = destination-itself s.dst small
    by false = ahead-itself s.dst

src-one-way : (s t x : State) (r : ℕ) → AreCopies s t → x.src ≡ t.src → stale_src t (said s 0) ≡ true → stale_src s (said x r) ≡ false
src-one-way s t x r are same stale =
    ap (λ (e : Peer). cond (is_tcp s.wire.proto) (stale_source s.src e) (is_ahead s.src e)) same
    ∙ by (is_tcp s.wire.proto) (ap (λ (p : Proto). cond (is_tcp p) (stale_source t.src s.src) (is_ahead t.src s.src)) (sym are.proto) ∙ stale)
  where
    by : (b : Bool) → cond b (stale_source t.src s.src) (is_ahead t.src s.src) ≡ true → cond b (stale_source s.src t.src) (is_ahead s.src t.src) ≡ false
    by true e = source-one-way t.src s.src are.t_src are.s_src e
    by false e = ahead-one-way t.src s.src e

-- ---- one message

left-of : (k : Kernel) (s t : State) (c : Coming) → Leaves k t (said s 0) (updated k s t c).state
left-of k s t c =
    let left = merged-leaves k t (said s c.remaining) c.timeout c.now in
    record { name = left.name; wire = left.wire; src = left.src; dst = left.dst }

-- where it is not answered both ends were taken
taken-whole : (k : Kernel) (s t x : State) → Leaves k t (said s 0) x → (stale_src t (said s 0) || stale_dst t (said s 0)) ≡ false → SameEnds s x
taken-whole k s t x left quiet =
    let fresh = or_false _ _ quiet in
    record {
      src = sym (left.src ∙ ap (λ (b : Bool). cond b t.src s.src) fresh.0);
      dst = sym (left.dst ∙ ap (λ (b : Bool). cond (b && (not k.merge || stale_src t (said s 0))) t.dst s.dst) fresh.1);
    }

-- rest after the answers is rest
rest-after : (k : Kernel) (more : ℕ) (s t : State)
    → ((x : State) → Leaves k t (said s 0) x → (stale_src t (said s 0) || stale_dst t (said s 0)) ≡ true → RestWithin k more x s) → RestWithin k (suc more) s t
rest-after k more s t on c =
    let left = left-of k s t c in
    (λ quiet. taken-whole k s t (updated k s t c).state left quiet, λ answered. on (updated k s t c).state left answered)

-- nothing is stale
rest-now : (k : Kernel) (more : ℕ) (s t : State) → stale_src t (said s 0) ≡ false → stale_dst t (said s 0) ≡ false → RestWithin k (suc more) s t
rest-now k more s t src dst = rest-after k more s t (λ x left answered. absurd (no _ _ src dst answered))
  where
    no : (a b : Bool) → a ≡ false → b ≡ false → (a || b) ≡ true → ⊥
    no a b e f g = subst T (sym g ∙ (ap (λ (c : Bool). c || b) e ∙ f)) tt

-- where it is known what is stale
src-if : (k : Kernel) (s t x : State) (a : Bool) → Leaves k t (said s 0) x → stale_src t (said s 0) ≡ a → x.src ≡ cond a t.src s.src
src-if k s t x a left e = left.src ∙ ap (λ (b : Bool). cond b t.src s.src) e

dst-if : (k : Kernel) (s t x : State) (m a b : Bool) → Leaves k t (said s 0) x → k.merge ≡ m → stale_src t (said s 0) ≡ a → stale_dst t (said s 0) ≡ b
    → x.dst ≡ cond (b && (not m || a)) t.dst s.dst
dst-if k s t x m a b left on src dst =
    left.dst
    ∙ (ap (λ (c : Bool). cond (c && (not k.merge || stale_src t (said s 0))) t.dst s.dst) dst
    ∙ (ap (λ (c : Bool). cond (b && (not c || stale_src t (said s 0))) t.dst s.dst) on
    ∙ ap (λ (c : Bool). cond (b && (not m || c)) t.dst s.dst) src))

-- ---- with `merge`

-- the source was not stale: whatever the destination was, both ends are the sender's
from-sender : (k : Kernel) (s t x : State) (b : Bool) → k.merge ≡ true → AreCopies s t → Leaves k t (said s 0) x → stale_src t (said s 0) ≡ false
    → stale_dst t (said s 0) ≡ b → RestWithin k 2 x s
from-sender k s t x b on are left src dst =
    rest-now k 1 x s (src-itself s x 0 are.s_src (src-if k s t x false left src))
    (dst-itself s x 0 are.s_dst (dst-if k s t x true false b left on src dst ∙ none b))
  where
    none : (c : Bool) → cond (c && false) t.dst s.dst ≡ s.dst
    none true = refl
    none false = refl

-- both ends are the receiver's: they come back, and are taken whole
from-receiver : (k : Kernel) (s t x : State) → k.merge ≡ true → AreCopies s t → x.src ≡ t.src → x.dst ≡ t.dst → stale_src s (said x 0) ≡ false
    → RestWithin k 2 x s
from-receiver k s t x on are src dst fresh = rest-after k 1 x s (λ y left answered.
    rest-now k 0 y x
    (src-itself x y 0 (subst (λ (e : Peer). e.lo < 2 ^ 32) (sym src) are.t_src) (src-if k x s y false left fresh))
    (dst-itself x y 0 (subst (λ (e : Peer). e.lo < 2 ^ 32) (sym dst) are.t_dst)
    (dst-if k x s y true false (stale_dst s (said x 0)) left on fresh refl ∙ none (stale_dst s (said x 0)) x.dst)))
  where
    none : (c : Bool) (e : Peer) → cond (c && false) s.dst e ≡ e
    none true e = refl
    none false e = refl

pub copies-rest : CopiesComeToRest
copies-rest k s t on are = rest-after k 2 s t (λ x left answered. by x left (stale_src t (said s 0)) refl (stale_dst t (said s 0)) refl)
  where
    by : (x : State) → Leaves k t (said s 0) x → (a : Bool) → stale_src t (said s 0) ≡ a → (b : Bool) → stale_dst t (said s 0) ≡ b → RestWithin k 2 x s
    by x left false src b dst = from-sender k s t x b on are left src dst
    by x left true src true dst =
        let same = src-if k s t x true left src in
        from-receiver k s t x on are same (dst-if k s t x true true true left on src dst) (src-one-way s t x 0 are same src)
    by x left true src false dst =
        rest-now k 1 x s (src-one-way s t x 0 are (src-if k s t x true left src) src)
        (dst-itself s x 0 are.s_dst (dst-if k s t x true true false left on src dst))

-- ---- by the profile

-- what is stale goes by the ends and the protocol alone
dst-alike : (s x t : State) (r : ℕ) → x.dst ≡ t.dst → stale_dst s (said x r) ≡ stale_dst s (said t 0)
dst-alike s x t r same = ap (λ (e : Peer). cond (is_tcp s.wire.proto) (stale_destination s.dst e) (is_ahead s.dst e)) same

held-alike : (s x t : State) → x.wire.proto ≡ t.wire.proto → x.dst ≡ t.dst → stale_dst x (said s 0) ≡ stale_dst t (said s 0)
held-alike s x t proto same =
    ap (λ (p : Proto). cond (is_tcp p) (stale_destination x.dst s.dst) (is_ahead x.dst s.dst)) proto
    ∙ ap (λ (e : Peer). cond (is_tcp t.wire.proto) (stale_destination e s.dst) (is_ahead e s.dst)) same

pub others-rest : OthersComeToRest
others-rest k s t off are apart = rest-after k 1 s t (λ x left answered.
    rest-now k 0 x s (source x left (stale_src t (said s 0)) refl) (destination x left (stale_dst t (said s 0)) refl))
  where
    source : (x : State) → Leaves k t (said s 0) x → (a : Bool) → stale_src t (said s 0) ≡ a → stale_src s (said x 0) ≡ false
    source x left true e = src-one-way s t x 0 are (src-if k s t x true left e) e
    source x left false e = src-itself s x 0 are.s_src (src-if k s t x false left e)

    alone : (b c : Bool) → c ≡ true → (b && c) ≡ false → b ≡ false
    alone true c e f = sym e ∙ f
    alone false c e f = refl

    destination : (x : State) → Leaves k t (said s 0) x → (b : Bool) → stale_dst t (said s 0) ≡ b → stale_dst s (said x 0) ≡ false
    destination x left true e =
        dst-alike s x t 0 (dst-if k s t x false (stale_src t (said s 0)) true left off refl e) ∙ alone _ _ e apart
    destination x left false e = dst-itself s x 0 are.s_dst (dst-if k s t x false (stale_src t (said s 0)) false left off refl e)

both : (a b : Bool) → (a && b) ≡ true → (a ≡ true) × (b ≡ true)
both true b e = (refl, e)
both false b e = absurd (subst T (sym e) tt)

either-one : (a b : Bool) → b ≡ true → (a || b) ≡ true
either-one true b e = refl
either-one false b e = e

go-on : (messages : ℕ) (k : Kernel) (s t : State) → k.merge ≡ false → stale_dst s (said t 0) ≡ true → stale_dst t (said s 0) ≡ true → GoOnFor k messages s t
go-on zero k s t off back forth = tt
go-on (suc more) k s t off back forth = λ c.
    let x : State = (updated k s t c).state in
    let left = left-of k s t c in
    let kept : x.dst ≡ t.dst = dst-if k s t x false (stale_src t (said s 0)) true left off refl forth in (
      either-one (stale_src t (said s 0)) _ forth,
      kept,
      go-on more k x s off (held-alike s x t (ap (λ (w : Key). w.proto) left.wire) kept ∙ forth) (dst-alike s x t 0 kept ∙ back),
    )

pub crossed-go-on : CrossedGoOn
crossed-go-on k s t messages off crossed = let ways = both _ _ crossed in go-on messages k s t off ways.0 ways.1

-- one is ahead in level, the other in number
pub cross : LevelAndNumberCross
cross s t are tcp level begun number =
    let back : stale_dst s (said t 0) ≡ true =
    ap (λ (b : Bool). cond b (stale_destination s.dst t.dst) (is_ahead s.dst t.dst)) tcp ∙ ahead-stale s.dst t.dst level in
    let forth : stale_dst t (said s 0) ≡ true =
    ap (λ (p : Proto). cond (is_tcp p) (stale_destination t.dst s.dst) (is_ahead t.dst s.dst)) are.proto
    ∙ (ap (λ (b : Bool). cond b (stale_destination t.dst s.dst) (is_ahead t.dst s.dst)) tcp ∙ later-stale t.dst s.dst begun number) in
    ap (λ (b : Bool). b && stale_dst t (said s 0)) back ∙ forth
  where
    ahead-stale : (d e : Peer) → e.level < d.level → stale_destination d e ≡ true
    ahead-stale d e level = grind (arith, nat_tests)

    later-stale : (d e : Peer) → syn_sent ≤ d.level → seq_gt d.lo e.lo ≡ true → stale_destination d e ≡ true
    later-stale d e begun number = grind (arith, nat_tests)
