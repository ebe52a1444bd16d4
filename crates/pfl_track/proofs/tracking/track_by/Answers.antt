-- The last case has the packets that are tracked by the profile: those of ICMP with levels, those of TCP where none of its rules is the
-- kernel's, and those of other protocols.
use Rattle.std.specs.Prelude.{◌≡◌, ◌&&◌, Bool, true, false, refl}
use Rattle.std.proofs.Common.{◌∙◌, sym, ap}
use Rattle.pfl_base.specs.declared.proto.Proto.{Proto}
use Rattle.pfl_base.specs.declared.proto.Proto.TheVariants.{Tcp, Udp, Icmp, Other}
use Rattle.pfl_base.specs.Packets.{is_icmp, is_tcp}
use Rattle.pfl_track.proofs.RuleMoving.{profile-other, profile-tracked}
use Rattle.pfl_track.proofs.tracking.track_by.Goals as goal
use Rattle.pfl_track.proofs.tracking.track_by.Goals.{in_default-via-in-Icmp+else-kernel, in_default-via-in-Tcp+else-not-tracks_by_profile, in_default-via-in_default}

not-tcp : (proto : Proto) → (proto ≡ Tcp → ⊥) → is_tcp proto ≡ false
not-tcp Tcp other = absurd (other refl)
not-tcp Udp other = refl
not-tcp Icmp other = refl
not-tcp (Other n) other = refl

not-icmp : (proto : Proto) → (proto ≡ Icmp → ⊥) → is_icmp proto ≡ false
not-icmp Icmp other = absurd (other refl)
not-icmp Tcp other = refl
not-icmp Udp other = refl
not-icmp (Other n) other = refl

neither : (icmp is : Bool) → is ≡ false → (icmp && is) ≡ false
neither true is e = e
neither false is e = refl

pub returns-in_default : goal.returns-in_default
returns-in_default c =
    let k = c.args.kernel in
    let s = c.args.state.now in
    let p = c.args.packet.now in
    let dir = c.args.dir in
    let now = c.args.now in
    c.track.ensures ∙ sym (elim c.in_default.branch [
      | in_default-via-in-Icmp+else-kernel w ↦
          let icmp : p.proto ≡ Icmp = sym c.proto.ensures ∙ w.in-Icmp.is in
          profile-other k s p dir now (ap is_tcp icmp) (ap (λ (b : Bool). b && is_icmp p.proto) w.if-kernel.false)
      | in_default-via-in-Tcp+else-not-tracks_by_profile w ↦
          let tcp : p.proto ≡ Tcp = sym c.proto.ensures ∙ w.in-Tcp.is in
          profile-tracked k s p dir now (sym w.tracks_by_profile.ensures ∙ w.if-not-tracks_by_profile.false)
          (neither k.icmp (is_icmp p.proto) (ap is_icmp tcp))
      | in_default-via-in_default w ↦
          profile-other k s p dir now (not-tcp p.proto (λ e. w.in_default.not-Tcp (c.proto.ensures ∙ e)))
          (neither k.icmp (is_icmp p.proto) (not-icmp p.proto (λ e. w.in_default.not-Icmp (c.proto.ensures ∙ e))))
    ])
