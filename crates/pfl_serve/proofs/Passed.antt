-- What a pass has seen of its own entries.
use Rattle.std.proofs.Common.{◌≡◌, ℕ, refl, ap, arith}
use Rattle.pfl_session.proofs.ForCallers.{count-append}
use Rattle.pfl_session.proofs.ForCallers.publish.{begun_all, loads-none}
use Rattle.pfl_session.specs.Journals.{count_of}
use Rattle.pfl_session.specs.Passes.{Seen, seen_in, GoesOn}
use Rattle.pfl_serve.specs.Sessions.{IsNotCalled}

module _ {M : Type 0} where
  -- a pass goes on from itself
  pub goes-none : (p : Seen M) → GoesOn p p
  goes-none p = record { session = refl; tally = refl; publisher = refl; seen = begun_all p.viewer.seen; loads = loads-none p.viewer }

  -- how many entries of its session the pass has seen
  abbrev pub own : Seen M → ℕ
  own p = count_of p.session (seen_in p)

  pub not-called-own : (old new : Seen M) → new.session ≡ old.session → IsNotCalled old new → own new ≡ own old
  not-called-own old new same is =
      omega (
        arith,
        ap (λ (s : ℕ). count_of s (seen_in new)) same,
        ap (count_of old.session) is.others.seen,
        count-append old.session (seen_in old) is.others.others,
        is.others.none_own,
      )
