-- An edit of a link knows both values of its place.
use Rattle.std.specs.Prelude.{◌≡◌, ℕ, Option, refl, ◌+◌, Some, None}
use Rattle.std.proofs.Common.{sym}
use Rattle.std.proofs.lemmas.Cmp.{nat_cmp_total}
use Rattle.std.proofs.lemmas.Map.Lookups.{exact_unsigned}
use Rattle.pfl_edits.specs.Changes.{LeadsBothWays}
use Rattle.pfl_edits.proofs.ForCallers.{set_at-back, get-set_at_same}
use Rattle.pfl_link.specs.declared.change.LinkChange.{LinkChange}
use Rattle.pfl_link.specs.declared.change.LinkChange.TheVariants.{Sent, Taken, Cut}
use Rattle.pfl_link.specs.Links.{Link, InFlight, cut_to}
use Rattle.pfl_link.specs.LinkEdits.{Stands, with_place, frame_before, frame_after, next_before, next_after, LinkEdit, Finds, FindsFormer, put_back, redone}

-- what was set in a place goes back
pub with_place-back : (ticket : ℕ) (was new : Option InFlight) (before after : ℕ) (l : Link) → Stands ticket was before l
    → with_place ticket was before (with_place ticket new after l) ≡ l
with_place-back ticket was new before after l is = λ i. record {
  limit = l.limit;
  mtu = l.mtu;
  next = sym is.next_is i;
  frames = set_at-back nat_cmp_total exact_unsigned l.frames ticket was new is.frame i;
}

-- what was set in a place stands there
pub with_place-stands : (ticket : ℕ) (at : Option InFlight) (next : ℕ) (l : Link) → Stands ticket at next (with_place ticket at next l)
with_place-stands ticket at next l = record { frame = get-set_at_same nat_cmp_total exact_unsigned l.frames ticket at; next_is = refl }

change-both_ways : (c : LinkChange) (ticket : ℕ) (f : InFlight)
    → LeadsBothWays (λ l. Stands ticket (frame_before c f) (next_before c ticket l.next) l)
    (λ l. Stands ticket (frame_after c f) (next_after c ticket l.next) l)
    (λ l. with_place ticket (frame_before c f) (next_before c ticket l.next) l) (λ l. with_place ticket (frame_after c f) (next_after c ticket l.next) l)
change-both_ways Sent ticket f = record {
  put_back_finds = λ l is. with_place-stands ticket None ticket l;
  redone_finds = λ l is. with_place-stands ticket (Some f) (ticket + 1) l;
  redone_put_back = λ l is. with_place-back ticket (Some f) None (ticket + 1) ticket l is;
  put_back_redone = λ l is. with_place-back ticket None (Some f) ticket (ticket + 1) l is;
}
change-both_ways Taken ticket f = record {
  put_back_finds = λ l is. with_place-stands ticket (Some f) l.next l;
  redone_finds = λ l is. with_place-stands ticket None l.next l;
  redone_put_back = λ l is. with_place-back ticket None (Some f) l.next l.next l is;
  put_back_redone = λ l is. with_place-back ticket (Some f) None l.next l.next l is;
}
change-both_ways (Cut n) ticket f = record {
  put_back_finds = λ l is. with_place-stands ticket (Some f) l.next l;
  redone_finds = λ l is. with_place-stands ticket (Some (cut_to f n)) l.next l;
  redone_put_back = λ l is. with_place-back ticket (Some (cut_to f n)) (Some f) l.next l.next l is;
  put_back_redone = λ l is. with_place-back ticket (Some f) (Some (cut_to f n)) l.next l.next l is;
}

-- an edit leads both ways
pub edit-both_ways : (e : LinkEdit) → LeadsBothWays (FindsFormer e) (Finds e) (put_back e) (redone e)
edit-both_ways e = change-both_ways e.change e.ticket e.frame
