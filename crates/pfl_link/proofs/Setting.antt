-- What setting a row does to the link that the rows stand for.
use Rattle.std.proofs.Common.{◌≡◌, ◌≤◌, ℕ, List, [], Option, sym, ◌∙◌, ap, subst, arith}
use Rattle.std.specs.Option.{option_map}
use Rattle.std.specs.Ordering.{nat_cmp}
use Rattle.std.proofs.lemmas.Cmp.{nat_cmp_total}
use Rattle.std.proofs.lemmas.Map.Lookups.{exact_unsigned}
use Rattle.pfl_edits.specs.Maps as maps
use Rattle.pfl_edits.specs.Maps.{Map, set_at}
use Rattle.pfl_edits.proofs.ForCallers.{len-empty, get-empty, some_is_none}
use Rattle.pfl_edits.specs.Rows.{map_of}
use Rattle.pfl_edits.specs.Ordered.{RowList}
use Rattle.pfl_link.specs.Links.{Link, InFlight, IsLink, empty_link}
use Rattle.pfl_link.specs.Framed.{Ticketed, ticket_of, frames_of, link_of, IsKept, map_values}
use Rattle.pfl_link.proofs.Framed.{frames_of-none, len-map_values, get-map_values, map_values-set_at}
use Rattle.pfl_link.specs.LinkEdits.{with_place}

abbrev pub by_ticket : List Ticketed → Map nat_cmp Ticketed
by_ticket rows = map_of nat_cmp ticket_of rows

-- as many frames as rows
pub len_frames : (rows : List Ticketed) → maps.len (by_ticket rows) ≡ maps.len (frames_of rows)
len_frames rows = sym (len-map_values (λ r. r.frame) (by_ticket rows))

-- the frame under a ticket is that of the row
pub get_frame : (rows : List Ticketed) (ticket : ℕ) (row : Option Ticketed) → row ≡ maps.get (by_ticket rows) ticket
    → option_map (λ r. r.frame) row ≡ maps.get (frames_of rows) ticket
get_frame rows ticket row is = ap (option_map (λ r. r.frame)) is ∙ sym (get-map_values (λ r. r.frame) (by_ticket rows) ticket)

-- a link without rows is the empty one,
pub empty_is : (limit mtu next : ℕ) (rows : RowList Ticketed) → rows.list ≡ [] → link_of limit mtu next rows ≡ empty_link limit mtu next
empty_is limit mtu next rows is =
    ap (λ (f : Map nat_cmp InFlight). record { limit = limit; mtu = mtu; next = next; frames = f }) (ap frames_of is ∙ frames_of-none)

empty_link_is : (limit mtu next : ℕ) → next ≤ 4294967295 → IsLink (empty_link limit mtu next)
empty_link_is limit mtu next h = record {
  few = rw (len-empty nat_cmp InFlight) (omega arith);
  below = λ ticket f is. absurd (some_is_none f (sym is ∙ get-empty nat_cmp ticket));
  short = λ ticket f is. absurd (some_is_none f (sym is ∙ get-empty nat_cmp ticket));
  countable = h;
}

-- and it is kept
pub empty_kept : (limit mtu next : ℕ) (rows : RowList Ticketed) → rows.list ≡ [] → rows.limit ≡ limit → next ≤ 4294967295 → IsKept limit mtu next rows
empty_kept limit mtu next rows none room h =
    record { link = subst IsLink (sym (empty_is limit mtu next rows none)) (empty_link_is limit mtu next h); room = room }

-- The row goes under the ticket, and the frame is the row's. `whole` is the link whose fields are the others.
module _ (limit mtu next : ℕ) (rows : RowList Ticketed) (kept : IsKept limit mtu next rows) (whole : Link) (fields : link_of limit mtu next rows ≡ whole)
    (ticket : ℕ) (row : Option Ticketed) (at : Option InFlight) (framed : option_map (λ r. r.frame) row ≡ at) (after : ℕ)
    (asked : IsLink (with_place ticket at after whole)) where
  here : IsLink (with_place ticket at after (link_of limit mtu next rows))
  here = subst (λ (l : Link). IsLink (with_place ticket at after l)) (sym fields) asked

  set_frames : map_values (λ r. r.frame) (set_at (by_ticket rows.list) ticket row) ≡ set_at (frames_of rows.list) ticket at
  set_frames = map_values-set_at (λ r. r.frame) nat_cmp_total exact_unsigned (by_ticket rows.list) ticket row ∙ ap (set_at (frames_of rows.list) ticket) framed

  -- there is room for it
  pub set_room : maps.len (set_at (by_ticket rows.list) ticket row) ≤ rows.limit
  set_room =
      let few = here.few in
      let same = sym (len-map_values (λ r. r.frame) (set_at (by_ticket rows.list) ticket row)) ∙ ap maps.len set_frames in
      omega (arith, few, same, kept.room)

  module _ (new : RowList Ticketed) (map : by_ticket new.list ≡ set_at (by_ticket rows.list) ticket row) (room : new.limit ≡ rows.limit) where
    new_frames : frames_of new.list ≡ set_at (frames_of rows.list) ticket at
    new_frames = ap (map_values (λ r. r.frame)) map ∙ set_frames

    new_link : link_of limit mtu after new ≡ with_place ticket at after (link_of limit mtu next rows)
    new_link = ap (λ (f : Map nat_cmp InFlight). record { limit = limit; mtu = mtu; next = after; frames = f }) new_frames

    -- the link is kept,
    pub set_kept : IsKept limit mtu after new
    set_kept = record { link = subst IsLink (sym new_link) here; room = room ∙ kept.room }

    -- and it is the one with this in the place
    pub set_link : link_of limit mtu after new ≡ with_place ticket at after whole
    set_link = new_link ∙ ap (with_place ticket at after) fields
