-- An edit of the held packets leads back.
use Rattle.std.specs.Prelude.{◌≡◌, ◌≤◌, ℕ, List, [], ◌∷◌, length, Some, None}
use Rattle.std.specs.List.{slice_get, insert, remove}
use Rattle.std.proofs.Common.{◌∙◌, ap, sym, subst, arith}
use Rattle.std.proofs.lemmas.List.Edits.{insert_end}
use Rattle.pfl_base.specs.declared.packet.Packet.{Packet}
use Rattle.pfl_base.specs.declared.state_name.StateName.{StateName}
use Rattle.pfl_edits.proofs.ForCallers.{LeadsBack-one, with_position-stands, with_position-back}
use Rattle.pfl_defer.specs.declared.Held.{Held}
use Rattle.pfl_defer.specs.declared.edits.DeferEdit.TheVariants.{Removed, Added}
use Rattle.pfl_defer.specs.Deferring.{Deferrals, IsDeferrals, let_go, with_held}
use Rattle.pfl_defer.specs.Edits.{Finds, put_back, DefersBack}
use Rattle.pfl_defer.proofs.Kept.{let_go_place}

-- a packet that was let go from its place is put back there
pub removed-leads_back : (d : Deferrals) (i : ℕ) (h : Held) → IsDeferrals d → slice_get d.list i ≡ Some h → DefersBack (Removed i h ∷ []) d (let_go d h.name)
removed-leads_back d i h is at =
    let gone = let_go_place d.list i h is.once at in
    LeadsBack-one Finds IsDeferrals put_back (Removed i h) d (let_go d h.name)
    (subst (λ (hs : List Held). i ≤ length hs) (sym gone) (with_position-stands d.list i (Some h) None at))
    is
    (ap (λ (hs : List Held). record d { list = insert hs i h }) gone
    ∙ ap (λ (hs : List Held). record d { list = hs }) (with_position-back d.list i (Some h) None at))

-- a packet that was held after the others is taken out
pub added-leads_back : (d : Deferrals) (name : StateName) (packet : Packet) (now : ℕ) → IsDeferrals d
    → DefersBack (Added (length d.list) (record { name = name; packet = packet; held_at = now }) ∷ []) d (with_held d name packet now)
added-leads_back d name packet now is =
    let y : Held = record { name = name; packet = packet; held_at = now } in
    let n = length d.list in
    let end : n ≤ n = omega arith in
    LeadsBack-one Finds IsDeferrals put_back (Added n y) d (with_held d name packet now)
    (subst (λ (hs : List Held). slice_get hs n ≡ Some y) (insert_end d.list y) (with_position-stands d.list n None (Some y) end))
    is
    (ap (λ (hs : List Held). record d { list = remove hs n }) (sym (insert_end d.list y))
    ∙ ap (λ (hs : List Held). record d { list = hs }) (with_position-back d.list n None (Some y) end))
