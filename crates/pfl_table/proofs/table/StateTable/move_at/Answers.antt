use Rattle.std.proofs.Common.{◌≡◌, IsSome, IfSome, Option, Some, ◌∙◌, ap, sym, subst}
use Rattle.std.specs.Option.{option_map}
use Rattle.pfl_edits.specs.Maps as maps
use Rattle.pfl_track.specs.declared.state.State.{State}
use Rattle.pfl_track.specs.Motions.{motion}
use Rattle.pfl_table.specs.declared.row.Row.{Row}
use Rattle.pfl_table.specs.Tables.{Table, IsTable, states_of, with_row, with_moved}
use Rattle.pfl_table.specs.inner.Filed.{SameKeys, table_of}
use Rattle.pfl_table.proofs.Moving.{moved-none, moved-table, moved-known, moved-keys, moved-is, moved-former}
use Rattle.pfl_table.proofs.Tables.{get-states_of}
use Rattle.pfl_table.proofs.Viewed.{get-rows_of}
use Rattle.pfl_table.proofs.table.StateTable.move_at.Goals as goal

pub returns-in_err-place-clause-former : goal.returns-in_err-place-clause-former
returns-in_err-place-clause-former g c =
    let t = table_of c.self.inside.stored in
    rw (← c.self.view_is) (rw c.from_residual.ensures
    (ap (λ (o : Option Row). option_map motion (option_map (λ (r : Row). r.state) o)) (c.in_err-place.ensures.row
    ∙ sym (get-rows_of c.self.inside.stored.links c.args.name))
    ∙ sym (ap (option_map motion) (get-states_of t c.args.name))))

pub returns-in_err-place-clause-moved : goal.returns-in_err-place-clause-moved
returns-in_err-place-clause-moved g c =
    subst (λ (t : Table). t ≡ with_moved t c.args.name c.args.motion.now c.args.timeout) c.self.view_is
    (moved-none (table_of c.self.inside.stored) c.args.name c.args.motion.now c.args.timeout
    (get-rows_of c.self.inside.stored.links c.args.name ∙ sym c.in_err-place.ensures.row))

pub renew-requires-clause-table : goal.renew-requires-clause-table
renew-requires-clause-table g c =
    let t = table_of c.self.inside.stored in
    let at = c.in_ok-place.ensures.row ∙ sym (get-rows_of c.self.inside.stored.links c.args.name) in
    subst (λ (s : State). IsTable (with_row t s.name (Some (record { state = s; timeout = c.args.timeout })))) (sym c.with_motion.ensures)
    (moved-table t c.args.name c.args.motion.now c.args.timeout c.self.invariant c.in_ok-place.row.now at)

pub renew-requires-clause-known : goal.renew-requires-clause-known
renew-requires-clause-known g c =
    let t = table_of c.self.inside.stored in
    let at = c.in_ok-place.ensures.row ∙ sym (get-rows_of c.self.inside.stored.links c.args.name) in
    subst (λ (s : State). IsSome (maps.get t.rows s.name)) (sym c.with_motion.ensures)
    (moved-known t c.args.name c.args.motion.now c.args.timeout c.self.invariant c.in_ok-place.row.now at)

pub renew-requires-clause-keys : goal.renew-requires-clause-keys
renew-requires-clause-keys g c =
    let t = table_of c.self.inside.stored in
    let at = c.in_ok-place.ensures.row ∙ sym (get-rows_of c.self.inside.stored.links c.args.name) in
    subst (λ (s : State). IfSome (maps.get t.rows s.name) (λ was. SameKeys was (record { state = s; timeout = c.args.timeout }))) (sym c.with_motion.ensures)
    (moved-keys t c.args.name c.args.motion.now c.args.timeout c.self.invariant c.in_ok-place.row.now at)

pub invariant_of-self : goal.invariant_of-self
invariant_of-self g c =
    let t = table_of c.self.inside.stored in
    let at = c.in_ok-place.ensures.row ∙ sym (get-rows_of c.self.inside.stored.links c.args.name) in
    subst IsTable (sym c.renew.ensures.set)
    (subst (λ (s : State). IsTable (with_row t s.name (Some (record { state = s; timeout = c.args.timeout })))) (sym c.with_motion.ensures)
    (moved-table t c.args.name c.args.motion.now c.args.timeout c.self.invariant c.in_ok-place.row.now at))

pub returns-clause-former : goal.returns-clause-former
returns-clause-former g c =
    let t = table_of c.self.inside.stored in
    let at = c.in_ok-place.ensures.row ∙ sym (get-rows_of c.self.inside.stored.links c.args.name) in
    ap Some c.motion-former.ensures
    ∙ subst (λ (u : Table). Some (motion c.in_ok-place.row.now.state) ≡ option_map motion (maps.get (states_of u) c.args.name)) c.self.view_is
    (moved-former t c.args.name c.args.motion.now c.args.timeout c.self.invariant c.in_ok-place.row.now at)

pub returns-clause-moved : goal.returns-clause-moved
returns-clause-moved g c =
    let t = table_of c.self.inside.stored in
    let at = c.in_ok-place.ensures.row ∙ sym (get-rows_of c.self.inside.stored.links c.args.name) in
    subst (λ (u : Table). table_of c.renew.new.self ≡ with_moved u c.args.name c.args.motion.now c.args.timeout) c.self.view_is
    (c.renew.ensures.set ∙ (ap (λ (s : State). with_row t s.name (Some (record { state = s; timeout = c.args.timeout }))) c.with_motion.ensures
    ∙ moved-is t c.args.name c.args.motion.now c.args.timeout c.self.invariant c.in_ok-place.row.now at))
