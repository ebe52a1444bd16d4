-- What moving a row keeps of a table, and what a packet's key finds.
use Rattle.std.specs.Prelude.{◌≡◌, ℕ, Option, Some, None, IfSome, IsSome, refl}
use Rattle.std.specs.Option.{option_map}
use Rattle.std.proofs.Common.{◌∙◌, ap, sym, subst}
use Rattle.pfl_base.specs.declared.direction.Dir.{Dir}
use Rattle.pfl_base.specs.declared.direction.Dir.TheVariants.{Inbound, Outbound}
use Rattle.pfl_base.specs.declared.flow.Key.{Key}
use Rattle.pfl_base.specs.declared.state_name.StateName.{StateName}
use Rattle.pfl_base.proofs.ForCallers.{names_total, names_exact}
use Rattle.pfl_edits.specs.Maps as maps
use Rattle.pfl_edits.specs.Maps.{set_at}
use Rattle.pfl_edits.proofs.ForCallers.{set_at-same}
use Rattle.pfl_track.specs.declared.motion.Motion.{Motion}
use Rattle.pfl_track.specs.declared.state.State.{State}
use Rattle.pfl_track.specs.Motions.{motion}
use Rattle.pfl_table.specs.declared.row.Row.{Row}
use Rattle.pfl_table.specs.Tables.{Table, IsTable, states_of, found, with_row, row_moved, with_moved}
use Rattle.pfl_table.specs.inner.Ordering.{flow_of}
use Rattle.pfl_table.specs.inner.Filed.{Filing, AreFiled, SameKeys, link_found, table_of, row_of_link}
use Rattle.pfl_table.proofs.Setting.{table_changed}
use Rattle.pfl_table.proofs.Tables.{get-states_of}
use Rattle.pfl_table.proofs.Viewed.{find-key, mapped_twice}

module _ (t : Table) (name : StateName) (to : Motion) (timeout : ℕ) where
  -- no row of the name is moved
  pub moved-none : maps.get t.rows name ≡ None → t ≡ with_moved t name to timeout
  moved-none none =
      ap (λ m. record { limit = t.limit; rows = m })
      (sym (set_at-same names_total names_exact t.rows name (option_map (row_moved to timeout) (maps.get t.rows name))
      (none ∙ sym (ap (option_map (row_moved to timeout)) none))))

  module _ (is : IsTable t) (r : Row) (at : Some r ≡ maps.get t.rows name) where
    abbrev moved : Row
    moved = row_moved to timeout r

    held : Some r.state ≡ maps.get (states_of t) name
    held = ap (option_map (λ (q : Row). q.state)) at ∙ sym (get-states_of t name)

    -- the row is of this name,
    pub moved-name : name ≡ r.state.name
    moved-name = sym (is.states.filed name r.state (sym held))

    there : maps.get (states_of t) r.state.name ≡ Some r.state
    there = ap (maps.get (states_of t)) (sym moved-name) ∙ sym held

    -- it keeps the table one,
    pub moved-table : IsTable (with_row t r.state.name (Some moved))
    moved-table = subst (λ (n : StateName). IsTable (with_row t n (Some moved))) moved-name
        (table_changed t name moved r.state moved-name is held
        (subst (λ (o : Option State). IfSome o (λ s. s.wire ≡ r.state.wire)) (sym there) refl)
        (subst (λ (o : Option State). IfSome o (λ s. s.stack ≡ r.state.stack)) (sym there) refl))

    -- it comes in the place of that row,
    pub moved-known : IsSome (maps.get t.rows r.state.name)
    moved-known = subst IsSome (at ∙ ap (maps.get t.rows) moved-name) refl

    -- whose keys and rule it has,
    pub moved-keys : IfSome (maps.get t.rows r.state.name) (λ was. SameKeys was moved)
    moved-keys = subst (λ (o : Option Row). IfSome o (λ was. SameKeys was moved)) (at ∙ ap (maps.get t.rows) moved-name)
        (record { name = refl; wire = refl; stack = refl; rule = refl })

    -- and it is the one that was moved
    pub moved-is : with_row t r.state.name (Some moved) ≡ with_moved t name to timeout
    moved-is =
        ap (λ (n : StateName). with_row t n (Some moved)) (sym moved-name)
        ∙ ap (λ (o : Option Row). record { limit = t.limit; rows = set_at t.rows name o }) (ap (option_map (row_moved to timeout)) at)

    -- as it was moved before
    pub moved-former : Some (motion r.state) ≡ option_map motion (maps.get (states_of t) name)
    moved-former = ap (option_map motion) held

-- the state of a packet is that of the row that its flow finds
pub link_found-state : (f : Filing) → AreFiled f → (key : Key) (direction : Dir)
    → option_map (λ (r : Row). r.state) (option_map row_of_link (link_found f.links (flow_of key) direction))
    ≡ found (states_of (table_of f)) key direction
link_found-state f are key Inbound = mapped_twice (λ (r : Row). r.state) row_of_link _ ∙ sym (find-key f are.rising (λ (s : State). s.wire) are.wires key)
link_found-state f are key Outbound = mapped_twice (λ (r : Row). r.state) row_of_link _ ∙ sym (find-key f are.rising (λ (s : State). s.stack) are.stacks key)
