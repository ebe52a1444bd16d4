-- What reading needs to compute.
use Rattle.std.specs.Prelude.{ℕ}
use Rattle.pfl_wire.specs.Fields.{number_at, pads_at, name_at, peer_at, address_at, end_at, ends_at, class_at}
use Rattle.pfl_wire.specs.Records.{keys_at, state_at, update_at, clear_at, bulk_at, record_at}
use Rattle.pfl_wire.specs.Reading.{records_at, subheader_at, group_at, groups_at, print_at, header_at, reading}

-- what reading needs to compute on literals
unfoldable pub computing : ℕ
unfolding number_at pads_at address_at name_at peer_at end_at ends_at class_at keys_at state_at update_at clear_at bulk_at record_at
    records_at subheader_at group_at groups_at print_at header_at reading
computing = 0
